-- `layout::Counts::layout` meets its contract: before each level the rows of the levels below are written, and the machine's state is the
-- one from which it finds the rest.
use mathlib.Core.Path.{◌≡◌, refl}
use Prim.Native.Nat.{ℕ}
use native.Mathlib.Omega.{arith}
use borrow.Author.Rules.{rules}
use lib.ListN.{length}
use Rattle.layout.proofs.Climbing.{start_state}
use Rattle.layout.proofs.Turn.{climbed_none, climbed_next, placed_fits, placed_markable, climbed_all}
use Rattle.layout.proofs.Counts.layout.Goals as goal

pub loop-level-init : goal.loop-level-init
loop-level-init c =
    let e : ◌≡◌ {A = ℕ} (length c.args.self.at) 13 = search rules in
    climbed_none e c.requires refl

pub placed-s-requires : goal.placed-s-requires
placed-s-requires c = omega (arith, placed_fits c.loop-level-test.true c.loop-level.invariant, start_state c.loop-level.s)

pub mark_in-requires-clause-state : goal.mark_in-requires-clause-state
mark_in-requires-clause-state c = placed_markable c.loop-level-test.true c.loop-level.invariant c.placed-s.ensures

pub risen-s-requires : goal.risen-s-requires
risen-s-requires c = placed_markable c.loop-level-test.true c.loop-level.invariant c.placed-s.ensures

pub loop-level-preserved : goal.loop-level-preserved
loop-level-preserved c =
    climbed_next c.loop-level-test.true c.loop-level.invariant (start_state c.loop-level.s) c.running.ensures c.placed-s.ensures
    c.mark_in.ensures c.risen-s.ensures

pub returns : goal.returns
returns c = climbed_all (omega arith) c.loop-level.invariant
