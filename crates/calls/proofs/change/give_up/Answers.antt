-- `calls::change::give_up` meets its contract: a refusal where nothing is held, and otherwise the others resettled.
use mathlib.Core.Path.{sym, subst}
use mathlib.Core.List.{List}
use Prim.Native.Nat.{ℕ}
use Rattle.std.proofs.Math.Nat.{pos_of_ne-zero}
use Rattle.layout.specs.Rows.{no_level}
use Rattle.refusal.specs.declared.Refusal.TheVariants.{HoldsNone}
use Rattle.calls.specs.Changes.{Target, given_up}
use Rattle.rules.proofs.Given.{gives_same, refusal_given}
use Rattle.calls.proofs.Changing.{others_counted, release_by_nobody}
use Rattle.calls.proofs.Changed.{release_gives}
use Rattle.calls.proofs.change.give_up.Goals as goal

pub returns-then-node-eq0 : goal.returns-then-node-eq0
returns-then-node-eq0 c = gives_same (refusal_given HoldsNone _) (release_by_nobody _ _ _ c.if-node-eq0.true)

pub resettle-done-requires : goal.resettle-done-requires
resettle-done-requires c =
    let rest = others_counted c.args.tenant c.requires.looked c.without-rest.ensures in
    let goal : List ℕ → Type 0 = λ cs. Target c.args.height c.args.table.now c.args.tenant cs no_level in
    let target = subst goal (sym rest) (given_up (pos_of_ne-zero c.if-node-eq0.false)) in
    record { ready = c.requires.ready; looked = c.requires.looked; target = target }

pub returns : goal.returns
returns c =
    let rest = others_counted c.args.tenant c.requires.looked c.without-rest.ensures in
    release_gives c.requires.ready c.requires.looked.in_order c.if-node-eq0.false (rw rest at c.resettle-done.ensures)
