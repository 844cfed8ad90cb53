-- `chosen` meets its contract: the best of `best` and the groups below `group` is the best of all.
use mathlib.Core.Path.{ap}
use Prim.Native.Nat.{ℕ}
use native.Mathlib.Omega.{arith}
use lib.Pow.{pow_pos}
use Rattle.staging.specs.Choice.{graph_of, best_below, chosen_of}
use Rattle.staging.proofs.Steps.{free_by_groups}
use Rattle.staging.proofs.movers.Movers.chosen.Goals as goal

pub loop-group-init : goal.loop-group-init
unfolding chosen_of
loop-group-init c = (ap (λ (s : ℕ). best_below (graph_of c.args.self) s s) c.all-everyone.ensures, c.cost.ensures)

pub better-best-requires : goal.better-best-requires
better-best-requires c =
    let m = c.args.self in (
      c.loop-group.invariant.1,
      free_by_groups m c.all_gone-free.result c.all_gone-free.ensures,
      omega (arith, pow_pos m.n),
    )
