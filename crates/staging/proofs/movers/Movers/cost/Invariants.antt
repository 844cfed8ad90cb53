-- `cost` meets its contract: the sum over the movers below `k`.
use mathlib.Core.Path.{◌≡◌}
use Prim.Native.Nat.{◌+◌, ◌*◌, ◌≤◌}
use lib.ListN.{get_or}
use Rattle.staging.specs.Graph.{sum_over}
use Rattle.staging.specs.Choice.{has}
use Rattle.staging.specs.Mover.{nobody}
use Rattle.staging.proofs.Steps.{most}
use Rattle.staging.proofs.movers.Movers.cost.Given as goal

abbrev pub invariant-loop-k : goal.invariant-loop-k
invariant-loop-k l = (l.sum ≤ l.k * most) × (l.sum ≡ sum_over l.k (has l.group) (λ j. (get_or l.self.list j nobody).pages * 8 + 1))
