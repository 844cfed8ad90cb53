-- `all_gone` meets its contract: what the movers that may still go leave is what all leave.
use mathlib.Core.Path.{◌≡◌}
use Prim.Native.Nat.{◌-◌}
use Rattle.staging.specs.Graph.{away}
use Rattle.staging.specs.Choice.{has, graph_of, order_of}
use Rattle.staging.proofs.Steps.{left_of}
use Rattle.staging.proofs.movers.Movers.all_gone.Given as goal

abbrev pub invariant-loop : goal.invariant-loop
invariant-loop l = left_of l.self (l.self.n - l.counter) l.away ≡ away (has l.staged) (order_of (graph_of l.self) (has l.staged))
