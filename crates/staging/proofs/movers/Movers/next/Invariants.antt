-- `next` meets its contract: nobody from `k` on can go.
use mathlib.Core.Path.{◌≡◌}
use Rattle.staging.specs.Choice.{highest, can_go?, next_of, has, graph_of}
use Rattle.staging.proofs.movers.Movers.next.Given as goal

abbrev pub invariant-loop-k : goal.invariant-loop-k
invariant-loop-k l = highest l.k (can_go? (graph_of l.self) (has l.away)) ≡ next_of (graph_of l.self) (has l.away)
