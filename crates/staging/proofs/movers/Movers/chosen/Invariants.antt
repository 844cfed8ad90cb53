-- `chosen` meets its contract: the best of `best` and the groups below `group` is the best of all.
use mathlib.Core.Path.{◌≡◌}
use Rattle.staging.specs.Choice.{graph_of, best_below, chosen_of, Prices}
use Rattle.staging.proofs.movers.Movers.chosen.Given as goal

abbrev pub invariant-loop-group : goal.invariant-loop-group
invariant-loop-group l = (best_below (graph_of l.self) l.group l.best.group ≡ chosen_of (graph_of l.self)) × Prices l.self l.best
