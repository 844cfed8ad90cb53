-- `cheaper` meets its contract: each answer by the tests that led to it.
use mathlib.Core.Path.{sym, ◌∙◌}
use native.Mathlib.Omega.{arith}
use Rattle.staging.specs.Choice.{graph_of}
use Rattle.staging.proofs.Steps.{better_left, better_taken, better_fails}
use Rattle.staging.proofs.movers.Movers.cheaper.Goals.{else-cost-best-via-then-cost-best+else-works as fails}
use Rattle.staging.proofs.movers.Movers.cheaper.Goals.{else-cost-best-via-else-cost-best as dearer}
use Rattle.staging.proofs.movers.Movers.cheaper.Goals as goal

pub returns-then-works-clause-group : goal.returns-then-works-clause-group
returns-then-works-clause-group c =
    let a = c.args in
    better_taken (graph_of a.self) a.group a.best.group (omega arith) (sym c.works.ensures ∙ c.if-works.true)

pub returns-else-cost-best-clause-group : goal.returns-else-cost-best-clause-group
returns-else-cost-best-clause-group c =
    let a = c.args in
    elim c.else-cost-best.branch [
      | fails w ↦ better_fails (graph_of a.self) a.group a.best.group (omega arith) (sym w.works.ensures ∙ w.if-works.false)
      | dearer w ↦ better_left (graph_of a.self) a.group a.best.group (omega arith)
    ]
