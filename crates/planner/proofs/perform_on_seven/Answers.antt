-- `planner::perform_on_seven` meets its contract: a list of seven entries without a move is lent, and handed back as a plan.
use mathlib.Core.Path.{ap}
use Rattle.plans.specs.declared.Plan.{Plan}
use Rattle.planner.proofs.ByValue.{by_value}
use Rattle.planner.proofs.perform_on_seven.Goals as goal

pub returns : goal.returns
returns c =
    let a = c.args in
    by_value a.height a.request a.table.now a.line.now c.none.result.moves (ap (λ (p : Plan). p.moves) c.none.ensures) c.in_ok-report.ensures
