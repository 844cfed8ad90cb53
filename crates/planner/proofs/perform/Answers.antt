-- `planner::perform` meets its contract: the moves that `run` hands back are few, and stand in the list.
use native.Mathlib.Omega.{arith}
use lib.ListN.{length}
use Rattle.plans.proofs.PlanOf.{count_in_plan_of}
use Rattle.admission.specs.Value.{lent}
use Rattle.planner.proofs.Moves.{moves_few, moves_fit}
use Rattle.planner.proofs.perform.Goals as goal

pub fill-requires : goal.fill-requires
fill-requires c =
    let a = c.args in
    let S = lent a.table.now a.line.now in
    let n = length a.moves.now in
    let counted = count_in_plan_of c.in_ok-admitted.admitted.plan _ c.in_ok-admitted.ensures.plan in
    (omega (arith, counted, moves_few a.height S a.request n), omega (arith, counted, moves_fit a.height S a.request n))
