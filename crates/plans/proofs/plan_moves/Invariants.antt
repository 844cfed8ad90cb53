-- `plan_moves` meets its contract: before each level the plan has the moves of the levels below.
use Rattle.plans.proofs.Planning.{Planning}
use Rattle.plans.proofs.plan_moves.Given as goal

abbrev pub invariant-loop-level : goal.invariant-loop-level
invariant-loop-level l = Planning l.height l.old l.new l.gone l.wanted l.owners l.sofar l.level
