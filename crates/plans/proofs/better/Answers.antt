-- `better` meets its contract: each test that fails decides it.
use native.Mathlib.Omega.{arith}
use Rattle.std.proofs.lemmas.Grind.{common_steps}
use Rattle.plans.specs.Plan.{better_of}
use Rattle.plans.proofs.better.Goals.{then-candidate-from, else-candidate-from, then-best-candidate, else-best-candidate, then-holds, else-holds}
use Rattle.plans.proofs.better.Goals as goal

pub returns-then-not-holds : goal.returns-then-not-holds
unfolding better_of
returns-then-not-holds c =
    elim c.if-holds.branch [
      | then-holds w ↦ elim c.if-best-candidate.branch [
        | then-best-candidate v ↦ elim c.if-candidate-from.branch [
          | then-candidate-from u ↦ grind (arith, common_steps)
          | else-candidate-from u ↦ grind (arith, common_steps)
        ]
        | else-best-candidate v ↦ grind (arith, common_steps)
      ]
      | else-holds w ↦ grind (arith, common_steps)
    ]
