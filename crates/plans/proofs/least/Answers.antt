-- `least` meets its contract: the seven tries give the least.
use native.Mathlib.Omega.{arith}
use Rattle.plans.proofs.LeastIndex.{least_of_seven}
use Rattle.plans.proofs.least.Goals as goal

pub returns : goal.returns
returns c =
    let fifth = c.before.before.before in
    let fourth = fifth.before.before in
    let third = fourth.before.before in
    let a = third.before.before.before in
    let tries = least_of_seven a.args.old a.args.new a.args.from (omega arith) in
    rw (
      tries,
      ← third.better-here.ensures,
      ← third.better-at_start.ensures,
      ← third.better-at_lone.ensures,
      ← fourth.after.ensures,
      ← fourth.better-behind_hole.ensures,
      ← fifth.better-behind_run.ensures,
      ← c.after-2.ensures,
      ← c.better-behind_lone.ensures,
    )
    c.better.ensures
