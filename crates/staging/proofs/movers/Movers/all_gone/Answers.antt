-- `all_gone` meets its contract: what the movers that may still go leave is what all leave.
use mathlib.Core.Path.{sym, ◌∙◌}
use native.Mathlib.Nat.{sub-zero}
use native.Mathlib.Omega.{arith}
use Rattle.staging.specs.Choice.{has, order_of}
use Rattle.staging.proofs.Highest.{some_below, none_below}
use Rattle.staging.proofs.Steps.{nobody_left, one_goes, next_le}
use Rattle.staging.proofs.movers.Movers.all_gone.Goals as goal

pub loop-init : goal.loop-init
unfolding order_of
loop-init c = rw sub-zero

pub with_mover-away-requires : goal.with_mover-away-requires
with_mover-away-requires c =
    omega (arith, some_below _ _ (sym c.next.ensures ∙ c.in-Some.is), next_le c.args.self (has c.loop.away), c.args.self.few)

pub loop-preserved : goal.loop-preserved
loop-preserved c =
    one_goes c.args.self c.loop.counter c.loop.away c.with_mover-away.result c.in-Some.k c.loop-test.true
    (some_below _ _ (sym c.next.ensures ∙ c.in-Some.is)) c.with_mover-away.ensures.members
    ∙ c.loop.invariant

pub returns-in_default : goal.returns-in_default
returns-in_default c =
    nobody_left c.args.self _ c.loop.away (none_below _ (sym c.next.ensures ∙ c.in_default.is)) ∙ c.loop.invariant
