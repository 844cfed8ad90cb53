-- `cost` meets its contract: the sum over the movers below `k`.
use native.Mathlib.Omega.{arith}
use Rattle.staging.specs.Choice.{has}
use Rattle.staging.proofs.Steps.{cost_of_all}
use Rattle.staging.proofs.movers.Movers.cost.Goals as goal

pub returns : goal.returns
returns c = cost_of_all c.args.self (has c.args.group) c.loop-k.k c.loop-k.sum (omega arith) c.loop-k.invariant.1
