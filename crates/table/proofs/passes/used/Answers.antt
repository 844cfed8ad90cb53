-- `table::passes::used` meets its contract: what is not 0 is used.
use native.Mathlib.Omega.{arith}
use Rattle.table.proofs.Used.{used_and_zeros}
use Rattle.table.proofs.passes.used.Goals as goal

pub overflow_sub-result : goal.overflow_sub-result
overflow_sub-result c = omega (arith, used_and_zeros c.args.part.now, c.zeros.ensures)

pub returns : goal.returns
returns c = omega (arith, used_and_zeros c.args.part.now, c.zeros.ensures)
