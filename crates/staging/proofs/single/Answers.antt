-- `single` meets its contract: a power of at most 7 does not leave the 8 bits.
use mathlib.Core.Path.{◌∙◌}
use Prim.Native.Nat.{◌^◌}
use native.Mathlib.Nat.{one-mul}
use native.Mathlib.Omega.{arith}
use lib.Pow.{shl_exact}
use Rattle.staging.proofs.single.Goals as goal

pub returns : goal.returns
returns c = shl_exact {a = 1} 1 c.args.k 8 (omega arith) (omega arith) ∙ one-mul (2 ^ c.args.k)
