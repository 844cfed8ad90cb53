-- `layout::power` meets its contract: a power of at most 12 does not leave the 16 bits.
use mathlib.Core.Path.{◌∙◌}
use Prim.Native.Nat.{◌^◌}
use native.Mathlib.Nat.{one-mul}
use native.Mathlib.Omega.{arith}
use lib.Pow.{shl_exact}
use Rattle.layout.proofs.power.Goals as goal

pub returns : goal.returns
returns c = shl_exact {a = 1} 1 c.args.e 16 (omega arith) (omega arith) ∙ one-mul (2 ^ c.args.e)
