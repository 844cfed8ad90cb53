-- What a height of at most 12 bounds.
use Prim.Native.Nat.{ℕ, ◌^◌, ◌≤◌}
use lib.Pow.{pow_mono}

pub power_le_4096 : (e : ℕ) → e ≤ 12 → 2 ^ e ≤ 4096
power_le_4096 e h = pow_mono {j = 12} h
