-- The machine's steps on a state as a program keeps it.
use mathlib.Core.Path.{◌≡◌, refl, ap}
use Prim.Native.Nat.{ℕ, suc, ◌+◌, ◌/◌, ◌%◌}
use native.Mathlib.Numerals.{add-one}
use native.Mathlib.Omega.{arith}
use Rattle.std.specs.Prelude.{Option, Some, None}
use Rattle.std.specs.Int.{div_ceil}
use Rattle.layout.specs.Layout.{Half, even, odd, half, full, lone, start, rise_full, rise_lone, rise}
use Rattle.layout.specs.Climb.{state_with, state_of}
use Rattle.layout.specs.declared.Climb.{Climb}
use Rattle.layout.specs.declared.Lone.{Lone}
use Rattle.layout.proofs.States.{twice, twice_half}

pub start_state : (m : Climb) → start (state_of m) ≡ m.before
start_state m = go m.lone
  where
    go : (b : Option Lone) → start (state_with m.before b) ≡ m.before
    go None = refl
    go (Some b) = refl

-- half a number, rounded up
up_even : (n w : ℕ) → w + w ≡ n → w ≡ div_ceil n 2
up_even n w t = let r : n % 2 ≡ 0 = omega arith in rw r (omega arith)

up_odd : (n w : ℕ) → suc (w + w) ≡ n → suc w ≡ div_ceil n 2
up_odd n w t = let r : n % 2 ≡ 1 = omega arith in rw r (omega arith)

pub rise_full_up : (u : ℕ) → rise (full u) ≡ full (div_ceil u 2)
rise_full_up u = go (half u) (twice_half u)
  where
    go : (x : Half) → twice x ≡ u → rise_full x ≡ full (div_ceil u 2)
    go (even w) t = ap full (up_even u w t)
    go (odd w) t = ap full (up_odd u w t)

pub rise_lone_even : (v j k : ℕ) → v % 2 ≡ 0 → rise (lone v j k) ≡ lone (v / 2) j (k + 1)
rise_lone_even v j k e = go (half v) (twice_half v)
  where
    go : (x : Half) → twice x ≡ v → rise_lone j k x ≡ lone (v / 2) j (k + 1)
    go (even w) t = rw add-one (ap (λ (u : ℕ). lone u j (suc k)) (omega arith))
    go (odd w) t = absurd (omega arith)

pub rise_lone_odd : (v j k : ℕ) → ¬ (v % 2 ≡ 0) → rise (lone v j k) ≡ full (div_ceil v 2)
rise_lone_odd v j k d = go (half v) (twice_half v)
  where
    go : (x : Half) → twice x ≡ v → rise_lone j k x ≡ full (div_ceil v 2)
    go (even w) t = absurd (d (omega arith))
    go (odd w) t = ap full (up_odd v w t)
