-- The depth of a node is the place of its highest one bit, counted from 0.
use mathlib.Core.Path.{◌≡◌, refl}
use Prim.Native.Nat.{ℕ, zero, suc, ◌+◌, ◌/◌, ◌^◌, ◌≤◌, ◌<◌}
use native.Mathlib.Omega.{arith}
use native.Mathlib.Nat.{pow-suc, le_antisymm, lt_of_not-le}
use lib.Count.{count_leading_zeros, leading_top}
use lib.Pow.{pow_mono, pow_pos}
use Rattle.tree.specs.Node.{steps_up, depth, one_more_if}

-- 2^d is the highest one bit of n
pub record Highest (d n : ℕ) : Type 0 where
  pub low : 2 ^ d ≤ n
  pub high : n < 2 ^ suc d

abbrev double : (d n : ℕ) → Highest d (n / 2) → Highest (suc d) n
double d n b =
    record {
      low = omega (arith, b.low, pow-suc 2 d);
      high = omega (arith, b.high, pow-suc 2 (suc d));
    }

steps_up_highest : (f n : ℕ) → 0 < n → n ≤ f → Highest (steps_up f n) n
unfolding steps_up
steps_up_highest zero n p q = absurd (omega arith)
steps_up_highest (suc f) n p q = go (n / 2) refl (λ p'. steps_up_highest f (n / 2) p' (omega arith))
  where
    go : (m : ℕ) → n / 2 ≡ m → (0 < n / 2 → Highest (steps_up f (n / 2)) (n / 2)) → Highest (one_more_if m (steps_up f (n / 2))) n
    go zero e rest = record { low = p; high = omega arith }
    go (suc m) e rest = double (steps_up f (n / 2)) n (rest (omega arith))

pub depth_highest : (n : ℕ) → 0 < n → Highest (depth n) n
unfolding depth steps_up
depth_highest n p = steps_up_highest n n p (omega arith)

highest_le : (d d' n : ℕ) → Highest d n → Highest d' n → d ≤ d'
highest_le d d' n b b' = go (λ (q : suc d' ≤ d). omega (arith, pow_mono q, b.low, b'.high))
  where
    go : ¬ (suc d' ≤ d) → d ≤ d'
    go f = omega (arith, lt_of_not-le f)

-- so a number has one place of its highest one bit
pub highest_unique : (d d' n : ℕ) → Highest d n → Highest d' n → d ≡ d'
highest_unique d d' n b b' = le_antisymm (highest_le d d' n b b') (highest_le d' d n b' b)

pub depth_is : (d n : ℕ) → Highest d n → depth n ≡ d
depth_is d n b = highest_unique (depth n) d n (depth_highest n (omega (arith, b.low, pow_pos d))) b

-- the zeros above the highest one bit, that bit, and the bits below it make all k bits
pub leading_depth : (k n : ℕ) → 0 < n → n < 2 ^ k → count_leading_zeros k n + suc (depth n) ≡ k
leading_depth k n p q =
    let t = leading_top k n p q in
    let e : depth n ≡ t.0 = depth_is t.0 n (record { low = t.2; high = t.3 }) in
    omega (arith, t.1)
