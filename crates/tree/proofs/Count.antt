-- Two tests with equal counts: as many numbers pass only the first as pass only the second. And what a count of one or two says.
use mathlib.Core.Path.{◌≡◌, refl, sym, ◌∙◌}
use mathlib.Core.Bool.{Bool, true, false, not, false≢true, ◌&&◌}
use Prim.Native.Nat.{ℕ, zero, suc, ◌+◌, ◌<◌}
use native.Mathlib.Omega.{arith}
use native.Mathlib.Decide.{ℕ_discrete}
use Rattle.tree.specs.Held.{one_if, count}
use Rattle.tree.proofs.Sum.{count_of_none}

-- ---- two Boolean values

pub equal_of_both_ways : (x y : Bool) → (x ≡ true → y ≡ true) → (y ≡ true → x ≡ true) → x ≡ y
equal_of_both_ways true y p q = sym (p refl)
equal_of_both_ways false true p q = q refl
equal_of_both_ways false false p q = refl

pub passes_only_first : (x y : Bool) → x ≡ true → ¬ (y ≡ true) → (x && not y) ≡ true
passes_only_first true true p q = absurd (q refl)
passes_only_first true false p q = refl
passes_only_first false y p q = p

pub passes_first : (x y : Bool) → (x && not y) ≡ true → x ≡ true
passes_first true y p = refl
passes_first false y p = p

pub fails_second : (x y : Bool) → (x && not y) ≡ true → ¬ (y ≡ true)
fails_second true true p q = false≢true p
fails_second true false p q = false≢true q
fails_second false y p q = false≢true p

differences_of_bits : (x y : Bool) → one_if (x && not y) + one_if y ≡ one_if (y && not x) + one_if x
differences_of_bits true true = refl
differences_of_bits true false = refl
differences_of_bits false true = refl
differences_of_bits false false = refl

one_if_true : (x : Bool) → x ≡ true → one_if x ≡ 1
one_if_true true e = refl
one_if_true false e = absurd (false≢true e)

-- ---- the numbers that pass only the first of two tests

abbrev pub only_first : (ℕ → Bool) → (ℕ → Bool) → ℕ → Bool
only_first f g k = f k && not (g k)

pub differences_of_counts : (n : ℕ) (f g : ℕ → Bool) → count n (only_first f g) + count n g ≡ count n (only_first g f) + count n f
unfolding count
differences_of_counts zero f g = refl
differences_of_counts (suc n) f g = omega (arith, differences_of_bits (f n) (g n), differences_of_counts n f g)

pub equal_differences : (n : ℕ) (f g : ℕ → Bool) → count n f ≡ count n g → count n (only_first f g) ≡ count n (only_first g f)
equal_differences n f g e = omega (arith, differences_of_counts n f g)

-- ---- counts of one and of two

pub count_of_one : (n : ℕ) (f : ℕ → Bool) (k : ℕ) → k < n → f k ≡ true → 0 < count n f
unfolding count
count_of_one zero f k k<n p = omega arith
count_of_one (suc n) f k k<n p =
    elim (ℕ_discrete k n) [
      | yes e ↦ omega (arith, one_if_true (f n) (rw e at p))
      | no ne ↦ omega (arith, count_of_one n f k (omega arith) p)
    ]

pub count_of_two : (n : ℕ) (f : ℕ → Bool) (j k : ℕ) → ¬ (j ≡ k) → j < n → k < n → f j ≡ true → f k ≡ true → 1 < count n f
unfolding count
count_of_two zero f j k j≠k j<n k<n p q = omega arith
count_of_two (suc n) f j k j≠k j<n k<n p q =
    elim (ℕ_discrete j n) [
      | yes e ↦ omega (arith, one_if_true (f n) (rw e at p), count_of_one n f k (omega arith) q)
      | no j≠n ↦
          elim (ℕ_discrete k n) [
            | yes e ↦ omega (arith, one_if_true (f n) (rw e at q), count_of_one n f j (omega arith) p)
            | no k≠n ↦ omega (arith, count_of_two n f j k j≠k (omega arith) (omega arith) p q)
          ]
    ]

pub one_of_count : (n : ℕ) (f : ℕ → Bool) → 0 < count n f → (k : ℕ) × (k < n) × (f k ≡ true)
unfolding count
one_of_count zero f c = absurd (omega arith)
one_of_count (suc n) f c = by_last (f n) refl (one_of_count n f)
  where
    by_last : (x : Bool) → f n ≡ x → (0 < count n f → (k : ℕ) × (k < n) × (f k ≡ true)) → (k : ℕ) × (k < suc n) × (f k ≡ true)
    by_last true e ih = (n, omega arith, e)
    by_last false e ih =
        let c' : 0 < one_if false + count n f = rw e at c in
        let r = ih (omega arith) in
        (r.0, omega arith, r.2)

-- ---- two tests with equal counts of which the first implies the second: the second implies the first

pub equal_counts_converse : (n : ℕ) (f g : ℕ → Bool) → count n f ≡ count n g → ((i : ℕ) → f i ≡ true → g i ≡ true)
    → (i : ℕ) → i < n → g i ≡ true → f i ≡ true
equal_counts_converse n f g e implies i q p = by_value (f i) refl
  where
    none_only_first : count n (only_first f g) ≡ 0
    none_only_first = count_of_none n (only_first f g) (λ k r s. fails_second (f k) (g k) s (implies k (passes_first (f k) (g k) s)))

    by_value : (b : Bool) → f i ≡ b → f i ≡ true
    by_value true v = v
    by_value false v =
        let only_second : only_first g f i ≡ true = passes_only_first (g i) (f i) p (λ t. false≢true (sym v ∙ t)) in
        absurd (omega (arith, none_only_first, equal_differences n f g e, count_of_one n (only_first g f) i q only_second))
