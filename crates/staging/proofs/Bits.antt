-- Groups by number: the binary digits of a number, and the number of a group.
use mathlib.Core.Path.{◌≡◌, refl, sym, ap, ap₂, ◌∙◌}
use mathlib.Core.Bool.{Bool, true, false, not, ◌&&◌, ◌||◌, cond, true≢false, false≢true}
use Prim.Native.Nat.{ℕ, zero, suc, ◌+◌, ◌-◌, ◌*◌, ◌/◌, ◌%◌, ◌^◌, ◌≤◌, ◌<◌, min, max}
use native.Mathlib.Nat.{pow-suc, div-eq_of_lt, min-le_left, zero-min, max-le, max-zero}
use native.Mathlib.Decide.{ℕ_discrete, dec_lt}
use native.Mathlib.Numerals.{one-add}
use native.Mathlib.Omega.{arith}
use borrow.Author.Tests.{eqb-true, eqb-false, eq-eqb, ne_eqb}
use lib.Bits.{bit_and, bit_or, and_step, or_step, or_zero_r, and_le_l}
use lib.Dec.{eqb, eqb-suc-zero, eqb-suc-suc}
use lib.Pow.{shr-shr, pow_pos, pow_mono}
use Rattle.staging.specs.Graph.{Group, joined}
use Rattle.staging.specs.Choice.{highest, has, everyone}
use Rattle.staging.proofs.Booleans.{false_if_not_true}
use Rattle.staging.proofs.Highest.{none_of_zero, highest_of_suc}
use Rattle.staging.proofs.Sums.{cond_le}

-- ---- the digits of a number

-- a digit is that of the half, one place lower
pub has_suc : (s k : ℕ) → has s (suc k) ≡ has (s / 2) k
has_suc s k =
    let halves : s / 2 ^ suc k ≡ s / 2 / 2 ^ k = rw (← one-add k) (sym (shr-shr s 1 k)) in
    ap (λ (x : ℕ). eqb (x % 2) 1) halves

pub has_above : (n s k : ℕ) → s < 2 ^ n → n ≤ k → has s k ≡ false
has_above n s k below q =
    let none : s / 2 ^ k ≡ 0 = div-eq_of_lt (omega (arith, below, pow_mono q)) in
    ap (λ (x : ℕ). eqb (x % 2) 1) none

pub has_below : (n s k : ℕ) → s < 2 ^ n → has s k ≡ true → k < n
has_below n s k below e =
    elim (dec_lt k n) [
      | yes q ↦ q
      | no q ↦ absurd (true≢false (sym e ∙ has_above n s k below (omega arith)))
    ]

pub has_zero : (k : ℕ) → has 0 k ≡ false
has_zero k = has_above 0 0 k (omega arith) (omega arith)

-- the last digit as a number
last_digit : (s : ℕ) → cond (has s 0) 1 0 ≡ s % 2
last_digit s = by_test (has s 0) refl
  where
    by_test : (b : Bool) → has s 0 ≡ b → cond b 1 0 ≡ s % 2
    by_test true e = let one = eqb-true (s / 1 % 2) 1 e in omega arith
    by_test false e = let other = eqb-false (s / 1 % 2) 1 e in omega arith

digit_of_one : (s : ℕ) → s % 2 ≡ 1 → has s 0 ≡ true
digit_of_one s e = eq-eqb (s / 1 % 2) 1 (omega arith)

digit_of_zero : (s : ℕ) → s % 2 ≡ 0 → has s 0 ≡ false
digit_of_zero s e = ne_eqb (s / 1 % 2) 1 (λ f. absurd (omega arith))

-- the number of all movers has every digit below n
pub everyone_has : (n k : ℕ) → k < n → has (everyone n) k ≡ true
everyone_has zero k q = absurd (omega arith)
everyone_has (suc n) zero q = digit_of_one (2 ^ suc n - 1) (omega (arith, pow_pos n, pow-suc 2 n))
everyone_has (suc n) (suc k) q =
    let half : (2 ^ suc n - 1) / 2 ≡ 2 ^ n - 1 = omega (arith, pow_pos n, pow-suc 2 n) in
    has_suc (2 ^ suc n - 1) k ∙ ap (λ (x : ℕ). has x k) half ∙ everyone_has n k (omega arith)

-- ---- one member more

-- a digit depends on the last digit, or on the half, alone
last_alike : (x y : ℕ) → x % 2 ≡ y % 2 → has x 0 ≡ has y 0
last_alike x y e = let same : x / 1 % 2 ≡ y / 1 % 2 = omega arith in ap (λ (d : ℕ). eqb d 1) same

half_alike : (x y k : ℕ) → x / 2 ≡ y → has x (suc k) ≡ has y k
half_alike x y k e = has_suc x k ∙ ap (λ (z : ℕ). has z k) e

max_digits : (x y : ℕ) → x ≤ 1 → y ≤ 1 → max x y ≤ 1
max_digits x y p q = max-le p q

or_half : (a b : ℕ) → bit_or a b / 2 ≡ bit_or (a / 2) (b / 2)
or_half a b = omega (arith, or_step a b, max_digits (a % 2) (b % 2) (omega arith) (omega arith))

or_last : (a b : ℕ) → bit_or a b % 2 ≡ max (a % 2) (b % 2)
or_last a b = omega (arith, or_step a b, max_digits (a % 2) (b % 2) (omega arith) (omega arith))

max_one : (x : ℕ) → x < 2 → max x 1 ≡ 1
max_one x q = elim (ℕ_discrete x 0) [ yes e ↦ rw e | no e ↦ let one : x ≡ 1 = omega arith in rw one ]

even_power : (k : ℕ) → (2 ^ suc k / 2 ≡ 2 ^ k) × (2 ^ suc k % 2 ≡ 0)
even_power k = (omega (arith, pow-suc 2 k), omega (arith, pow-suc 2 k))

pub has_joined : (a k j : ℕ) → has (bit_or a (2 ^ k)) j ≡ joined (has a) k j
has_joined a zero zero = digit_of_one (bit_or a 1) (or_last a 1 ∙ max_one (a % 2) (omega arith))
has_joined a zero (suc j) =
    rw (ne_eqb (suc j) 0 (λ e. absurd (omega arith)))
    (half_alike (bit_or a 1) (a / 2) j (or_half a 1 ∙ or_zero_r (a / 2)) ∙ sym (has_suc a j))
has_joined a (suc k) zero =
    let last : max (a % 2) (2 ^ suc k % 2) ≡ a % 2 = rw (even_power k).1 (max-zero (a % 2)) in
    rw (ne_eqb 0 (suc k) (λ e. absurd (omega arith))) (last_alike (bit_or a (2 ^ suc k)) a (or_last a (2 ^ suc k) ∙ last))
has_joined a (suc k) (suc j) =
    half_alike (bit_or a (2 ^ suc k)) (bit_or (a / 2) (2 ^ k)) j (or_half a (2 ^ suc k) ∙ ap (bit_or (a / 2)) (even_power k).0)
    ∙ has_joined (a / 2) k j
    ∙ ap₂ ◌||◌ (sym (eqb-suc-suc j k)) (sym (has_suc a j))

-- ---- one group within another

and_half : (a b : ℕ) → bit_and a b / 2 ≡ bit_and (a / 2) (b / 2)
and_half a b = omega (arith, and_step a b, min-le_left (a % 2) (b % 2))

and_last : (a b : ℕ) → bit_and a b % 2 ≡ min (a % 2) (b % 2)
and_last a b = omega (arith, and_step a b, min-le_left (a % 2) (b % 2))

min_digits : (x y : ℕ) → x < 2 → y < 2 → eqb (min x y) 1 ≡ (eqb x 1 && eqb y 1)
min_digits x y p q = by_digits (ℕ_discrete x 0) (ℕ_discrete y 0)
  where
    by_digits : Dec (x ≡ 0) → Dec (y ≡ 0) → eqb (min x y) 1 ≡ (eqb x 1 && eqb y 1)
    by_digits (yes e) d = rw (e, zero-min y)
    by_digits (no e) (yes f) = let one : x ≡ 1 = omega arith in rw (one, f)
    by_digits (no e) (no f) =
        let one : x ≡ 1 = omega arith in
        let other : y ≡ 1 = omega arith in
        rw (one, other)

-- the members of both
pub has_both : (w a k : ℕ) → has (bit_and w a) k ≡ (has w k && has a k)
has_both w a zero =
    let own : (x : ℕ) → x / 1 % 2 ≡ x % 2 = λ x. omega arith in
    let last : bit_and w a / 1 % 2 ≡ min (w / 1 % 2) (a / 1 % 2) = own (bit_and w a) ∙ and_last w a ∙ sym (ap₂ min (own w) (own a)) in
    ap (λ (d : ℕ). eqb d 1) last ∙ min_digits (w / 1 % 2) (a / 1 % 2) (omega arith) (omega arith)
has_both w a (suc k) =
    half_alike (bit_and w a) (bit_and (w / 2) (a / 2)) k (and_half w a)
    ∙ has_both (w / 2) (a / 2) k
    ∙ ap₂ ◌&&◌ (sym (has_suc w k)) (sym (has_suc a k))

-- ---- the number of a group

abbrev pub number_of : ℕ → Group → ℕ
number_of zero S = 0
number_of (suc n) S = cond (S 0) 1 0 + 2 * number_of n (λ k. S (suc k))

pub number_below : (n : ℕ) (S : Group) → number_of n S < 2 ^ n
number_below zero S = omega arith
number_below (suc n) S = omega (arith, cond_le (S 0) 1, number_below n (λ k. S (suc k)), pow-suc 2 n)

pub has_number : (n : ℕ) (S : Group) (k : ℕ) → k < n → has (number_of n S) k ≡ S k
has_number zero S k q = absurd (omega arith)
has_number (suc n) S zero q = by_test (S 0)
  where
    by_test : (b : Bool) → has (cond b 1 0 + 2 * number_of n (λ k. S (suc k))) 0 ≡ b
    by_test true = let odd : (1 + 2 * number_of n (λ k. S (suc k))) % 2 ≡ 1 = omega arith in digit_of_one _ odd
    by_test false = let even : (0 + 2 * number_of n (λ k. S (suc k))) % 2 ≡ 0 = omega arith in digit_of_zero _ even
has_number (suc n) S (suc k) q =
    let half : number_of (suc n) S / 2 ≡ number_of n (λ k. S (suc k)) = omega (arith, cond_le (S 0) 1) in
    half_alike (number_of (suc n) S) (number_of n (λ k. S (suc k))) k half ∙ has_number n (λ k. S (suc k)) k (omega arith)

-- a group of movers is that of its number
pub group_of_number : (n : ℕ) (S : Group) → ((k : ℕ) → S k ≡ true → k < n) → has (number_of n S) ≡ S
group_of_number n S movers = λ i k. alike k (dec_lt k n) i
  where
    alike : (k : ℕ) → Dec (k < n) → has (number_of n S) k ≡ S k
    alike k (yes q) = has_number n S k q
    alike k (no q) = has_above n (number_of n S) k (number_below n S) (omega arith) ∙ sym (false_if_not_true (S k) (λ e. q (movers k e)))

-- the number of the group that a number stands for
pub number_of_has : (n s : ℕ) → s < 2 ^ n → number_of n (has s) ≡ s
number_of_has zero s q = omega arith
number_of_has (suc n) s q =
    let rest : number_of n (λ k. has s (suc k)) ≡ s / 2 =
    ap (number_of n) (λ i k. has_suc s k i) ∙ number_of_has n (s / 2) (omega (arith, q, pow-suc 2 n)) in
    omega (arith, rest, last_digit s)

number_cong : (n : ℕ) (S S' : Group) → ((k : ℕ) → k < n → S k ≡ S' k) → number_of n S ≡ number_of n S'
number_cong zero S S' same = refl
number_cong (suc n) S S' same =
    ap (λ (b : Bool). cond b 1 0 + 2 * number_of n (λ k. S (suc k))) (same 0 (omega arith))
    ∙ ap (λ (m : ℕ). cond (S' 0) 1 0 + 2 * m) (number_cong n (λ k. S (suc k)) (λ k. S' (suc k)) (λ k q. same (suc k) (omega arith)))

-- the highest member that only one of two groups has decides which number is greater
pub number_greater : (n : ℕ) (S S' : Group) (k : ℕ) → k < n → S k ≡ true → S' k ≡ false → ((j : ℕ) → k < j → j < n → S j ≡ S' j)
    → number_of n S' < number_of n S
number_greater zero S S' k q e f alike = absurd (omega arith)
number_greater (suc n) S S' zero q e f alike =
    let rest = number_cong n (λ k. S (suc k)) (λ k. S' (suc k)) (λ j r. alike (suc j) (omega arith) (omega arith)) in
    let one : ℕ = cond (S 0) 1 0 in
    let none : ℕ = cond (S' 0) 1 0 in
    let is_one : one ≡ 1 = rw e in
    let is_none : none ≡ 0 = rw f in
    omega (arith, rest, is_one, is_none)
number_greater (suc n) S S' (suc k) q e f alike =
    let rest = number_greater n (λ k. S (suc k)) (λ k. S' (suc k)) k (omega arith) e f (λ j r s. alike (suc j) (omega arith) (omega arith)) in
    omega (arith, rest, cond_le (S 0) 1, cond_le (S' 0) 1)

-- ---- tests of two groups

pub same_digits : (n x y : ℕ) → x < 2 ^ n → y < 2 ^ n → ((k : ℕ) → k < n → has x k ≡ has y k) → x ≡ y
same_digits n x y p q same = sym (number_of_has n x p) ∙ number_cong n (has x) (has y) same ∙ number_of_has n y q

-- two numbers are equal if no digit is found in which they differ
equal_is : (n x y : ℕ) (bad : ℕ → Bool) → x < 2 ^ n → y < 2 ^ n → ((k : ℕ) → bad k ≡ false → has x k ≡ has y k)
    → ((k : ℕ) → bad k ≡ true → ¬ (has x k ≡ has y k)) → eqb x y ≡ eqb (highest n bad) 0
equal_is n x y bad p q good differ = by_search (highest n bad) refl
  where
    by_search : (m : ℕ) → highest n bad ≡ m → eqb x y ≡ eqb m 0
    by_search zero e = eq-eqb x y (same_digits n x y p q (λ k r. good k (none_of_zero n bad e k r)))
    by_search (suc k) e =
        ne_eqb x y (λ f. differ k (highest_of_suc n bad k e).passes (ap (λ (z : ℕ). has z k) f)) ∙ sym (eqb-suc-zero k)

both_below : (n w a : ℕ) → w < 2 ^ n → bit_and w a < 2 ^ n
both_below n w a p = omega (arith, p, and_le_l w a)

-- a group within another looks for a member that is not in the other
pub within_is : (n w a : ℕ) → w < 2 ^ n → eqb (bit_and w a) w ≡ eqb (highest n (λ j. has w j && not (has a j))) 0
within_is n w a p =
    equal_is n (bit_and w a) w (λ j. has w j && not (has a j)) (both_below n w a p) p
    (λ k e. has_both w a k ∙ good (has w k) (has a k) e) (λ k e f. differ (has w k) (has a k) e (sym (has_both w a k) ∙ f))
  where
    good : (x y : Bool) → (x && not y) ≡ false → (x && y) ≡ x
    good true true e = refl
    good true false e = absurd (true≢false e)
    good false y e = refl

    differ : (x y : Bool) → (x && not y) ≡ true → ¬ ((x && y) ≡ x)
    differ true true e f = false≢true e
    differ true false e f = false≢true f
    differ false y e f = false≢true e

-- a group apart from another looks for a member that is in both
pub apart_is : (n w a : ℕ) → w < 2 ^ n → eqb (bit_and w a) 0 ≡ eqb (highest n (λ j. has w j && has a j)) 0
apart_is n w a p =
    equal_is n (bit_and w a) 0 (λ j. has w j && has a j) (both_below n w a p) (pow_pos n)
    (λ k e. has_both w a k ∙ e ∙ sym (has_zero k)) (λ k e f. true≢false (sym e ∙ sym (has_both w a k) ∙ f ∙ has_zero k))
