-- Laws of `sum`, and of `count`, which is a sum of zeros and ones.
use mathlib.Core.Path.{◌≡◌, refl, sym, ap, ap₂, ◌∙◌}
use mathlib.Core.Bool.{Bool, true, false, ◌||◌}
use Prim.Native.Nat.{ℕ, zero, suc, ◌+◌, ◌-◌, ◌*◌, ◌/◌, ◌≤◌, ◌<◌}
use native.Mathlib.Nat.{add-zero, add-suc, zero-mul, suc-mul, add-mul, mul_comm, add-sub_of_le}
use native.Mathlib.Omega.{arith}
use lib.Arith.{digits_div}
use Rattle.tree.specs.Held.{one_if, count}
use Rattle.tree.specs.Pages.{sum}

pub sum_cong : (n : ℕ) {f g : ℕ → ℕ} → ((i : ℕ) → i < n → f i ≡ g i) → sum n f ≡ sum n g
unfolding sum
sum_cong zero e = refl
sum_cong (suc n) {f} {g} e = ap₂ ◌+◌ (e n (omega arith)) (sum_cong n (λ i q. e i (omega arith)))

pub sum_const : (n c : ℕ) → sum n (λ i. c) ≡ n * c
unfolding sum
sum_const zero c = sym (zero-mul c)
sum_const (suc n) c = omega (arith, sum_const n c, suc-mul n c)

pub sum_of_zeros : (n : ℕ) {f : ℕ → ℕ} → ((i : ℕ) → i < n → f i ≡ 0) → sum n f ≡ 0
sum_of_zeros n z = sum_cong n z ∙ sum_const n 0 ∙ omega arith

pub sum_add : (n : ℕ) (f g : ℕ → ℕ) → sum n (λ i. f i + g i) ≡ sum n f + sum n g
unfolding sum
sum_add zero f g = refl
sum_add (suc n) f g = omega (arith, sum_add n f g)

pub sum_swap : (n m : ℕ) (f : ℕ → ℕ → ℕ) → sum n (λ i. sum m (f i)) ≡ sum m (λ j. sum n (λ i. f i j))
unfolding sum
sum_swap zero m f = sym (sum_of_zeros m (λ j q. refl))
sum_swap (suc n) m f = ap (λ x. sum m (f n) + x) (sum_swap n m f) ∙ sym (sum_add m (f n) (λ j. sum n (λ i. f i j)))

-- the first taken off
pub sum_first : (n : ℕ) (f : ℕ → ℕ) → sum (suc n) f ≡ f 0 + sum n (λ i. f (suc i))
unfolding sum
sum_first zero f = refl
sum_first (suc n) f = omega (arith, sum_first n f)

pub sum_split : (a b : ℕ) (f : ℕ → ℕ) → sum (a + b) f ≡ sum a f + sum b (λ i. f (a + i))
unfolding sum
sum_split a zero f = rw (add-zero a) (omega arith)
sum_split a (suc b) f = rw (add-suc a b) (omega (arith, sum_split a b f))

-- what is zero from a on adds nothing
pub sum_stops : (a b : ℕ) (f : ℕ → ℕ) → a ≤ b → ((i : ℕ) → a ≤ i → f i ≡ 0) → sum b f ≡ sum a f
sum_stops a b f q z =
    let tail : sum (b - a) (λ i. f (a + i)) ≡ 0 = sum_of_zeros (b - a) (λ i r. z (a + i) (omega arith)) in
    let split : sum (a + (b - a)) f ≡ sum a f = omega (arith, sum_split a (b - a) f) in
    rw (add-sub_of_le q) at split

-- n groups of w numbers each, with one value for each group
pub sum_groups : (n w : ℕ) (g : ℕ → ℕ) → sum (n * w) (λ p. g (p / w)) ≡ sum n g * w
unfolding sum
sum_groups zero w g = rw (zero-mul w)
sum_groups (suc n) w g =
    let last : sum w (λ i. g ((n * w + i) / w)) ≡ w * g n = sum_cong w (λ i q. ap g (digits_div n q)) ∙ sum_const w (g n) in
    rw (suc-mul n w, add-mul) (omega (arith, sum_split (n * w) w (λ p. g (p / w)), sum_groups n w g, mul_comm w (g n)))

-- ---- count

pub count_as_sum : (n : ℕ) (p : ℕ → Bool) → count n p ≡ sum n (λ i. one_if (p i))
unfolding sum count
count_as_sum zero p = refl
count_as_sum (suc n) p = ap (λ x. one_if (p n) + x) (count_as_sum n p)

pub count_cong : (n : ℕ) (p q : ℕ → Bool) → ((k : ℕ) → k < n → p k ≡ q k) → count n p ≡ count n q
count_cong n p q e = count_as_sum n p ∙ sum_cong n (λ k r. ap one_if (e k r)) ∙ sym (count_as_sum n q)

pub one_if_le_one : (b : Bool) → one_if b ≤ 1
one_if_le_one true = omega arith
one_if_le_one false = omega arith

pub one_if_not_true : (b : Bool) → ¬ (b ≡ true) → one_if b ≡ 0
one_if_not_true true r = absurd (r refl)
one_if_not_true false r = refl

pub one_if_or : (b c : Bool) → one_if b + one_if c ≤ 1 → one_if (b || c) ≡ one_if b + one_if c
one_if_or true true q = omega arith
one_if_or true false q = refl
one_if_or false c q = omega arith

pub count_le : (n : ℕ) (p : ℕ → Bool) → count n p ≤ n
unfolding count
count_le zero p = omega arith
count_le (suc n) p = omega (arith, one_if_le_one (p n), count_le n p)

pub count_of_none : (n : ℕ) (p : ℕ → Bool) → ((i : ℕ) → i < n → ¬ (p i ≡ true)) → count n p ≡ 0
count_of_none n p none = count_as_sum n p ∙ sum_of_zeros n (λ i q. one_if_not_true (p i) (none i q))

-- of numbers that are all the same there is at most one
pub count_le_one : (n : ℕ) (p : ℕ → Bool) → ((i j : ℕ) → p i ≡ true → p j ≡ true → i ≡ j) → count n p ≤ 1
unfolding count
count_le_one zero p same = omega arith
count_le_one (suc n) p same = by_last (p n) refl (count_le_one n p same)
  where
    by_last : (b : Bool) → p n ≡ b → count n p ≤ 1 → one_if (p n) + count n p ≤ 1
    by_last true e before =
        let none_before : count n p ≡ 0 = count_of_none n p (λ i q r. let same_number : i ≡ n = same i n r e in omega arith) in
        omega (arith, one_if_le_one (p n))
    by_last false e before = rw e (omega arith)
