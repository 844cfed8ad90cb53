-- Sums over a group.
use mathlib.Core.Path.{◌≡◌, refl, sym, ap, ◌∙◌}
use mathlib.Core.Bool.{Bool, true, false, not, ◌&&◌, cond}
use Prim.Native.Nat.{ℕ, zero, suc, ◌+◌, ◌*◌, ◌≤◌, ◌<◌}
use native.Mathlib.Omega.{arith}
use native.Mathlib.Decide.{ℕ_discrete}
use borrow.Author.Tests.{eq-eqb, ne_eqb}
use Rattle.staging.specs.Graph.{Group, joined, sum_over}

pub sum_cong : (n : ℕ) (S S' : Group) (f : ℕ → ℕ) → ((k : ℕ) → k < n → S k ≡ S' k) → sum_over n S f ≡ sum_over n S' f
sum_cong zero S S' f same = refl
sum_cong (suc n) S S' f same =
    ap (λ (b : Bool). cond b (f n) 0 + sum_over n S f) (same n (omega arith))
    ∙ ap (λ (s : ℕ). cond (S' n) (f n) 0 + s) (sum_cong n S S' f (λ k q. same k (omega arith)))

cond_both : (b : Bool) (x y : ℕ) → cond b (x * 8 + y) 0 ≡ cond b x 0 * 8 + cond b y 0
cond_both true x y = refl
cond_both false x y = refl

-- pages and tenants counted together
pub sum_both : (n : ℕ) (S : Group) (f h : ℕ → ℕ) → sum_over n S (λ k. f k * 8 + h k) ≡ sum_over n S f * 8 + sum_over n S h
sum_both zero S f h = refl
sum_both (suc n) S f h = omega (arith, cond_both (S n) (f n) (h n), sum_both n S f h)

pub cond_le : (b : Bool) (x : ℕ) → cond b x 0 ≤ x
cond_le true x = omega arith
cond_le false x = omega arith

pub count_le : (n : ℕ) (S : Group) → sum_over n S (λ k. 1) ≤ n
count_le zero S = omega arith
count_le (suc n) S = omega (arith, cond_le (S n) 1, count_le n S)

-- a group that has as many members as there are movers has them all
pub all_of_count : (n : ℕ) (S : Group) → n ≤ sum_over n S (λ k. 1) → (k : ℕ) → k < n → S k ≡ true
all_of_count zero S q k r = absurd (omega arith)
all_of_count (suc n) S q k r = by_test (S n) refl q (all_of_count n S)
  where
    by_test : (b : Bool) → S n ≡ b → suc n ≤ cond b 1 0 + sum_over n S (λ j. 1)
        → (n ≤ sum_over n S (λ j. 1) → (j : ℕ) → j < n → S j ≡ true) → S k ≡ true
    by_test true e s rest =
        elim (ℕ_discrete k n) [
          | yes f ↦ ap S f ∙ e
          | no f ↦ rest (omega (arith, s)) k (omega arith)
        ]
    by_test false e s rest = absurd (omega (arith, s, count_le n S))

-- one member more
joined_other : (A : Group) (k j : ℕ) → ¬ (j ≡ k) → joined A k j ≡ A j
joined_other A k j ne = rw (ne_eqb j k ne)

pub sum_joined : (n : ℕ) (A : Group) (k : ℕ) (f : ℕ → ℕ) → k < n → A k ≡ false → sum_over n (joined A k) f ≡ sum_over n A f + f k
sum_joined zero A k f q e = absurd (omega arith)
sum_joined (suc n) A k f q e =
    elim (ℕ_discrete k n) [
      | yes s ↦ at_top s
      | no s ↦ below s (sum_joined n A k f (omega arith) e)
    ]
  where
    at_top : k ≡ n → sum_over (suc n) (joined A k) f ≡ sum_over (suc n) A f + f k
    at_top s =
        let rest = sum_cong n (joined A k) A f (λ j r. joined_other A k j (λ t. absurd (omega arith))) in
        let new : cond (joined A k n) (f n) 0 ≡ f n = rw (eq-eqb n k (sym s)) in
        let old : cond (A n) (f n) 0 ≡ 0 = rw (sym (ap A s) ∙ e) in
        omega (arith, rest, new, old, ap f s)

    below : ¬ (k ≡ n) → sum_over n (joined A k) f ≡ sum_over n A f + f k → sum_over (suc n) (joined A k) f ≡ sum_over (suc n) A f + f k
    below s rest =
        let top : cond (joined A k n) (f n) 0 ≡ cond (A n) (f n) 0 = ap (λ (b : Bool). cond b (f n) 0) (joined_other A k n (λ t. s (sym t))) in
        omega (arith, top, rest)

-- ---- a group without some

abbrev pub without : Group → Group → Group
without S F k = S k && not (F k)

-- what it costs less
pub sum_without : (n : ℕ) (S F : Group) (f : ℕ → ℕ) → sum_over n (without S F) f + sum_over n (λ k. S k && F k) f ≡ sum_over n S f
sum_without zero S F f = refl
sum_without (suc n) S F f = omega (arith, one (S n) (F n), sum_without n S F f)
  where
    one : (x y : Bool) → cond (x && not y) (f n) 0 + cond (x && y) (f n) 0 ≡ cond x (f n) 0
    one true true = omega arith
    one true false = omega arith
    one false y = refl

-- it costs nothing less only if none of them was in it
pub none_of_sum : (n : ℕ) (S : Group) (f : ℕ → ℕ) → ((k : ℕ) → 0 < f k) → sum_over n S f ≡ 0 → (k : ℕ) → k < n → S k ≡ false
none_of_sum zero S f above e k q = absurd (omega arith)
none_of_sum (suc n) S f above e k q = by_test (S n) refl e (λ r. none_of_sum n S f above r k)
  where
    by_test : (b : Bool) → S n ≡ b → cond b (f n) 0 + sum_over n S f ≡ 0 → (sum_over n S f ≡ 0 → k < n → S k ≡ false) → S k ≡ false
    by_test true r s rest = absurd (omega (arith, above n))
    by_test false r s rest =
        elim (ℕ_discrete k n) [
          | yes t ↦ ap S t ∙ r
          | no t ↦ rest (omega (arith, s)) (omega arith)
        ]
