-- The highest number below n that passes a test.
use mathlib.Core.Path.{◌≡◌, refl, sym, ap, ◌∙◌}
use mathlib.Core.Bool.{Bool, true, false, cond}
use Prim.Native.Nat.{ℕ, zero, suc, ◌-◌, ◌<◌}
use native.Mathlib.Omega.{arith}
use native.Mathlib.Decide.{ℕ_discrete}
use Rattle.std.specs.Prelude.{Some, None}
use Rattle.staging.specs.Choice.{highest, below_it}

-- none passes
pub highest_none : (n : ℕ) (p : ℕ → Bool) → ((k : ℕ) → k < n → p k ≡ false) → highest n p ≡ 0
highest_none zero p fails = refl
highest_none (suc n) p fails = rw (fails n (omega arith)) (highest_none n p (λ k q. fails k (omega arith)))

pub none_of_zero : (n : ℕ) (p : ℕ → Bool) → highest n p ≡ 0 → (k : ℕ) → k < n → p k ≡ false
none_of_zero zero p e k q = absurd (omega arith)
none_of_zero (suc n) p e k q = by_test (p n) refl e (λ f. none_of_zero n p f k)
  where
    by_test : (b : Bool) → p n ≡ b → cond b (suc n) (highest n p) ≡ 0 → (highest n p ≡ 0 → k < n → p k ≡ false) → p k ≡ false
    by_test true f g below = absurd (omega (arith, g))
    by_test false f g below =
        elim (ℕ_discrete k n) [
          | yes s ↦ ap p s ∙ f
          | no s ↦ below g (omega arith)
        ]

-- k is the highest
pub record IsHighest (n : ℕ) (p : ℕ → Bool) (k : ℕ) : Type 0 where
  pub below : k < n
  pub passes : p k ≡ true
  pub higher_fail : (j : ℕ) → k < j → j < n → p j ≡ false

pub highest_of_suc : (n : ℕ) (p : ℕ → Bool) (k : ℕ) → highest n p ≡ suc k → IsHighest n p k
highest_of_suc zero p k e = absurd (omega arith)
highest_of_suc (suc n) p k e = by_test (p n) refl e (highest_of_suc n p k)
  where
    by_test : (b : Bool) → p n ≡ b → cond b (suc n) (highest n p) ≡ suc k → (highest n p ≡ suc k → IsHighest n p k) → IsHighest (suc n) p k
    by_test true f g rest =
        let same : k ≡ n = omega (arith, g) in
        record { below = omega arith; passes = ap p same ∙ f; higher_fail = λ j q r. absurd (omega arith) }
    by_test false f g rest =
        let r = rest g in
        record {
          below = omega (arith, r.below);
          passes = r.passes;
          higher_fail = λ j q s.
              elim (ℕ_discrete j n) [
                | yes t ↦ ap p t ∙ f
                | no t ↦ r.higher_fail j q (omega arith)
              ];
        }

-- the search from n down has come to k
pub highest_goes_on : (n : ℕ) (p : ℕ → Bool) → 0 < n → p (n - 1) ≡ false → highest n p ≡ highest (n - 1) p
highest_goes_on zero p q e = absurd (omega arith)
highest_goes_on (suc n) p q e = let less : suc n - 1 ≡ n = omega arith in rw (less, sym (ap p less) ∙ e)

pub highest_found : (n : ℕ) (p : ℕ → Bool) → 0 < n → p (n - 1) ≡ true → highest n p ≡ n
highest_found zero p q e = absurd (omega arith)
highest_found (suc n) p q e = let less : suc n - 1 ≡ n = omega arith in rw (sym (ap p less) ∙ e)

-- the number below it
pub some_below : (x k : ℕ) → below_it x ≡ Some k → x ≡ suc k
some_below zero k e = cc
some_below (suc j) k e = cc

pub none_below : (x : ℕ) → below_it x ≡ None → x ≡ 0
none_below zero e = refl
none_below (suc j) e = cc

pub found_below : (x k : ℕ) → 0 < k → k ≡ x → Some (k - 1) ≡ below_it x
found_below zero k q e = absurd (omega arith)
found_below (suc j) k q e = ap Some (omega arith)
