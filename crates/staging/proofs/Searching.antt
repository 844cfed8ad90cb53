-- The search from the highest number down finds, of all groups that work, one of the least cost, and of those the highest number.
use mathlib.Core.Path.{◌≡◌, refl, sym, ap, ◌∙◌}
use mathlib.Core.Bool.{Bool, true, false, not, ◌&&◌, cond, false≢true, and-eq-true_iff}
use Prim.Native.Nat.{ℕ, zero, suc, ◌+◌, ◌*◌, ◌≤◌, ◌<◌}
use native.Mathlib.Omega.{arith}
use native.Mathlib.Decide.{ℕ_discrete}
use borrow.Author.Tests.{ltb-true, ltb-false, eq-eqb}
use lib.Dec.{ltb}
use lib.Pow.{pow_pos}
use Rattle.staging.specs.Graph.{Group, Graph, sum_over}
use Rattle.staging.specs.Choice.{has, works?, cost_of, free_of, apart?, cheaper_of, better_of, best_below, everyone, chosen_of}
use Rattle.staging.proofs.Highest.{highest_none}
use Rattle.staging.proofs.Bits.{has_below, everyone_has, number_of, number_below, group_of_number}
use Rattle.staging.proofs.Sums.{without, sum_without, none_of_sum}
use Rattle.staging.proofs.Running.{works_of_all, works_without}

-- b is the best of the groups of the kind P with numbers from s up to m
pub record BestFrom (g : Graph) (P : ℕ → Type 0) (m s b : ℕ) : Type 0 where
  pub from : s ≤ b
  pub to : b ≤ m
  pub works : works? g (has b) ≡ true
  pub cheapest : (t : ℕ) → s ≤ t → t ≤ m → P t → works? g (has t) ≡ true → cost_of g (has b) ≤ cost_of g (has t)
  pub highest_number : (t : ℕ) → s ≤ t → t ≤ m → P t → works? g (has t) ≡ true → cost_of g (has t) ≡ cost_of g (has b) → t ≤ b

-- nobody in the group can go anyhow
abbrev Apart : Graph → ℕ → Type 0
Apart g t = apart? g t ≡ true

module _ (g : Graph) (m : ℕ) where
  -- one group more
  better_from : (s b : ℕ) → s < m → BestFrom g (Apart g) m (suc s) b → BestFrom g (Apart g) m s (better_of g s b)
  unfolding better_of cheaper_of
  better_from s b q r =
      by_tests (apart? g s) refl (ltb (cost_of g (has s)) (cost_of g (has b))) refl (works? g (has s)) refl
    where
      taken : cost_of g (has s) < cost_of g (has b) → works? g (has s) ≡ true → BestFrom g (Apart g) m s s
      taken less w = record {
        from = omega arith;
        to = omega arith;
        works = w;
        cheapest = λ t p u a v.
            elim (ℕ_discrete t s) [
              | yes e ↦ omega (arith, ap (λ (x : ℕ). cost_of g (has x)) e)
              | no e ↦ omega (arith, less, r.cheapest t (omega arith) u a v)
            ];
        highest_number = λ t p u a v e.
            elim (ℕ_discrete t s) [
              | yes f ↦ omega arith
              | no f ↦ absurd (omega (arith, less, e, r.cheapest t (omega arith) u a v))
            ];
      }

      left : (Apart g s → works? g (has s) ≡ true → cost_of g (has b) ≤ cost_of g (has s)) → BestFrom g (Apart g) m s b
      left dearer = record {
        from = omega (arith, r.from);
        to = r.to;
        works = r.works;
        cheapest = λ t p u a v.
            elim (ℕ_discrete t s) [
              | yes e ↦ omega (
                arith,
                ap (λ (x : ℕ). cost_of g (has x)) e,
                dearer (sym (ap (apart? g) e) ∙ a) (sym (ap (λ (x : ℕ). works? g (has x)) e) ∙ v),
              )
              | no e ↦ r.cheapest t (omega arith) u a v
            ];
        highest_number = λ t p u a v e.
            elim (ℕ_discrete t s) [
              | yes f ↦ omega (arith, r.from)
              | no f ↦ r.highest_number t (omega arith) u a v e
            ];
      }

      by_tests : (z : Bool) → apart? g s ≡ z → (x : Bool) → ltb (cost_of g (has s)) (cost_of g (has b)) ≡ x → (y : Bool) → works? g (has s) ≡ y
          → BestFrom g (Apart g) m s (cond z (cond (x && y) s b) b)
      by_tests true d true e true f = taken (ltb-true _ _ e) f
      by_tests true d true e false f = left (λ a w. absurd (false≢true (sym f ∙ w)))
      by_tests true d false e y f = left (λ a w. ltb-false _ _ e)
      by_tests false d x e y f = left (λ a w. absurd (false≢true (sym d ∙ a)))

  best_from : (s b : ℕ) → s ≤ m → BestFrom g (Apart g) m s b → BestFrom g (Apart g) m 0 (best_below g s b)
  best_from zero b q r = r
  best_from (suc s) b q r = best_from s (better_of g s b) (omega arith) (better_from s b (omega arith) r)

-- of the groups apart, and of that of everyone, the one that is chosen is the best
best_apart : (g : Graph) → BestFrom g (Apart g) (everyone g.n) 0 (chosen_of g)
unfolding chosen_of
best_apart g =
    let m = everyone g.n in
    best_from g m m m (omega arith) (record {
      from = omega arith;
      to = omega arith;
      works = works_of_all g (has m) (everyone_has g.n);
      cheapest = λ t p q a v. let same : t ≡ m = omega arith in omega (arith, ap (λ (x : ℕ). cost_of g (has x)) same);
      highest_number = λ t p q a v e. q;
    })

-- ---- any group, by what is left of it without those who can go anyhow

module _ (g : Graph) (t : ℕ) (to : t ≤ everyone g.n) (w : works? g (has t) ≡ true) where
  abbrev rest : Group
  rest = without (has t) (free_of g)

  movers_only : (k : ℕ) → has t k ≡ true → k < g.n
  movers_only k e = has_below g.n t k (omega (arith, pow_pos g.n)) e

  abbrev number : ℕ
  number = number_of g.n rest

  rest_of_number : has number ≡ rest
  rest_of_number = group_of_number g.n rest (λ k e. movers_only k ((and-eq-true_iff (has t k) (not (free_of g k))).0 e).0)

  number_apart : Apart g number
  unfolding apart?
  number_apart =
      eq-eqb _ 0 (highest_none g.n (λ k. has number k && free_of g k)
      (λ k q. ap (λ (A : Group). A k && free_of g k) rest_of_number ∙ not_both (has t k) (free_of g k)))
    where
      not_both : (x y : Bool) → ((x && not y) && y) ≡ false
      not_both true true = refl
      not_both true false = refl
      not_both false y = refl

  number_works : works? g (has number) ≡ true
  number_works = ap (works? g) rest_of_number ∙ works_without g (has t) movers_only w

  number_to : number ≤ everyone g.n
  number_to = omega (arith, number_below g.n rest)

  -- what those cost who can go anyhow
  saved : ℕ
  saved = sum_over g.n (λ k. has t k && free_of g k) (λ k. g.pages k * 8 + 1)

  number_costs : cost_of g (has number) + saved ≡ cost_of g (has t)
  unfolding cost_of saved
  number_costs =
      ap (λ (A : Group). sum_over g.n A (λ k. g.pages k * 8 + 1) + saved) rest_of_number
      ∙ sum_without g.n (has t) (free_of g) (λ k. g.pages k * 8 + 1)

  apart_if_saved_none : saved ≡ 0 → Apart g t
  unfolding apart? saved
  apart_if_saved_none e =
      eq-eqb _ 0 (highest_none g.n (λ k. has t k && free_of g k)
      (none_of_sum g.n (λ k. has t k && free_of g k) (λ k. g.pages k * 8 + 1) (λ k. omega arith) e))

  pub chosen_cheapest : cost_of g (has (chosen_of g)) ≤ cost_of g (has t)
  chosen_cheapest = omega (arith, number_costs, (best_apart g).cheapest number (omega arith) number_to number_apart number_works)

  pub chosen_highest : cost_of g (has t) ≡ cost_of g (has (chosen_of g)) → t ≤ chosen_of g
  chosen_highest e =
      let none : saved ≡ 0 =
      omega (arith, e, number_costs, (best_apart g).cheapest number (omega arith) number_to number_apart number_works) in
      (best_apart g).highest_number t (omega arith) to (apart_if_saved_none none) w e

pub chosen_to : (g : Graph) → chosen_of g ≤ everyone g.n
chosen_to g = (best_apart g).to

pub chosen_works : (g : Graph) → works? g (has (chosen_of g)) ≡ true
chosen_works g = (best_apart g).works
