-- The plan that a list of moves spells, and the fourth numbers in it.
use mathlib.Core.Path.{◌≡◌, refl, ap, ap₂, ◌∙◌}
use mathlib.Core.Bool.{Bool, true, false, cond}
use mathlib.Core.List.{List, [], ◌∷◌, ◌++◌, map, append-nil}
use Prim.Native.Nat.{ℕ, zero, suc, ◌≤◌, ◌<◌}
use native.Mathlib.Omega.{arith}
use lib.Dec.{eqb}
use lib.ListN.{length, get_or}
use Rattle.plans.specs.Plan.{no_move}
use Rattle.table.specs.declared.Move.{Move}
use Rattle.carrying.specs.Carrying.{tenants_with, plan_in}
use Rattle.carrying.specs.Order.{entries}
use Rattle.carrying.proofs.Indices.{tenant_at, plan_by}

-- ---- the plan

tenants_append : (s : ℕ) (xs ys : List Move) → tenants_with s (xs ++ ys) ≡ tenants_with s xs ++ tenants_with s ys
tenants_append s [] ys = refl
tenants_append s (x ∷ xs) ys = by_test (eqb x.staged s) (tenants_append s xs ys)
  where
    by_test : (b : Bool) → tenants_with s (xs ++ ys) ≡ tenants_with s xs ++ tenants_with s ys
        → cond b (x.tenant ∷ tenants_with s (xs ++ ys)) (tenants_with s (xs ++ ys))
        ≡ cond b (x.tenant ∷ tenants_with s xs) (tenants_with s xs) ++ tenants_with s ys
    by_test true e = ap (λ (us : List ℕ). x.tenant ∷ us) e
    by_test false e = e

-- entries with the fourth number s have it, and no other
tenants_of : (s r : ℕ) (b : Bool) → eqb s r ≡ b → (ms : List Move) (ks : List ℕ)
    → tenants_with r (entries s ms ks) ≡ cond b (map (tenant_at ms) ks) []
tenants_of s r true e ms [] = refl
tenants_of s r true e ms (k ∷ ks) = rw e (ap (λ (us : List ℕ). tenant_at ms k ∷ us) (tenants_of s r true e ms ks))
tenants_of s r false e ms [] = refl
tenants_of s r false e ms (k ∷ ks) = rw e (tenants_of s r false e ms ks)

pub plan_of_list : (ms : List Move) (ks ss : List ℕ) → plan_in (entries 0 ms ks ++ entries 1 ms ss) ≡ plan_by ms ks ss
plan_of_list ms ks ss = λ i. record { direct = direct i; staged = staged i }
  where
    direct : tenants_with 0 (entries 0 ms ks ++ entries 1 ms ss) ≡ map (tenant_at ms) ks
    direct =
        tenants_append 0 (entries 0 ms ks) (entries 1 ms ss)
        ∙ ap₂ ◌++◌ (tenants_of 0 0 true refl ms ks) (tenants_of 1 0 false refl ms ss)
        ∙ append-nil (map (tenant_at ms) ks)

    staged : tenants_with 1 (entries 0 ms ks ++ entries 1 ms ss) ≡ map (tenant_at ms) ss
    staged =
        tenants_append 1 (entries 0 ms ks) (entries 1 ms ss)
        ∙ ap₂ ◌++◌ (tenants_of 0 1 false refl ms ks) (tenants_of 1 1 true refl ms ss)

-- ---- the fourth numbers: 0 for the first list, 1 for the second

ones : (ms : List Move) (ss : List ℕ) (i : ℕ) → i < length (entries 1 ms ss) → (get_or (entries 1 ms ss) i no_move).staged ≡ 1
ones ms [] i q = absurd (omega arith)
ones ms (s ∷ ss) zero q = refl
ones ms (s ∷ ss) (suc i) q = ones ms ss i (omega arith)

module _ (ms : List Move) (ss : List ℕ) where
  abbrev listed : List ℕ → List Move
  listed ks = entries 0 ms ks ++ entries 1 ms ss

  pub at_most_one : (ks : List ℕ) (i : ℕ) → i < length (listed ks) → (get_or (listed ks) i no_move).staged ≤ 1
  at_most_one [] i q = omega (arith, ones ms ss i q)
  at_most_one (k ∷ ks) zero q = omega arith
  at_most_one (k ∷ ks) (suc i) q = at_most_one ks i (omega arith)

  pub zeros_first : (ks : List ℕ) (i j : ℕ) → i < j → j < length (listed ks)
      → (get_or (listed ks) i no_move).staged ≤ (get_or (listed ks) j no_move).staged
  zeros_first [] i j q r = omega (arith, ones ms ss i (omega arith), ones ms ss j r)
  zeros_first (k ∷ ks) i zero q r = absurd (omega arith)
  zeros_first (k ∷ ks) zero (suc j) q r = omega arith
  zeros_first (k ∷ ks) (suc i) (suc j) q r = zeros_first ks i j (omega arith) (omega arith)
