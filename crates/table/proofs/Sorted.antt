-- Lists in which each entry comes before all those after it.
use mathlib.Core.Path.{◌≡◌, ap}
use mathlib.Core.Bool.{Bool, true, false, cond}
use mathlib.Core.List.{List, [], ◌∷◌}
use mathlib.Core.List.{Memᴰ as In}
use Prim.Native.Nat.{ℕ, zero, suc, ◌<◌}
use native.Mathlib.Omega.{arith}
use native.Mathlib.Decide.{dec_lt, ℕ_discrete}
use lib.ListN.{length, get_or}
use Rattle.layout.specs.Rows.{up_from}
use Rattle.table.specs.Pairing.{keep}
use Rattle.table.proofs.Distinct.{at_place}
use Rattle.table.proofs.Keep.{of_up_from, of_keep}

-- each entry stands in R to all those after it
abbrev pub Sorted : {A : Type 0} → (A → A → Type 0) → List A → Type 0
Sorted R [] = Unit {0}
Sorted {A} R (x ∷ xs) = ((y : A) → In y xs → R x y) × Sorted R xs

abbrev pub Ascending : List ℕ → Type 0
Ascending = Sorted (λ n m. n < m)

pub sorted_places : {A : Type 0} (R : A → A → Type 0) (d : A) (xs : List A) → Sorted R xs → (i j : ℕ) → i < j → j < length xs
    → R (get_or xs i d) (get_or xs j d)
sorted_places R d [] s i j p q = absurd (omega arith)
sorted_places R d (x ∷ xs) s i zero p q = absurd (omega arith)
sorted_places R d (x ∷ xs) s zero (suc j) p q = s.0 (get_or xs j d) (at_place d xs j (omega arith))
sorted_places R d (x ∷ xs) s (suc i) (suc j) p q = sorted_places R d xs s.1 i j (omega arith) (omega arith)

-- ---- ascending numbers

pub ascending_up_from : (a n : ℕ) → Ascending (up_from a n)
ascending_up_from a zero = tt
ascending_up_from a (suc n) = (λ y m. (of_up_from (suc a) n y m).0, ascending_up_from (suc a) n)

pub ascending_keep : (p : ℕ → Bool) (xs : List ℕ) → Ascending xs → Ascending (keep p xs)
ascending_keep p [] s = tt
ascending_keep p (x ∷ xs) s = by_test (p x) (ascending_keep p xs s.1)
  where
    by_test : (b : Bool) → Ascending (keep p xs) → Ascending (cond b (x ∷ keep p xs) (keep p xs))
    by_test true t = (λ y m. s.0 y (of_keep p xs y m).0, t)
    by_test false t = t

-- the place of the smaller number is the earlier one
pub earlier_of_less : (xs : List ℕ) → Ascending xs → (i j : ℕ) → i < length xs → get_or xs i 0 < get_or xs j 0 → i < j
earlier_of_less xs s i j q less = go (dec_lt i j) (ℕ_discrete i j)
  where
    go : Dec (i < j) → Dec (i ≡ j) → i < j
    go (yes p) same = p
    go (no p) (yes e) = absurd (omega (arith, ap (λ k. get_or xs k 0) e))
    go (no p) (no ne) = absurd (omega (arith, sorted_places (λ n m. n < m) 0 xs s j i (omega arith) q))
