-- Laws of `pair`, which joins two lists place by place, and of `goes`, which looks up where a list of shifts leads.
use mathlib.Core.Path.{◌≡◌, refl, sym, ap, ◌∙◌}
use mathlib.Core.Bool.{Bool, true, false}
use mathlib.Core.Logic.{◌⊎◌, inl, inr}
use mathlib.Core.List.{List, [], ◌∷◌, map}
use mathlib.Core.List.Memᴰ.{head as at_head}
use mathlib.Core.List.Memᴰ.{tail as in_Tail}
use mathlib.Core.List.{Memᴰ as In}
use mathlib.Core.List.Memᴰ.{cases_cons as head_or_tail}
use mathlib.Core.List.Memᴰ.{cast as in_cast}
use mathlib.Core.List.Memᴰ.{not-nil as in_nothing}
use mathlib.Core.List.Memᴰ.{of_map}
use Prim.Native.Nat.{ℕ, zero, suc, ◌<◌}
use native.Mathlib.Omega.{arith}
use borrow.Author.Tests.{eqb-true, eqb-false}
use lib.Dec.{eqb}
use lib.ListN.{length, get_or}
use Rattle.table.specs.Pairing.{Shift, pair, goes}
use Rattle.table.proofs.Distinct.{Distinct, at_place}

-- ---- pair

-- the shifts of a pairing are those from the j-th of the one list to the j-th of the other
pub in_pair : (xs ys : List ℕ) (j : ℕ) → j < length xs → j < length ys → In (record { from = get_or xs j 0; to = get_or ys j 0 }) (pair xs ys)
in_pair [] ys j p q = absurd (omega arith)
in_pair (x ∷ xs) [] j p q = absurd (omega arith)
in_pair (x ∷ xs) (y ∷ ys) zero p q = at_head refl
in_pair (x ∷ xs) (y ∷ ys) (suc j) p q = in_Tail (in_pair xs ys j (omega arith) (omega arith))

pub record PairedAt (xs ys : List ℕ) (s : Shift) : Type 0 where
  pub at : ℕ
  pub in_first : at < length xs
  pub in_second : at < length ys
  pub from_is : s.from ≡ get_or xs at 0
  pub to_is : s.to ≡ get_or ys at 0

pub of_pair : (xs ys : List ℕ) (s : Shift) → In s (pair xs ys) → PairedAt xs ys s
of_pair [] ys s m = absurd (in_nothing m)
of_pair (x ∷ xs) [] s m = absurd (in_nothing m)
of_pair (x ∷ xs) (y ∷ ys) s m = go (head_or_tail m) (of_pair xs ys s)
  where
    go : (s ≡ record { from = x; to = y }) ⊎ In s (pair xs ys) → (In s (pair xs ys) → PairedAt xs ys s) → PairedAt (x ∷ xs) (y ∷ ys) s
    go (inl e) rest =
        record {
          at = 0;
          in_first = omega arith;
          in_second = omega arith;
          from_is = ap (λ (t : Shift). t.from) e;
          to_is = ap (λ (t : Shift). t.to) e;
        }
    go (inr m') rest =
        let r = rest m' in
        record {
          at = suc r.at;
          in_first = omega (arith, r.in_first);
          in_second = omega (arith, r.in_second);
          from_is = r.from_is;
          to_is = r.to_is;
        }

pub pair_from_in : (xs ys : List ℕ) (s : Shift) → In s (pair xs ys) → In s.from xs
pair_from_in xs ys s m = let r = of_pair xs ys s m in in_cast r.from_is (at_place 0 xs r.at r.in_first)

pub pair_to_in : (xs ys : List ℕ) (s : Shift) → In s (pair xs ys) → In s.to ys
pair_to_in xs ys s m = let r = of_pair xs ys s m in in_cast r.to_is (at_place 0 ys r.at r.in_second)

pub distinct_pair_froms : (xs ys : List ℕ) → Distinct xs → Distinct (map (λ s. s.from) (pair xs ys))
distinct_pair_froms [] ys u = tt
distinct_pair_froms (x ∷ xs) [] u = tt
distinct_pair_froms (x ∷ xs) (y ∷ ys) u = (not_again, distinct_pair_froms xs ys u.1)
  where
    not_again : ¬ In x (map (λ s. s.from) (pair xs ys))
    not_again m = let r = of_map (λ (s : Shift). s.from) (pair xs ys) m in u.0 (in_cast (sym r.2) (pair_from_in xs ys r.0 r.1))

pub distinct_pair_tos : (xs ys : List ℕ) → Distinct ys → Distinct (map (λ s. s.to) (pair xs ys))
distinct_pair_tos [] ys u = tt
distinct_pair_tos (x ∷ xs) [] u = tt
distinct_pair_tos (x ∷ xs) (y ∷ ys) u = (not_again, distinct_pair_tos xs ys u.1)
  where
    not_again : ¬ In y (map (λ s. s.to) (pair xs ys))
    not_again m = let r = of_map (λ (s : Shift). s.to) (pair xs ys) m in u.0 (in_cast (sym r.2) (pair_to_in xs ys r.0 r.1))

-- ---- goes

-- where the shifts bring whoever is on node n: to where the first shift from n goes, and nowhere if there is none
pub data Goes (ss : List Shift) (n : ℕ) : Type 0 where
  stays : ((s : Shift) → In s ss → ¬ (s.from ≡ n)) → goes ss n ≡ n → Goes ss n
  moves : (s : Shift) → In s ss → s.from ≡ n → goes ss n ≡ s.to → Goes ss n

pub goes_by : (ss : List Shift) (n : ℕ) → Goes ss n
goes_by [] n = stays (λ s m e. in_nothing m) refl
goes_by (s ∷ ss) n = by_test (eqb s.from n) refl (goes_by ss n)
  where
    none : ¬ (s.from ≡ n) → ((t : Shift) → In t ss → ¬ (t.from ≡ n)) → (t : Shift) → (t ≡ s) ⊎ In t ss → ¬ (t.from ≡ n)
    none ne rest t (inl e) f = ne (sym (ap (λ (v : Shift). v.from) e) ∙ f)
    none ne rest t (inr m) f = rest t m f

    later : eqb s.from n ≡ false → Goes ss n → Goes (s ∷ ss) n
    later e (stays no_more same) = stays (λ t m. none (eqb-false s.from n e) no_more t (head_or_tail m)) (rw e same)
    later e (moves t m f there) = moves t (in_Tail m) f (rw e there)

    by_test : (b : Bool) → eqb s.from n ≡ b → Goes ss n → Goes (s ∷ ss) n
    by_test true e rest = moves s (at_head refl) (eqb-true s.from n e) (rw e)
    by_test false e rest = later e rest
