-- The least index from some index on that is in one row and not in another. It is one of seven, since otherwise the index before it would do too; so
-- seven tries find it.
use mathlib.Core.Path.{◌≡◌, refl, sym, ap, ◌∙◌}
use mathlib.Core.Bool.{Bool, true, false, not, ◌&&◌, cond, true≢false, false≢true, and-eq-true_iff, ◌||◌}
use mathlib.Core.List.{List, [], ◌∷◌}
use mathlib.Core.List.Memᴰ.{head as at_head}
use mathlib.Core.List.Memᴰ.{tail as in_Tail}
use mathlib.Core.List.{Memᴰ as In}
use Prim.Native.Nat.{ℕ, zero, suc, ◌+◌, ◌-◌, ◌≤◌, ◌<◌}
use native.Mathlib.Omega.{arith}
use native.Mathlib.Decide.{ℕ_discrete, dec_lt}
use borrow.Author.Tests.{ltb-true, ltb-false, leb-true, le-leb, ne_eqb, not-true}
use lib.Dec.{eqb, ltb, leb}
use lib.ListN.{length, get_or}
use Rattle.layout.specs.Rows.{no_index, up_from}
use Rattle.table.specs.Pairing.{keep}
use Rattle.plans.specs.Plan.{row_holds, after, only_in, only_from, least_only, better_of}
use Rattle.plans.specs.declared.Row.{Row}
use Rattle.table.proofs.Distinct.{at_place}
use Rattle.table.proofs.Keep.{of_up_from, of_keep}

-- ---- the first number that passes a test

-- b is the first from a on that passes, or d if none below d does
first_is : (p : ℕ → Bool) (a n d b : ℕ) → a + n ≡ d → a ≤ b → b ≤ d → (b < d → p b ≡ true)
    → ((x : ℕ) → a ≤ x → x < b → ¬ (p x ≡ true)) → get_or (keep p (up_from a n)) 0 d ≡ b
first_is p a zero d b e q r passes before = omega arith
first_is p a (suc n) d b e q r passes before =
    by_test (p a) refl (λ s. first_is p (suc a) n d b (omega arith) s r passes (λ x t. before x (omega arith)))
  where
    not_past : p a ≡ true → ¬ (a < b)
    not_past f s = before a (omega arith) s f

    not_at : p a ≡ false → ¬ (a ≡ b)
    not_at f s = false≢true (sym f ∙ ap p s ∙ passes (omega arith))

    by_test : (t : Bool) → p a ≡ t → (suc a ≤ b → get_or (keep p (up_from (suc a) n)) 0 d ≡ b)
        → get_or (cond t (a ∷ keep p (up_from (suc a) n)) (keep p (up_from (suc a) n))) 0 d ≡ b
    by_test true f later = omega (arith, not_past f)
    by_test false f later = later (omega (arith, not_at f))

-- What keeping the numbers from a on below d that pass gives: none, or the first that passes and then the rest.
data Kept (p : ℕ → Bool) (a d : ℕ) (xs : List ℕ) : Type 0 where
  none_kept : xs ≡ [] → Kept p a d xs
  first_kept : (r : ℕ) → a ≤ r → r < d → p r ≡ true → xs ≡ r ∷ keep p (up_from (suc r) (d - suc r)) → Kept p a d xs

kept_by : (p : ℕ → Bool) (a n d : ℕ) → a + n ≡ d → Kept p a d (keep p (up_from a n))
kept_by p a zero d e = none_kept refl
kept_by p a (suc n) d e = by_test (p a) refl (kept_by p (suc a) n d (omega arith))
  where
    later : Kept p (suc a) d (keep p (up_from (suc a) n)) → Kept p a d (keep p (up_from (suc a) n))
    later (none_kept f) = none_kept f
    later (first_kept r q s f g) = first_kept r (omega arith) s f g

    by_test : (t : Bool) → p a ≡ t → Kept p (suc a) d (keep p (up_from (suc a) n))
        → Kept p a d (cond t (a ∷ keep p (up_from (suc a) n)) (keep p (up_from (suc a) n)))
    by_test true f rest =
        let left : n ≡ d - suc a = omega arith in
        first_kept a (omega arith) (omega arith) f (ap (λ (m : ℕ). a ∷ keep p (up_from (suc a) m)) left)
    by_test false f rest = later rest

-- ---- in a row

-- in the row and not its lone block: in the run
in_run : (w : Row) (i : ℕ) → row_holds w i ≡ true → ¬ (i ≡ w.lone) → (w.start ≤ i) × (i < w.start + w.run)
unfolding row_holds
in_run w i e lone = by_tests (leb w.start i) refl (ltb i (w.start + w.run)) refl (rw (ne_eqb w.lone i (λ f. lone (sym f))) at e)
  where
    by_tests : (b : Bool) → leb w.start i ≡ b → (t : Bool) → ltb i (w.start + w.run) ≡ t
        → (((b && t) || false) && not (eqb i w.hole)) ≡ true → (w.start ≤ i) × (i < w.start + w.run)
    by_tests true f true g e' = (leb-true w.start i f, ltb-true i (w.start + w.run) g)
    by_tests true f false g e' = absurd (false≢true e')
    by_tests false f t g e' = absurd (false≢true e')

-- not in the row and not its hole: not in the run
not_in_run : (w : Row) (i : ℕ) → row_holds w i ≡ false → ¬ (i ≡ w.hole) → w.start ≤ i → w.start + w.run ≤ i
unfolding row_holds
not_in_run w i e hole q = by_test (ltb i (w.start + w.run)) refl (rw (ne_eqb i w.hole hole, le-leb w.start i q) at e)
  where
    by_test : (t : Bool) → ltb i (w.start + w.run) ≡ t → ((t || eqb w.lone i) && true) ≡ false → w.start + w.run ≤ i
    by_test true g e' = absurd (true≢false e')
    by_test false g e' = ltb-false i (w.start + w.run) g

-- ---- tries

-- b is a number from a on that passes, or none
pub record Found (p : ℕ → Bool) (a b : ℕ) : Type 0 where
  pub from : a ≤ b
  pub fits : b ≤ no_index
  pub passes : b < no_index → p b ≡ true

module _ (p : ℕ → Bool) (a c best : ℕ) where
  better_le_best : better_of p a c best ≤ best
  unfolding better_of
  better_le_best = by_tests (leb a c) (ltb c best) refl (p c)
    where
      by_tests : (s t : Bool) → ltb c best ≡ t → (u : Bool) → cond (s && t && u) c best ≤ best
      by_tests true true f true = omega (arith, ltb-true c best f)
      by_tests true true f false = omega arith
      by_tests true false f u = omega arith
      by_tests false t f u = omega arith

  better_le_candidate : a ≤ c → p c ≡ true → better_of p a c best ≤ c
  unfolding better_of
  better_le_candidate q e = rw (le-leb a c q, e) (by_test (ltb c best) refl)
    where
      by_test : (t : Bool) → ltb c best ≡ t → cond (t && true) c best ≤ c
      by_test true f = omega arith
      by_test false f = omega (arith, ltb-false c best f)

  better_found : Found p a best → Found p a (better_of p a c best)
  unfolding better_of
  better_found before = by_tests (leb a c) refl (ltb c best) refl (p c) refl
    where
      by_tests : (s : Bool) → leb a c ≡ s → (t : Bool) → ltb c best ≡ t → (u : Bool) → p c ≡ u → Found p a (cond (s && t && u) c best)
      by_tests true f true g true e =
          record { from = leb-true a c f; fits = omega (arith, before.fits, ltb-true c best g); passes = λ r. e }
      by_tests true f true g false e = before
      by_tests true f false g u e = before
      by_tests false f t g u e = before

-- the best of some candidates
abbrev best_of : (ℕ → Bool) → ℕ → List ℕ → ℕ
best_of p a [] = no_index
best_of p a (c ∷ cs) = better_of p a c (best_of p a cs)

module _ (p : ℕ → Bool) (a : ℕ) where
  best_found : a ≤ no_index → (cs : List ℕ) → Found p a (best_of p a cs)
  best_found fits [] = record { from = fits; fits = omega arith; passes = λ q. absurd (omega arith) }
  best_found fits (c ∷ cs) = better_found p a c (best_of p a cs) (best_found fits cs)

  -- no candidate that passes is less
  best_le : (x : ℕ) (cs : List ℕ) → a ≤ x → p x ≡ true → In x cs → best_of p a cs ≤ x
  best_le x (c ∷ cs) q e (at_head f) =
      let s : better_of p a c (best_of p a cs) ≤ c = better_le_candidate p a c (best_of p a cs) (omega arith) (ap p (sym f) ∙ e) in
      omega arith
  best_le x (c ∷ cs) q e (in_Tail m) =
      omega (arith, better_le_best p a c (best_of p a cs), best_le x cs q e m)
  best_le x [] q e x4 = elim x4 [ ]

-- ---- seven tries

-- what the least index from a on that is in v and not in w can be
abbrev candidates : Row → Row → ℕ → List ℕ
candidates v w a = w.hole ∷ after w.lone ∷ (w.start + w.run) ∷ after v.hole ∷ v.lone ∷ v.start ∷ a ∷ []

-- an index of the one row that is not in the other, while the index before it is not of that kind: one of the candidates
module _ (v w : Row) (a i : ℕ) (below : suc i < no_index) (e : only_in v w (suc i) ≡ true) where
  in_v : row_holds v (suc i) ≡ true
  in_v = ((and-eq-true_iff (row_holds v (suc i)) (not (row_holds w (suc i)))).0 e).0

  not_in_w : row_holds w (suc i) ≡ false
  not_in_w = not-true (row_holds w (suc i)) ((and-eq-true_iff (row_holds v (suc i)) (not (row_holds w (suc i)))).0 e).1

  next_after : (k : ℕ) → i ≡ k → suc i ≡ after k
  next_after k f = sym (rw (ne_eqb k no_index (omega arith)) (omega arith))

  -- the index before is not in v: then this one is lone, starts the run or comes behind the hole
  starts_in_v : row_holds v i ≡ false → In (suc i) (candidates v w a)
  starts_in_v f = by_lone (ℕ_discrete (suc i) v.lone) (ℕ_discrete (suc i) v.start) (ℕ_discrete i v.hole)
    where
      by_lone : Dec (suc i ≡ v.lone) → Dec (suc i ≡ v.start) → Dec (i ≡ v.hole) → In (suc i) (candidates v w a)
      by_lone (yes g) s h = in_Tail (in_Tail (in_Tail (in_Tail (at_head g))))
      by_lone (no g) (yes s) h = in_Tail (in_Tail (in_Tail (in_Tail (in_Tail (at_head s)))))
      by_lone (no g) (no s) (yes h) = in_Tail (in_Tail (in_Tail (at_head (next_after v.hole h))))
      by_lone (no g) (no s) (no h) =
          let inside = in_run v (suc i) in_v g in
          absurd (omega (arith, not_in_run v i f h (omega arith)))

  -- the index before is in w: then this one is behind its lone block, its hole or the end of its run
  ends_in_w : row_holds w i ≡ true → In (suc i) (candidates v w a)
  ends_in_w f = by_lone (ℕ_discrete i w.lone) (ℕ_discrete (suc i) w.hole)
    where
      by_lone : Dec (i ≡ w.lone) → Dec (suc i ≡ w.hole) → In (suc i) (candidates v w a)
      by_lone (yes g) h = in_Tail (at_head (next_after w.lone g))
      by_lone (no g) (yes h) = at_head h
      by_lone (no g) (no h) =
          let inside = in_run w i f g in
          let outside = not_in_run w (suc i) not_in_w h (omega arith) in
          let end : suc i ≡ w.start + w.run = omega arith in
          in_Tail (in_Tail (at_head end))

  first_is_candidate : ¬ (only_in v w i ≡ true) → In (suc i) (candidates v w a)
  first_is_candidate not_before = by_rows (row_holds v i) refl (row_holds w i) refl
    where
      by_rows : (s : Bool) → row_holds v i ≡ s → (t : Bool) → row_holds w i ≡ t → In (suc i) (candidates v w a)
      by_rows false f t g = starts_in_v f
      by_rows true f true g = ends_in_w g
      by_rows true f false g = absurd (not_before (rw (f, g)))

-- so the seven tries find the least of all
pub least_of_seven : (v w : Row) (a : ℕ) → a ≤ no_index → least_only v w a ≡ best_of (only_in v w) a (candidates v w a)
unfolding only_from
least_of_seven v w a fits =
    first_is p a (no_index - a) no_index best (omega arith) found.from found.fits found.passes none_less
  where
    p : ℕ → Bool
    p = only_in v w

    best : ℕ
    best = best_of p a (candidates v w a)

    found : Found p a best
    found = best_found p a fits (candidates v w a)

    not_tried : (x : ℕ) → a ≤ x → x < best → p x ≡ true → In x (candidates v w a) → ⊥
    not_tried x q r e m = omega (arith, best_le p a x (candidates v w a) q e m)

    at_start : (x : ℕ) → x ≡ a → In x (candidates v w a)
    at_start x e = in_Tail (in_Tail (in_Tail (in_Tail (in_Tail (in_Tail (at_head e))))))

    -- by the index before, which is before a or not of that kind either
    past_start : (x : ℕ) → a ≤ suc x → suc x < best → p (suc x) ≡ true → (a ≤ x → ¬ (p x ≡ true)) → Dec (x < a) → ⊥
    past_start x q r e not_before (yes s) = not_tried (suc x) q r e (at_start (suc x) (omega arith))
    past_start x q r e not_before (no s) =
        not_tried (suc x) q r e (first_is_candidate v w a x (omega (arith, found.fits)) e (not_before (omega arith)))

    none_less : (x : ℕ) → a ≤ x → x < best → ¬ (p x ≡ true)
    none_less zero q r e = not_tried zero q r e (at_start zero (omega arith))
    none_less (suc x) q r e = past_start x q r e (λ s. none_less x s (omega arith)) (dec_lt x a)

-- ---- the indices that are in one row and not in another

module _ (v w : Row) where
  only_by : (a : ℕ) → a ≤ no_index → Kept (only_in v w) a no_index (only_from v w a)
  unfolding only_from
  only_by a fits = kept_by (only_in v w) a (no_index - a) no_index (omega arith)

  pub least_found : (a : ℕ) → a ≤ no_index → Found (only_in v w) a (least_only v w a)
  least_found a fits = by_kept (only_by a fits)
    where
      by_kept : Kept (only_in v w) a no_index (only_from v w a) → Found (only_in v w) a (least_only v w a)
      by_kept (none_kept e) = rw e (record { from = fits; fits = omega arith; passes = λ q. absurd (omega arith) })
      by_kept (first_kept i q r f e) = rw e (record { from = q; fits = omega arith; passes = λ _. f })

  pub only_none : only_from v w no_index ≡ []
  unfolding only_from
  only_none = refl

  pub only_step : (i : ℕ) → i < no_index → only_from v w i ≡ cond (only_in v w i) (i ∷ only_from v w (suc i)) (only_from v w (suc i))
  unfolding only_from
  only_step i q = rw left
    where
      left : no_index - i ≡ suc (no_index - suc i)
      left = omega arith

  pub only_cons : (i : ℕ) → i < no_index → only_in v w i ≡ true → only_from v w i ≡ i ∷ only_from v w (suc i)
  only_cons i q e = only_step i q ∙ ap (λ t. cond t (i ∷ only_from v w (suc i)) (only_from v w (suc i))) e

  pub only_empty : (a : ℕ) → a ≤ no_index → ((i : ℕ) → a ≤ i → i < no_index → only_in v w i ≡ false) → only_from v w a ≡ []
  only_empty a fits none = by_kept (only_by a fits)
    where
      by_kept : Kept (only_in v w) a no_index (only_from v w a) → only_from v w a ≡ []
      by_kept (none_kept e) = e
      by_kept (first_kept i q r f e) = absurd (false≢true (sym (none i q r) ∙ f))

  -- those from a on are those from the least on
  pub only_from_least : (a : ℕ) → a ≤ no_index → only_from v w (least_only v w a) ≡ only_from v w a
  unfolding only_from
  only_from_least a fits = by_kept (only_by a fits)
    where
      by_kept : Kept (only_in v w) a no_index (only_from v w a) → only_from v w (least_only v w a) ≡ only_from v w a
      by_kept (none_kept e) = rw e only_none
      by_kept (first_kept i q r f e) = rw e (only_cons i r f)

  pub found_is_least : (i : ℕ) → Found (only_in v w) 0 i → least_only v w i ≡ i
  found_is_least i s =
      elim (dec_lt i no_index) [
        | yes q ↦ rw (only_cons i q (s.passes q))
        | no q ↦ let e : i ≡ no_index = omega arith in rw (e, only_none)
      ]

  -- each of them is an index that passes
  pub only_listed : (a : ℕ) → a ≤ no_index → (k d : ℕ) → k < length (only_from v w a)
      → (get_or (only_from v w a) k d < no_index) × (only_in v w (get_or (only_from v w a) k d) ≡ true)
  unfolding only_from
  only_listed a fits k d q =
      let xs = up_from a (no_index - a) in
      let listed = of_keep (only_in v w) xs (get_or (keep (only_in v w) xs) k d) (at_place d (keep (only_in v w) xs) k q) in
      (omega (arith, of_up_from a (no_index - a) (get_or (keep (only_in v w) xs) k d) listed.0), listed.1)
