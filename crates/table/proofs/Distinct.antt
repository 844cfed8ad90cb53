-- Lists in which nothing stands twice: their members by place, lists made of two, lists mapped; and that such a list is as long as the count
-- of the numbers that stand in it.
use mathlib.Core.Path.{◌≡◌, refl, sym, ap, ◌∙◌}
use mathlib.Core.Bool.{Bool, true}
use mathlib.Core.Logic.{◌⊎◌, inl, inr}
use mathlib.Core.List.{List, [], ◌∷◌, ◌++◌, map}
use mathlib.Core.List.Memᴰ.{head as at_head}
use mathlib.Core.List.Memᴰ.{tail as in_Tail}
use mathlib.Core.List.{Memᴰ as In}
use mathlib.Core.List.Memᴰ.{append_cases as in_either}
use mathlib.Core.List.Memᴰ.{cases_cons as head_or_tail}
use mathlib.Core.List.Memᴰ.{not-nil as in_nothing}
use mathlib.Core.List.Memᴰ.{cast as in_cast}
use mathlib.Core.List.Memᴰ.{map as in_map}
use mathlib.Core.List.Memᴰ.{of_map}
use Prim.Native.Nat.{ℕ, zero, suc, ◌≤◌, ◌<◌}
use native.Mathlib.Omega.{arith}
use borrow.Author.Tests.{eqb-true, eq-eqb}
use lib.Dec.{eqb}
use lib.ListN.{length, get_or}
use Rattle.tree.specs.Held.{count}
use Rattle.tree.proofs.Sum.{count_le_one, count_of_none}
use Rattle.tree.proofs.Count.{only_first, differences_of_counts, count_of_one, passes_first, fails_second, passes_only_first}

-- nothing stands twice
abbrev pub Distinct : List ℕ → Type 0
Distinct [] = Unit {0}
Distinct (x ∷ xs) = (¬ In x xs) × Distinct xs

-- ---- members by place

pub place_of : {A : Type 0} (d : A) {a : A} {xs : List A} → In a xs → (i : ℕ) × (i < length xs) × (get_or xs i d ≡ a)
place_of d (at_head e) = (0, omega arith, sym e)
place_of d (in_Tail m) = let p = place_of d m in (suc p.0, omega (arith, p.1), p.2)

pub at_place : {A : Type 0} (d : A) (xs : List A) (i : ℕ) → i < length xs → In (get_or xs i d) xs
at_place d [] i q = absurd (omega arith)
at_place d (x ∷ xs) zero q = at_head refl
at_place d (x ∷ xs) (suc i) q = in_Tail (at_place d xs i (omega arith))

-- what stands at two places stands twice
pub distinct_places : (d : ℕ) (xs : List ℕ) → Distinct xs → (i j : ℕ) → i < length xs → j < length xs → get_or xs i d ≡ get_or xs j d → i ≡ j
distinct_places d [] u i j p q e = absurd (omega arith)
distinct_places d (x ∷ xs) u zero zero p q e = refl
distinct_places d (x ∷ xs) u zero (suc j) p q e = absurd (u.0 (in_cast e (at_place d xs j (omega arith))))
distinct_places d (x ∷ xs) u (suc i) zero p q e = absurd (u.0 (in_cast (sym e) (at_place d xs i (omega arith))))
distinct_places d (x ∷ xs) u (suc i) (suc j) p q e = ap suc (distinct_places d xs u.1 i j (omega arith) (omega arith) e)

-- ---- two lists, one after the other

pub distinct_append : (xs ys : List ℕ) → Distinct xs → Distinct ys → ((x : ℕ) → In x xs → ¬ In x ys) → Distinct (xs ++ ys)
distinct_append [] ys u v apart = v
distinct_append (x ∷ xs) ys u v apart = (not_again, distinct_append xs ys u.1 v (λ y m. apart y (in_Tail m)))
  where
    in_neither : In x xs ⊎ In x ys → ⊥
    in_neither (inl m) = u.0 m
    in_neither (inr m) = apart x (at_head refl) m

    not_again : ¬ In x (xs ++ ys)
    not_again m = in_neither (in_either xs m)

-- ---- a list mapped

-- f keeps the members apart
pub distinct_map : (f : ℕ → ℕ) (xs : List ℕ) → Distinct xs → ((x y : ℕ) → In x xs → In y xs → f x ≡ f y → x ≡ y) → Distinct (map f xs)
distinct_map f [] u apart = tt
distinct_map f (x ∷ xs) u apart = (not_again, distinct_map f xs u.1 (λ y z m k. apart y z (in_Tail m) (in_Tail k)))
  where
    not_again : ¬ In (f x) (map f xs)
    not_again m = let r = of_map f xs m in u.0 (in_cast (apart x r.0 (at_head refl) (in_Tail r.1) (sym r.2)) r.1)

-- two members with one value are one member
pub same_by_value : {A : Type 0} (f : A → ℕ) (xs : List A) → Distinct (map f xs) → {a b : A} → In a xs → In b xs → f a ≡ f b → a ≡ b
same_by_value f [] u m k e = absurd (in_nothing m)
same_by_value f (x ∷ xs) u {a} {b} m k e = go (head_or_tail m) (head_or_tail k) (same_by_value f xs u.1)
  where
    go : (a ≡ x) ⊎ In a xs → (b ≡ x) ⊎ In b xs → (In a xs → In b xs → f a ≡ f b → a ≡ b) → a ≡ b
    go (inl p) (inl q) rest = p ∙ sym q
    go (inl p) (inr k') rest = absurd (u.0 (in_cast (sym (ap f p) ∙ e) (in_map f k')))
    go (inr m') (inl q) rest = absurd (u.0 (in_cast (sym (ap f q) ∙ sym e) (in_map f m')))
    go (inr m') (inr k') rest = rest m' k' e

pub get_d_map : {A B : Type 0} (f : A → B) (xs : List A) (d : A) (e : B) (i : ℕ) → i < length xs → get_or (map f xs) i e ≡ f (get_or xs i d)
get_d_map f [] d e i q = absurd (omega arith)
get_d_map f (x ∷ xs) d e zero q = refl
get_d_map f (x ∷ xs) d e (suc i) q = get_d_map f xs d e i (omega arith)

-- ---- the length as a count

-- without one number that passes, one fewer passes
count_without : (n : ℕ) (p : ℕ → Bool) (x : ℕ) → x < n → p x ≡ true → count n p ≡ suc (count n (only_first p (eqb x)))
count_without n p x q e =
    let others : count n (only_first (eqb x) p) ≡ 0 =
    count_of_none n (only_first (eqb x) p) (λ k r m. fails_second (eqb x k) (p k) m (rw (eqb-true x k (passes_first (eqb x k) (p k) m)) at e)) in
    let one : 0 < count n (eqb x) = count_of_one n (eqb x) x q (eq-eqb x x refl) in
    let only : count n (eqb x) ≤ 1 = count_le_one n (eqb x) (λ i j r s. sym (eqb-true x i r) ∙ eqb-true x j s) in
    omega (arith, differences_of_counts n p (eqb x))

-- a list of just those numbers below n that pass the test
pub length_as_count :
    (n : ℕ) (p : ℕ → Bool) (xs : List ℕ) → Distinct xs → ((x : ℕ) → In x xs → (x < n) × (p x ≡ true)) → ((x : ℕ) → x < n → p x ≡ true → In x xs)
    → length xs ≡ count n p
length_as_count n p [] u passes listed = sym (count_of_none n p (λ x q e. in_nothing (listed x q e)))
length_as_count n p (x ∷ xs) u passes listed =
    let first = passes x (at_head refl) in
    ap suc (length_as_count n (only_first p (eqb x)) xs u.1 others_pass others_listed) ∙ sym (count_without n p x first.0 first.1)
  where
    others_pass : (y : ℕ) → In y xs → (y < n) × (only_first p (eqb x) y ≡ true)
    others_pass y m =
        let r = passes y (in_Tail m) in
        (r.0, passes_only_first (p y) (eqb x y) r.1 (λ e. u.0 (in_cast (eqb-true x y e) m)))

    in_rest : (y : ℕ) → ¬ (x ≡ y) → (y ≡ x) ⊎ In y xs → In y xs
    in_rest y ne (inl e) = absurd (ne (sym e))
    in_rest y ne (inr m) = m

    others_listed : (y : ℕ) → y < n → only_first p (eqb x) y ≡ true → In y xs
    others_listed y q e =
        in_rest y (λ r. fails_second (p y) (eqb x y) e (eq-eqb x y r)) (head_or_tail (listed y q (passes_first (p y) (eqb x y) e)))
