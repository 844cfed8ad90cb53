-- Lists of numbers: who stands in them, each once, in ascending order, and their sums.
use mathlib.Core.Path.{◌≡◌, refl, sym, ap, ap₂, ◌∙◌}
use mathlib.Core.Bool.{Bool, true, false, ◌||◌, cond, or-true, or_assoc, or_comm, true≢false, false≢true}
use mathlib.Core.Logic.{◌⊎◌, inl, inr, ⊎_elim}
use mathlib.Core.List.{List, [], ◌∷◌, ◌++◌, map}
use mathlib.Core.List.Memᴰ.{head as at_head}
use mathlib.Core.List.Memᴰ.{tail as in_Tail}
use mathlib.Core.List.{Memᴰ as In}
use mathlib.Core.List.Memᴰ.{cases_cons as head_or_tail}
use mathlib.Core.List.Memᴰ.{not-nil as in_nothing}
use Prim.Native.Nat.{ℕ, zero, suc, ◌+◌, ◌<◌}
use native.Mathlib.Omega.{arith}
use native.Mathlib.Decide.{ℕ_discrete}
use borrow.Author.Tests.{eqb-true, eqb-false, eq-eqb, ne_eqb}
use lib.Dec.{eqb}
use Rattle.table.proofs.Distinct.{Distinct}
use Rattle.staging.specs.Graph.{Group, joined, away, sum_over}
use Rattle.staging.proofs.Booleans.{false_if_not_true}
use Rattle.staging.proofs.Sums.{sum_joined}
use Rattle.carrying.specs.Order.{members}
use Rattle.carrying.specs.Carrying.{among, Once, Ascending, Before, lower, alike}

-- ---- who stands in a list

-- one of two tests passes
pub one_passes : (x y : Bool) → (x || y) ≡ true → (x ≡ true) ⊎ (y ≡ true)
one_passes true y e = inl refl
one_passes false y e = inr e

-- u is v, or the other test passes
pub one_or_other : (u v : ℕ) (b : Bool) → (eqb u v || b) ≡ true → (u ≡ v) ⊎ (b ≡ true)
one_or_other u v b e = ⊎_elim (λ f. inl (eqb-true u v f)) (λ f. inr f) (one_passes (eqb u v) b e)

-- both tests fail
both_fail : (x y : Bool) → (x || y) ≡ false → (x ≡ false) × (y ≡ false)
both_fail true y e = absurd (true≢false e)
both_fail false y e = (refl, e)

-- u is not v, and the other test fails
pub neither : (u v : ℕ) (b : Bool) → (eqb u v || b) ≡ false → (¬ (u ≡ v)) × (b ≡ false)
neither u v b e = let r = both_fail (eqb u v) b e in (eqb-false u v r.0, r.1)

-- how to pass and how to fail
pub is_first : (u : ℕ) (b : Bool) → (eqb u u || b) ≡ true
is_first u b = rw (eq-eqb u u refl)

pub is_other : (u v : ℕ) (b : Bool) → b ≡ true → (eqb u v || b) ≡ true
is_other u v b e = rw e (or-true (eqb u v))

pub is_neither : (u v : ℕ) (b : Bool) → ¬ (u ≡ v) → b ≡ false → (eqb u v || b) ≡ false
is_neither u v b ne e = rw (ne_eqb u v ne, e)

-- one stands in the list and the other does not
pub not_same : (us : List ℕ) (u v : ℕ) → among u us ≡ true → among v us ≡ false → ¬ (u ≡ v)
not_same us u v e f same = true≢false (sym e ∙ ap (λ (w : ℕ). among w us) same ∙ f)

pub among_append : (u : ℕ) (us vs : List ℕ) → among u (us ++ vs) ≡ (among u us || among u vs)
among_append u [] vs = refl
among_append u (w ∷ us) vs = ap (λ (b : Bool). eqb u w || b) (among_append u us vs) ∙ sym (or_assoc (eqb u w) (among u us) (among u vs))

pub in_parts : (u : ℕ) (us vs : List ℕ) → among u (us ++ vs) ≡ true → (among u us ≡ true) ⊎ (among u vs ≡ true)
in_parts u us vs e = one_passes (among u us) (among u vs) (sym (among_append u us vs) ∙ e)

pub not_in_parts : (u : ℕ) (us vs : List ℕ) → among u (us ++ vs) ≡ false → (among u us ≡ false) × (among u vs ≡ false)
not_in_parts u us vs e = both_fail (among u us) (among u vs) (sym (among_append u us vs) ∙ e)

pub in_first_part : (u : ℕ) (us vs : List ℕ) → among u us ≡ true → among u (us ++ vs) ≡ true
in_first_part u us vs e = among_append u us vs ∙ ap (λ (b : Bool). b || among u vs) e

pub in_second_part : (u : ℕ) (us vs : List ℕ) → among u vs ≡ true → among u (us ++ vs) ≡ true
in_second_part u us vs e = among_append u us vs ∙ ap (λ (b : Bool). among u us || b) e ∙ or-true (among u us)

-- who is away: those who were, and those who have gone
pub away_is : (A : Group) (ks : List ℕ) (j : ℕ) → away A ks j ≡ (among j ks || A j)
away_is A [] j = refl
away_is A (k ∷ ks) j =
    away_is (joined A k) ks j
    ∙ sym (or_assoc (among j ks) (eqb j k) (A j))
    ∙ ap (λ (b : Bool). b || A j) (or_comm (among j ks) (eqb j k))

-- ---- a list mapped

pub to_map : (f : ℕ → ℕ) (k : ℕ) (ks : List ℕ) → among k ks ≡ true → among (f k) (map f ks) ≡ true
to_map f k [] e = absurd (false≢true e)
to_map f k (j ∷ ks) e = by_case (one_or_other k j (among k ks) e) (to_map f k ks)
  where
    by_case : (k ≡ j) ⊎ (among k ks ≡ true) → (among k ks ≡ true → among (f k) (map f ks) ≡ true) → among (f k) (map f (j ∷ ks)) ≡ true
    by_case (inl same) later = rw (eq-eqb (f k) (f j) (ap f same))
    by_case (inr g) later = is_other (f k) (f j) (among (f k) (map f ks)) (later g)

pub from_map : (f : ℕ → ℕ) (u : ℕ) (ks : List ℕ) → among u (map f ks) ≡ true → (k : ℕ) × (among k ks ≡ true) × (f k ≡ u)
from_map f u [] e = absurd (false≢true e)
from_map f u (j ∷ ks) e = by_case (one_or_other u (f j) (among u (map f ks)) e) (from_map f u ks)
  where
    by_case : (u ≡ f j) ⊎ (among u (map f ks) ≡ true) → (among u (map f ks) ≡ true → (k : ℕ) × (among k ks ≡ true) × (f k ≡ u))
        → (k : ℕ) × (among k (j ∷ ks) ≡ true) × (f k ≡ u)
    by_case (inl same) later = (j, is_first j (among j ks), sym same)
    by_case (inr g) later = let r = later g in (r.0, is_other r.0 j (among r.0 ks) r.1, r.2)

-- f keeps k apart from the members of the list
abbrev pub Apart : (ℕ → ℕ) → ℕ → List ℕ → Type 0
Apart f k ks = (j : ℕ) → among j ks ≡ true → f j ≡ f k → j ≡ k

pub among_map : (f : ℕ → ℕ) (k : ℕ) (ks : List ℕ) → Apart f k ks → among (f k) (map f ks) ≡ among k ks
among_map f k ks apart = by_test (among k ks) refl
  where
    by_test : (b : Bool) → among k ks ≡ b → among (f k) (map f ks) ≡ b
    by_test true e = to_map f k ks e
    by_test false e =
        false_if_not_true (among (f k) (map f ks))
        (λ m. let r = from_map f (f k) ks m in true≢false (sym r.1 ∙ ap (λ (j : ℕ). among j ks) (apart r.0 r.1 r.2) ∙ e))

-- ---- each once

pub once_append : (us vs : List ℕ) → Once us → Once vs → ((u : ℕ) → among u us ≡ true → among u vs ≡ false) → Once (us ++ vs)
once_append [] vs a b apart = b
once_append (u ∷ us) vs a b apart = (
  among_append u us vs ∙ ap₂ ◌||◌ a.0 (apart u (is_first u (among u us))),
  once_append us vs a.1 b (λ v e. apart v (is_other v u (among v us) e)),
)

-- the two parts of a list in which nobody stands twice
pub once_first : (us vs : List ℕ) → Once (us ++ vs) → Once us
once_first [] vs a = tt
once_first (u ∷ us) vs a = ((not_in_parts u us vs a.0).0, once_first us vs a.1)

pub once_second : (us vs : List ℕ) → Once (us ++ vs) → Once vs
once_second [] vs a = a
once_second (u ∷ us) vs a = once_second us vs a.1

pub once_apart : (us vs : List ℕ) → Once (us ++ vs) → (v : ℕ) → among v us ≡ true → among v vs ≡ false
once_apart [] vs a v e = absurd (false≢true e)
once_apart (u ∷ us) vs a v e = by_case (one_or_other v u (among v us) e) (once_apart us vs a.1 v)
  where
    by_case : (v ≡ u) ⊎ (among v us ≡ true) → (among v us ≡ true → among v vs ≡ false) → among v vs ≡ false
    by_case (inl same) later = ap (λ (w : ℕ). among w vs) same ∙ (not_in_parts u us vs a.0).1
    by_case (inr f) later = later f

pub once_of_map : (f : ℕ → ℕ) (ks : List ℕ) → Once (map f ks) → Once ks
once_of_map f [] a = tt
once_of_map f (k ∷ ks) a =
    (false_if_not_true (among k ks) (λ e. true≢false (sym (to_map f k ks e) ∙ a.0)), once_of_map f ks a.1)

pub once_map : (f : ℕ → ℕ) (ks : List ℕ) → ((k : ℕ) → among k ks ≡ true → Apart f k ks) → Once ks → Once (map f ks)
once_map f [] apart a = tt
once_map f (k ∷ ks) apart a = (
  among_map f k ks (λ j e. apart k (is_first k (among k ks)) j (is_other j k (among j ks) e)) ∙ a.0,
  once_map f ks (λ j e i d. apart j (is_other j k (among j ks) e) i (is_other i k (among i ks) d)) a.1,
)

-- ---- the same as membership

pub among_in : (k : ℕ) (xs : List ℕ) → In k xs → among k xs ≡ true
among_in k [] m = absurd (in_nothing m)
among_in k (x ∷ xs) m = by_case (head_or_tail m) (among_in k xs)
  where
    by_case : (k ≡ x) ⊎ In k xs → (In k xs → among k xs ≡ true) → among k (x ∷ xs) ≡ true
    by_case (inl e) rest = rw (eq-eqb k x e)
    by_case (inr r) rest = is_other k x (among k xs) (rest r)

pub in_among : (k : ℕ) (xs : List ℕ) → among k xs ≡ true → In k xs
in_among k [] e = absurd (false≢true e)
in_among k (x ∷ xs) e = by_case (one_or_other k x (among k xs) e) (in_among k xs)
  where
    by_case : (k ≡ x) ⊎ (among k xs ≡ true) → (among k xs ≡ true → In k xs) → In k (x ∷ xs)
    by_case (inl f) rest = at_head f
    by_case (inr f) rest = in_Tail (rest f)

pub distinct_of_once : (xs : List ℕ) → Once xs → Distinct xs
distinct_of_once [] o = tt
distinct_of_once (x ∷ xs) o = (λ m. true≢false (sym (among_in x xs m) ∙ o.0), distinct_of_once xs o.1)

-- ---- the members of a group

pub of_members : (n : ℕ) (S : Group) (k : ℕ) → among k (members n S) ≡ true → (k < n) × (S k ≡ true)
of_members zero S k e = absurd (false≢true e)
of_members (suc n) S k e = by_test (S n) refl e (of_members n S k)
  where
    by_test : (b : Bool) → S n ≡ b → among k (cond b (n ∷ members n S) (members n S)) ≡ true
        → (among k (members n S) ≡ true → (k < n) × (S k ≡ true)) → (k < suc n) × (S k ≡ true)
    by_test false f g later = let r = later g in (omega (arith, r.0), r.1)
    by_test true f g later = by_case (one_or_other k n (among k (members n S)) g)
      where
        by_case : (k ≡ n) ⊎ (among k (members n S) ≡ true) → (k < suc n) × (S k ≡ true)
        by_case (inl same) = (omega arith, ap S same ∙ f)
        by_case (inr d) = let r = later d in (omega (arith, r.0), r.1)

pub in_members : (n : ℕ) (S : Group) (k : ℕ) → k < n → S k ≡ true → among k (members n S) ≡ true
in_members zero S k q e = absurd (omega arith)
in_members (suc n) S k q e =
    elim (ℕ_discrete k n) [
      | yes same ↦ top same
      | no ne ↦ below (S n) (in_members n S k (omega arith) e)
    ]
  where
    top : k ≡ n → among k (members (suc n) S) ≡ true
    top same = rw (sym (ap S same) ∙ e, eq-eqb k n same)

    below : (b : Bool) → among k (members n S) ≡ true → among k (cond b (n ∷ members n S) (members n S)) ≡ true
    below true d = is_other k n (among k (members n S)) d
    below false d = d

pub once_members : (n : ℕ) (S : Group) → Once (members n S)
once_members zero S = tt
once_members (suc n) S = by_test (S n) (once_members n S)
  where
    by_test : (b : Bool) → Once (members n S) → Once (cond b (n ∷ members n S) (members n S))
    by_test true a = (false_if_not_true (among n (members n S)) (λ e. omega (arith, (of_members n S n e).0)), a)
    by_test false a = a

-- ---- sums

sum_none : (n : ℕ) (f : ℕ → ℕ) → sum_over n (λ k. false) f ≡ 0
sum_none zero f = refl
sum_none (suc n) f = omega (arith, sum_none n f)

-- F adds up f over a list: so does the sum over the group of its members
pub sum_of_list : (n : ℕ) (f : ℕ → ℕ) (F : List ℕ → ℕ) → F [] ≡ 0 → ((k : ℕ) (ks : List ℕ) → k < n → F (k ∷ ks) ≡ f k + F ks)
    → (ks : List ℕ) → Once ks → ((k : ℕ) → among k ks ≡ true → k < n) → F ks ≡ sum_over n (λ k. among k ks) f
sum_of_list n f F none more [] a below = none ∙ sym (sum_none n f)
sum_of_list n f F none more (k ∷ ks) a below =
    let k<n : k < n = below k (is_first k (among k ks)) in
    let rest : F ks ≡ sum_over n (λ j. among j ks) f = sum_of_list n f F none more ks a.1 (λ j e. below j (is_other j k (among j ks) e)) in
    omega (arith, more k ks k<n, rest, sum_joined n (λ j. among j ks) k f k<n a.0)

-- ---- ascending lists

lower_not_among : (u : ℕ) (us : List ℕ) → Ascending (u ∷ us) → (x : ℕ) → x < u → among x (u ∷ us) ≡ false
lower_not_among u us a x q =
    is_neither x u (among x us) (λ e. omega arith) (false_if_not_true (among x us) (λ e. omega (arith, a.0 x e)))

-- the lowest number that stands in one of two lists only stands in us
pub record FirstDifference (us vs : List ℕ) : Type 0 where
  pub at : ℕ
  pub in_one : among at us ≡ true
  pub not_in_other : among at vs ≡ false
  pub lower_alike : (x : ℕ) → x < at → among x us ≡ among x vs

pub first_difference : (us vs : List ℕ) → Before us vs → Ascending us → Ascending vs → FirstDifference us vs
first_difference _ _ (lower u v us vs q) a b =
    record {
      at = u;
      in_one = is_first u (among u us);
      not_in_other = lower_not_among v vs b u q;
      lower_alike = λ x r. lower_not_among u us a x r ∙ sym (lower_not_among v vs b x (omega arith));
    }
first_difference _ _ (alike u us vs before) a b =
    let d = first_difference us vs before a.1 b.1 in
    record {
      at = d.at;
      in_one = is_other d.at u (among d.at us) d.in_one;
      not_in_other = is_neither d.at u (among d.at vs) (λ e. omega (arith, e, a.0 d.at d.in_one)) d.not_in_other;
      lower_alike = λ x r. ap (λ (t : Bool). eqb x u || t) (d.lower_alike x r);
    }
