-- The nodes of a level, and of those the ones that are in one set and not in another: who they are, and how many.
use mathlib.Core.Path.{◌≡◌, refl, sym, ap, ◌∙◌}
use mathlib.Core.Bool.{Bool, true, false, not, ◌&&◌, cond}
use mathlib.Core.Logic.{◌⊎◌, inl, inr}
use mathlib.Core.List.{List, [], ◌∷◌}
use mathlib.Core.List.Memᴰ.{head as at_head}
use mathlib.Core.List.Memᴰ.{tail as in_Tail}
use mathlib.Core.List.{Memᴰ as In}
use mathlib.Core.List.Memᴰ.{cases_cons as head_or_tail}
use mathlib.Core.List.Memᴰ.{not-nil as in_nothing}
use Prim.Native.Nat.{ℕ, zero, suc, ◌+◌, ◌-◌, ◌^◌, ◌≤◌, ◌<◌}
use native.Mathlib.Omega.{arith}
use native.Mathlib.Decide.{ℕ_discrete}
use native.Mathlib.Nat.{pow-suc}
use borrow.Author.Tests.{eqb-true, eq-eqb}
use lib.Dec.{eqb}
use lib.ListN.{length}
use lib.Pow.{pow_pos, pow_mono}
use Rattle.tree.specs.Node.{InTree, depth, level}
use Rattle.tree.specs.Held.{Nodes, Within, count, sizes}
use Rattle.tree.proofs.Highest.{Highest, depth_highest, depth_is}
use Rattle.tree.proofs.Coordinates.{depth_le}
use Rattle.tree.proofs.Sets.{both_left, both_right}
use Rattle.tree.proofs.Count.{only_first, differences_of_counts, passes_first, fails_second, passes_only_first}
use Rattle.layout.specs.Rows.{up_from}
use Rattle.table.specs.Pairing.{keep, level_nodes, leavers, places}
use Rattle.table.proofs.Distinct.{Distinct, length_as_count}

-- ---- up_from

pub of_up_from : (a n x : ℕ) → In x (up_from a n) → (a ≤ x) × (x < a + n)
of_up_from a zero x m = absurd (in_nothing m)
of_up_from a (suc n) x m = go (head_or_tail m) (of_up_from (suc a) n x)
  where
    go : (x ≡ a) ⊎ In x (up_from (suc a) n) → (In x (up_from (suc a) n) → (suc a ≤ x) × (x < suc a + n)) → (a ≤ x) × (x < a + suc n)
    go (inl e) rest = omega arith
    go (inr m') rest = omega (arith, rest m')

pub in_up_from : (a n x : ℕ) → a ≤ x → x < a + n → In x (up_from a n)
in_up_from a zero x p q = absurd (omega arith)
in_up_from a (suc n) x p q = go (ℕ_discrete x a) (in_up_from (suc a) n x)
  where
    go : Dec (x ≡ a) → (suc a ≤ x → x < suc a + n → In x (up_from (suc a) n)) → In x (up_from a (suc n))
    go (yes e) rest = at_head e
    go (no ne) rest = in_Tail (rest (omega arith) (omega arith))

pub distinct_up_from : (a n : ℕ) → Distinct (up_from a n)
distinct_up_from a zero = tt
distinct_up_from a (suc n) = (λ m. omega (arith, of_up_from (suc a) n a m), distinct_up_from (suc a) n)

-- ---- keep

pub of_keep : (p : ℕ → Bool) (xs : List ℕ) (x : ℕ) → In x (keep p xs) → In x xs × (p x ≡ true)
of_keep p [] x m = absurd (in_nothing m)
of_keep p (y ∷ xs) x m = by_test (p y) refl m (of_keep p xs x)
  where
    at_first : p y ≡ true → (x ≡ y) ⊎ In x (keep p xs) → (In x (keep p xs) → In x xs × (p x ≡ true)) → In x (y ∷ xs) × (p x ≡ true)
    at_first e (inl same) rest = (at_head same, ap p same ∙ e)
    at_first e (inr m') rest = let r = rest m' in (in_Tail r.0, r.1)

    by_test : (b : Bool) → p y ≡ b → In x (cond b (y ∷ keep p xs) (keep p xs)) → (In x (keep p xs) → In x xs × (p x ≡ true))
        → In x (y ∷ xs) × (p x ≡ true)
    by_test true e m' rest = at_first e (head_or_tail m') rest
    by_test false e m' rest = let r = rest m' in (in_Tail r.0, r.1)

pub in_keep : (p : ℕ → Bool) (xs : List ℕ) (x : ℕ) → In x xs → p x ≡ true → In x (keep p xs)
in_keep p [] x m e = absurd (in_nothing m)
in_keep p (y ∷ xs) x m e = go (head_or_tail m) (λ m'. in_keep p xs x m' e)
  where
    kept : (b : Bool) → In x (keep p xs) → In x (cond b (y ∷ keep p xs) (keep p xs))
    kept true m' = in_Tail m'
    kept false m' = m'

    go : (x ≡ y) ⊎ In x xs → (In x xs → In x (keep p xs)) → In x (cond (p y) (y ∷ keep p xs) (keep p xs))
    go (inl same) rest = rw (sym (ap p same) ∙ e) (at_head same)
    go (inr m') rest = kept (p y) (rest m')

pub distinct_keep : (p : ℕ → Bool) (xs : List ℕ) → Distinct xs → Distinct (keep p xs)
distinct_keep p [] u = tt
distinct_keep p (x ∷ xs) u = by_test (p x) (distinct_keep p xs u.1)
  where
    by_test : (b : Bool) → Distinct (keep p xs) → Distinct (cond b (x ∷ keep p xs) (keep p xs))
    by_test true v = (λ m. u.0 (of_keep p xs x m).0, v)
    by_test false v = v

-- ---- the nodes of a level

-- n is a node of level l of a tree of height h
pub record OfLevel (h l n : ℕ) : Type 0 where
  pub in_tree : InTree h n
  pub level_is : level h n ≡ l

pub of_level_nodes : (h l n : ℕ) → l ≤ h → In n (level_nodes h l) → OfLevel h l n
of_level_nodes h l n q m =
    let r = of_up_from (2 ^ (h - l)) (2 ^ (h - l)) n m in
    let deeper : suc (h - l) ≤ suc h = omega arith in
    let d : depth n ≡ h - l = depth_is (h - l) n (record { low = r.0; high = omega (arith, r.1, pow-suc 2 (h - l)) }) in
    record {
      in_tree = record {
        above_zero = omega (arith, r.0, pow_pos (h - l));
        in_height = omega (arith, r.1, pow-suc 2 (h - l), pow_mono deeper);
      };
      level_is = rw d (omega arith);
    }

pub in_level_nodes : (h l n : ℕ) → OfLevel h l n → In n (level_nodes h l)
in_level_nodes h l n o =
    let t = o.in_tree in
    let d : depth n ≡ h - l = omega (arith, o.level_is, depth_le h n t) in
    let highest : Highest (h - l) n = rw d at (depth_highest n t.above_zero) in
    in_up_from (2 ^ (h - l)) (2 ^ (h - l)) n highest.low (omega (arith, highest.high, pow-suc 2 (h - l)))

-- ---- the leavers of a level

-- n is a node of level l that is in the set A and not in B
pub record OnlyIn (h : ℕ) (A B : Nodes) (l n : ℕ) : Type 0 where
  pub of_level : OfLevel h l n
  pub held : A n ≡ true
  pub not_held : ¬ (B n ≡ true)

module _ (h : ℕ) (A B : Nodes) (l : ℕ) where
  pub of_leavers : l ≤ h → (n : ℕ) → In n (leavers h A B l) → OnlyIn h A B l n
  unfolding leavers
  of_leavers q n m =
      let r = of_keep (λ k. A k && not (B k)) (level_nodes h l) n m in
      record {
        of_level = of_level_nodes h l n q r.0;
        held = passes_first (A n) (B n) r.1;
        not_held = fails_second (A n) (B n) r.1;
      }

  pub in_leavers : (n : ℕ) → OnlyIn h A B l n → In n (leavers h A B l)
  unfolding leavers
  in_leavers n v =
      in_keep (λ k. A k && not (B k)) (level_nodes h l) n (in_level_nodes h l n v.of_level) (passes_only_first (A n) (B n) v.held v.not_held)

  pub no_leaver_twice : Distinct (leavers h A B l)
  unfolding leavers
  no_leaver_twice = distinct_keep (λ k. A k && not (B k)) (level_nodes h l) (distinct_up_from (2 ^ (h - l)) (2 ^ (h - l)))

-- the places are the leavers with the sets exchanged
module _ (h : ℕ) (A B : Nodes) (l : ℕ) where
  pub places_as_leavers : places h A B l ≡ leavers h B A l
  unfolding places leavers
  places_as_leavers = refl

  pub of_places : l ≤ h → (n : ℕ) → In n (places h A B l) → OnlyIn h B A l n
  of_places q n m = of_leavers h B A l q n (rw places_as_leavers at m)

  pub in_places : (n : ℕ) → OnlyIn h B A l n → In n (places h A B l)
  in_places n v = rw places_as_leavers (in_leavers h B A l n v)

  pub no_place_twice : Distinct (places h A B l)
  no_place_twice = rw places_as_leavers (no_leaver_twice h B A l)

-- ---- how many there are

-- the test by which `sizes` counts
abbrev pub at_level : ℕ → Nodes → ℕ → ℕ → Bool
at_level h A l n = A n && eqb (level h n) l

-- as many as there are nodes of level l in A and not in B
pub leavers_counted : (h : ℕ) (A B : Nodes) → Within h A → (l : ℕ) → l ≤ h
    → length (leavers h A B l) ≡ count (2 ^ suc h) (only_first (at_level h A l) (at_level h B l))
leavers_counted h A B within l q = length_as_count (2 ^ suc h) test (leavers h A B l) (no_leaver_twice h A B l) passes listed
  where
    test : ℕ → Bool
    test = only_first (at_level h A l) (at_level h B l)

    passes : (n : ℕ) → In n (leavers h A B l) → (n < 2 ^ suc h) × (test n ≡ true)
    passes n m =
        let v = of_leavers h A B l q n m in
        let here : eqb (level h n) l ≡ true = eq-eqb (level h n) l v.of_level.level_is in (
          v.of_level.in_tree.in_height,
          passes_only_first (at_level h A l n) (at_level h B l n) (rw (v.held, here)) (λ e. v.not_held (both_left (B n) (eqb (level h n) l) e)),
        )

    listed : (n : ℕ) → n < 2 ^ suc h → test n ≡ true → In n (leavers h A B l)
    listed n r e =
        let a : at_level h A l n ≡ true = passes_first (at_level h A l n) (at_level h B l n) e in
        let held : A n ≡ true = both_left (A n) (eqb (level h n) l) a in
        let here : eqb (level h n) l ≡ true = both_right (A n) (eqb (level h n) l) a in
        in_leavers h A B l n
        (record {
          of_level = record { in_tree = within n held; level_is = eqb-true (level h n) l here };
          held = held;
          not_held = λ b. fails_second (at_level h A l n) (at_level h B l n) e (rw (b, here));
        })

-- so on each level the places are more than the leavers by as much as the new set is larger than the old one
pub places_and_leavers : (h : ℕ) (S N : Nodes) → Within h S → Within h N → (l : ℕ) → l ≤ h
    → length (places h S N l) + sizes h S l ≡ length (leavers h S N l) + sizes h N l
unfolding sizes
places_and_leavers h S N old new l q =
    rw (places_as_leavers h S N l, leavers_counted h N S new l q, leavers_counted h S N old l q)
    (differences_of_counts (2 ^ suc h) (at_level h N l) (at_level h S l))
