-- The shifts between two sets of nodes. Every node of the old set that is not in the new one is shifted, to a node of its own level that is in
-- the new set and not in the old one; no two to the same node; and where a level has as many places as leavers, every place is taken.
use mathlib.Core.Path.{◌≡◌, refl, sym, ap, subst, ◌∙◌}
use mathlib.Core.Bool.{Bool, true, false, false≢true}
use mathlib.Core.Logic.{◌⊎◌, inl, inr}
use mathlib.Core.List.{List, map, map-append}
use mathlib.Core.List.Memᴰ.{append_cases as in_either}
use mathlib.Core.List.Memᴰ.{not-nil as in_nothing}
use mathlib.Core.List.{Memᴰ as In}
use mathlib.Core.List.Memᴰ.{append_left as in_left}
use mathlib.Core.List.Memᴰ.{append_right as in_right}
use mathlib.Core.List.Memᴰ.{cast as in_cast}
use mathlib.Core.List.Memᴰ.{map as in_map}
use mathlib.Core.List.Memᴰ.{of_map}
use Prim.Native.Nat.{ℕ, zero, suc, ◌+◌, ◌^◌, ◌≤◌, ◌<◌}
use native.Mathlib.Omega.{arith}
use native.Mathlib.Decide.{ℕ_discrete}
use lib.ListN.{length, get_or, length-map}
use Rattle.tree.specs.Node.{level}
use Rattle.tree.specs.Held.{Nodes, Within, count, sizes}
use Rattle.tree.proofs.Count.{only_first, passes_first, fails_second, passes_only_first}
use Rattle.table.specs.Pairing.{leavers, places, Shift, pair, shifts_from, shifts, goes, newcomer}
use Rattle.table.proofs.Distinct.{Distinct, place_of, at_place, distinct_places, distinct_append, same_by_value, length_as_count}
use Rattle.table.proofs.Keep.{OnlyIn, of_leavers, in_leavers, no_leaver_twice, of_places, in_places, no_place_twice, places_and_leavers}
use Rattle.table.proofs.Pair.{in_pair, of_pair, pair_from_in, pair_to_in, distinct_pair_froms, distinct_pair_tos, Goes, stays, moves, goes_by}

-- ---- the shifts of all levels

-- the pairing of level l
abbrev pub pair_at : ℕ → Nodes → Nodes → ℕ → List Shift
pair_at h S N l = pair (leavers h S N l) (places h S N l)

pub of_shifts_from : (h : ℕ) (S N : Nodes) (l n : ℕ) (s : Shift) → In s (shifts_from h S N l n)
    → (k : ℕ) × (l ≤ k) × (k < l + n) × In s (pair_at h S N k)
of_shifts_from h S N l zero s m = absurd (in_nothing m)
of_shifts_from h S N l (suc n) s m = go (in_either (pair_at h S N l) m) (of_shifts_from h S N (suc l) n s)
  where
    go : In s (pair_at h S N l) ⊎ In s (shifts_from h S N (suc l) n)
        → (In s (shifts_from h S N (suc l) n) → (k : ℕ) × (suc l ≤ k) × (k < suc l + n) × In s (pair_at h S N k))
        → (k : ℕ) × (l ≤ k) × (k < l + suc n) × In s (pair_at h S N k)
    go (inl m') rest = (l, omega arith, omega arith, m')
    go (inr m') rest = let r = rest m' in (r.0, omega (arith, r.1), omega (arith, r.2), r.3)

pub in_shifts_from : (h : ℕ) (S N : Nodes) (l n k : ℕ) (s : Shift) → l ≤ k → k < l + n → In s (pair_at h S N k) → In s (shifts_from h S N l n)
in_shifts_from h S N l zero k s p q m = absurd (omega arith)
in_shifts_from h S N l (suc n) k s p q m = go (ℕ_discrete k l) (λ r. in_shifts_from h S N (suc l) n k s r (omega arith) m)
  where
    go : Dec (k ≡ l) → (suc l ≤ k → In s (shifts_from h S N (suc l) n)) → In s (shifts_from h S N l (suc n))
    go (yes e) rest = in_left (shifts_from h S N (suc l) n) (rw e at m)
    go (no ne) rest = in_right (pair_at h S N l) (rest (omega arith))

-- the sets of the table before and after, the second with room for the first on each level
pub record Room (h : ℕ) (S N : Nodes) : Type 0 where
  pub old : Within h S
  pub new : Within h N
  pub room : (l : ℕ) → sizes h S l ≤ sizes h N l

-- the shifts bring somebody of the old set to node n
pub record Reached (h : ℕ) (S N : Nodes) (n : ℕ) : Type 0 where
  pub before : ℕ
  pub held : S before ≡ true
  pub arrives : goes (shifts h S N) before ≡ n

module _ {h : ℕ} {S N : Nodes} (R : Room h S N) where
  pub enough_places : (l : ℕ) → l ≤ h → length (leavers h S N l) ≤ length (places h S N l)
  enough_places l q = omega (arith, places_and_leavers h S N R.old R.new l q, R.room l)

  pub leaves_at : (l : ℕ) → l ≤ h → (s : Shift) → In s (pair_at h S N l) → OnlyIn h S N l s.from
  leaves_at l q s m = of_leavers h S N l q s.from (pair_from_in (leavers h S N l) (places h S N l) s m)

  pub enters_at : (l : ℕ) → l ≤ h → (s : Shift) → In s (pair_at h S N l) → OnlyIn h N S l s.to
  enters_at l q s m = of_places h S N l q s.to (pair_to_in (leavers h S N l) (places h S N l) s m)

  pub level_of_shift : (s : Shift) → In s (shifts h S N) → (l : ℕ) × (l ≤ h) × In s (pair_at h S N l)
  unfolding shifts
  level_of_shift s m = let r = of_shifts_from h S N 0 (suc h) s m in (r.0, omega (arith, r.2), r.3)

  pub shift_of_level : (l : ℕ) → l ≤ h → (s : Shift) → In s (pair_at h S N l) → In s (shifts h S N)
  unfolding shifts
  shift_of_level l q s m = in_shifts_from h S N 0 (suc h) l s (omega arith) (omega arith) m

  -- f reads a node off each shift: if that is a node of the shift's level, and no two shifts of a level share it, no two at all do
  distinct_levels : (f : Shift → ℕ) → ((l : ℕ) → l ≤ h → Distinct (map f (pair_at h S N l)))
      → ((l : ℕ) → l ≤ h → (s : Shift) → In s (pair_at h S N l) → level h (f s) ≡ l)
      → (l n : ℕ) → l + n ≤ suc h → Distinct (map f (shifts_from h S N l n))
  distinct_levels f each level_of l zero q = tt
  distinct_levels f each level_of l (suc n) q =
      rw (map-append f (pair_at h S N l) (shifts_from h S N (suc l) n))
      (distinct_append (map f (pair_at h S N l)) (map f (shifts_from h S N (suc l) n))
      (each l (omega arith))
      (distinct_levels f each level_of (suc l) n (omega arith))
      apart)
    where
      apart : (x : ℕ) → In x (map f (pair_at h S N l)) → ¬ In x (map f (shifts_from h S N (suc l) n))
      apart x m k =
          let a = of_map f (pair_at h S N l) m in
          let b = of_map f (shifts_from h S N (suc l) n) k in
          let c = of_shifts_from h S N (suc l) n b.0 b.1 in
          let here : level h x ≡ l = ap (level h) (sym a.2) ∙ level_of l (omega arith) a.0 a.1 in
          let there : level h x ≡ c.0 = ap (level h) (sym b.2) ∙ level_of c.0 (omega (arith, c.2)) b.0 c.3 in
          omega (arith, c.1)

  pub distinct_froms : Distinct (map (λ s. s.from) (shifts h S N))
  unfolding shifts
  distinct_froms =
      distinct_levels (λ s. s.from)
      (λ l q. distinct_pair_froms (leavers h S N l) (places h S N l) (no_leaver_twice h S N l))
      (λ l q s m. (leaves_at l q s m).of_level.level_is)
      0 (suc h) (omega arith)

  pub distinct_tos : Distinct (map (λ s. s.to) (shifts h S N))
  unfolding shifts
  distinct_tos =
      distinct_levels (λ s. s.to)
      (λ l q. distinct_pair_tos (leavers h S N l) (places h S N l) (no_place_twice h S N l))
      (λ l q s m. (enters_at l q s m).of_level.level_is)
      0 (suc h) (omega arith)

  -- ---- where the shifts bring whoever is on a node

  pub goes_with : (s : Shift) → In s (shifts h S N) → goes (shifts h S N) s.from ≡ s.to
  goes_with s m = go (goes_by (shifts h S N) s.from)
    where
      go : Goes (shifts h S N) s.from → goes (shifts h S N) s.from ≡ s.to
      go (stays none same) = absurd (none s m refl)
      go (moves t k f there) = there ∙ ap (λ (v : Shift). v.to) (same_by_value (λ v. v.from) (shifts h S N) distinct_froms k m f)

  -- the j-th leaver of a level is shifted to the j-th place of the level
  shift_in_turn : (l j : ℕ) → l ≤ h → j < length (leavers h S N l)
      → In (record { from = get_or (leavers h S N l) j 0; to = get_or (places h S N l) j 0 }) (shifts h S N)
  shift_in_turn l j q r =
      shift_of_level l q (record { from = get_or (leavers h S N l) j 0; to = get_or (places h S N l) j 0 })
      (in_pair (leavers h S N l) (places h S N l) j r (omega (arith, enough_places l q)))

  pub goes_in_turn : (l j : ℕ) → l ≤ h → j < length (leavers h S N l)
      → goes (shifts h S N) (get_or (leavers h S N l) j 0) ≡ get_or (places h S N l) j 0
  goes_in_turn l j q r = goes_with (record { from = get_or (leavers h S N l) j 0; to = get_or (places h S N l) j 0 }) (shift_in_turn l j q r)

  leaver_place : (n : ℕ) → S n ≡ true → ¬ (N n ≡ true)
      → (j : ℕ) × (j < length (leavers h S N (level h n))) × (get_or (leavers h S N (level h n)) j 0 ≡ n)
  leaver_place n held gone =
      place_of 0
      (in_leavers h S N (level h n) n (record { of_level = record { in_tree = R.old n held; level_is = refl }; held = held; not_held = gone }))

  pub old_of_shift : (s : Shift) → In s (shifts h S N) → (S s.from ≡ true) × (¬ (N s.from ≡ true))
  old_of_shift s m = let r = level_of_shift s m in let v = leaves_at r.0 r.1 s r.2 in (v.held, v.not_held)

  pub new_of_shift : (s : Shift) → In s (shifts h S N) → (N s.to ≡ true) × (¬ (S s.to ≡ true))
  new_of_shift s m = let r = level_of_shift s m in let v = enters_at r.0 r.1 s r.2 in (v.held, v.not_held)

  -- there are as many shifts as nodes of the old set that are not in the new one
  pub shifts_counted : length (shifts h S N) ≡ count (2 ^ suc h) (only_first S N)
  shifts_counted =
      sym (length-map (shifts h S N) (λ s. s.from))
      ∙ length_as_count (2 ^ suc h) (only_first S N) (map (λ s. s.from) (shifts h S N)) distinct_froms passes listed
    where
      passes : (n : ℕ) → In n (map (λ s. s.from) (shifts h S N)) → (n < 2 ^ suc h) × (only_first S N n ≡ true)
      passes n m =
          let r = of_map (λ (s : Shift). s.from) (shifts h S N) m in
          let v = old_of_shift r.0 r.1 in
          let held : S n ≡ true = rw r.2 at v.0 in
          let gone : ¬ (N n ≡ true) = rw r.2 at v.1 in
          ((R.old n held).in_height, passes_only_first (S n) (N n) held gone)

      listed : (n : ℕ) → n < 2 ^ suc h → only_first S N n ≡ true → In n (map (λ s. s.from) (shifts h S N))
      listed n q e =
          let p = leaver_place n (passes_first (S n) (N n) e) (fails_second (S n) (N n) e) in
          in_cast (sym p.2) (in_map (λ (s : Shift). s.from) (shift_in_turn (level h n) p.0 (omega arith) p.1))

  -- a node of the new set is nobody's to leave
  pub goes_nowhere_in_new : (n : ℕ) → N n ≡ true → goes (shifts h S N) n ≡ n
  goes_nowhere_in_new n e = go (goes_by (shifts h S N) n)
    where
      go : Goes (shifts h S N) n → goes (shifts h S N) n ≡ n
      go (stays none same) = same
      go (moves s m f there) = absurd ((old_of_shift s m).1 (rw f e))

  -- and on a node out of the old set there is nobody
  pub goes_nowhere_out_of_old : (n : ℕ) → ¬ (S n ≡ true) → goes (shifts h S N) n ≡ n
  goes_nowhere_out_of_old n out = go (goes_by (shifts h S N) n)
    where
      go : Goes (shifts h S N) n → goes (shifts h S N) n ≡ n
      go (stays none same) = same
      go (moves s m f there) = absurd (out (rw f at (old_of_shift s m).0))

  -- who has to leave comes to a node of the same level that is in the new set and not in the old one
  pub goes_to_new : (n : ℕ) → S n ≡ true → ¬ (N n ≡ true) → OnlyIn h N S (level h n) (goes (shifts h S N) n)
  goes_to_new n held gone =
      let q : level h n ≤ h = omega arith in
      let p = leaver_place n held gone in
      let there : goes (shifts h S N) n ≡ get_or (places h S N (level h n)) p.0 0 = rw p.2 at (goes_in_turn (level h n) p.0 q p.1) in
      rw there
      (of_places h S N (level h n) q (get_or (places h S N (level h n)) p.0 0)
      (at_place 0 (places h S N (level h n)) p.0 (omega (arith, p.1, enough_places (level h n) q))))

  -- so whoever was in the old set is in the new one, on the same level
  pub goes_into_new : (n : ℕ) → S n ≡ true → N (goes (shifts h S N) n) ≡ true
  goes_into_new n held = by_new (N n) refl
    where
      by_new : (b : Bool) → N n ≡ b → N (goes (shifts h S N) n) ≡ true
      by_new true e = rw (goes_nowhere_in_new n e) e
      by_new false e = (goes_to_new n held (λ t. false≢true (sym e ∙ t))).held

  pub goes_level : (n : ℕ) → S n ≡ true → level h (goes (shifts h S N) n) ≡ level h n
  goes_level n held = by_new (N n) refl
    where
      by_new : (b : Bool) → N n ≡ b → level h (goes (shifts h S N) n) ≡ level h n
      by_new true e = ap (level h) (goes_nowhere_in_new n e)
      by_new false e = (goes_to_new n held (λ t. false≢true (sym e ∙ t))).of_level.level_is

  -- and no two come to one node: who stays is on a node of the old set, who moves comes to none of it, and no two shifts go to one node
  pub goes_apart : (n m : ℕ) → S n ≡ true → S m ≡ true → goes (shifts h S N) n ≡ goes (shifts h S N) m → n ≡ m
  goes_apart n m held_n held_m e = go (goes_by (shifts h S N) n) (goes_by (shifts h S N) m)
    where
      go : Goes (shifts h S N) n → Goes (shifts h S N) m → n ≡ m
      go (stays none same) (stays none' same') = sym same ∙ e ∙ same'
      go (stays none same) (moves t k g there) = absurd ((new_of_shift t k).1 (rw (sym there ∙ sym e ∙ same) held_n))
      go (moves s k f there) (stays none same) = absurd ((new_of_shift s k).1 (rw (sym there ∙ e ∙ same) held_m))
      go (moves s k f there) (moves t k' g there') =
          let same : s ≡ t = same_by_value (λ v. v.to) (shifts h S N) distinct_tos k k' (sym there ∙ e ∙ there') in
          sym f ∙ ap (λ (v : Shift). v.from) same ∙ g

  -- ---- which nodes of the new set are reached

  -- somebody comes to each place that has a leaver
  comes_to_place : (l j n : ℕ) → l ≤ h → j < length (leavers h S N l) → get_or (places h S N l) j 0 ≡ n → Reached h S N n
  comes_to_place l j n q r e =
      let m : ℕ = get_or (leavers h S N l) j 0 in
      record {
        before = m;
        held = (of_leavers h S N l q m (at_place 0 (leavers h S N l) j r)).held;
        arrives = goes_in_turn l j q r ∙ e;
      }

  -- somebody stays on a node of the new set, or it is a place; so it is left to show that a place is reached
  by_place : (l n : ℕ) → level h n ≡ l → N n ≡ true → ((j : ℕ) → j < length (places h S N l) → get_or (places h S N l) j 0 ≡ n → Reached h S N n)
      → Reached h S N n
  by_place l n at_l new to_place = by_old (S n) refl
    where
      by_old : (b : Bool) → S n ≡ b → Reached h S N n
      by_old true e = record { before = n; held = e; arrives = goes_nowhere_in_new n new }
      by_old false e =
          let v : OnlyIn h N S l n =
          record { of_level = record { in_tree = R.new n new; level_is = at_l }; held = new; not_held = λ t. false≢true (sym e ∙ t) } in
          let p = place_of 0 (in_places h S N l n v) in
          to_place p.0 p.1 p.2

  -- where a level has as many leavers as places, every node of the new set is reached
  pub goes_fills : (n : ℕ) → N n ≡ true → sizes h S (level h n) ≡ sizes h N (level h n) → Reached h S N n
  goes_fills n new equal =
      let q : level h n ≤ h = omega arith in
      by_place (level h n) n refl new λ j r e.
      comes_to_place (level h n) j n q (omega (arith, places_and_leavers h S N R.old R.new (level h n) q)) e

  -- and where it has one place more, every node but the newcomer's
  module _ (x : ℕ) (q : x ≤ h) (grown : sizes h N x ≡ suc (sizes h S x)) where
    one_place_over : length (places h S N x) ≡ suc (length (leavers h S N x))
    one_place_over = omega (arith, places_and_leavers h S N R.old R.new x q)

    pub newcomer_place : OnlyIn h N S x (newcomer h S N x)
    unfolding newcomer
    newcomer_place =
        of_places h S N x q (newcomer h S N x) (at_place 0 (places h S N x) (length (leavers h S N x)) (omega (arith, one_place_over)))

    pub goes_not_to_newcomer : (n : ℕ) → S n ≡ true → ¬ (goes (shifts h S N) n ≡ newcomer h S N x)
    unfolding newcomer
    goes_not_to_newcomer n held e = go (goes_by (shifts h S N) n)
      where
        go : Goes (shifts h S N) n → ⊥
        go (stays none same) = newcomer_place.not_held (rw (sym e ∙ same) held)
        go (moves s m f there) =
            let r = level_of_shift s m in
            let to_is : s.to ≡ newcomer h S N x = sym there ∙ e in
            let level_x : r.0 ≡ x =
            sym (enters_at r.0 r.1 s r.2).of_level.level_is ∙ ap (level h) to_is ∙ newcomer_place.of_level.level_is in
            let p = of_pair (leavers h S N x) (places h S N x) s (subst (λ l. In s (pair_at h S N l)) level_x r.2) in
            let last : p.at ≡ length (leavers h S N x) =
            distinct_places 0 (places h S N x) (no_place_twice h S N x) p.at (length (leavers h S N x)) p.in_second
            (omega (arith, one_place_over)) (sym p.to_is ∙ to_is) in
            omega (arith, p.in_first)

    pub goes_fills_but_newcomer : (n : ℕ) → N n ≡ true → level h n ≡ x → ¬ (n ≡ newcomer h S N x) → Reached h S N n
    unfolding newcomer
    goes_fills_but_newcomer n new at_x other = by_place x n at_x new to_place
      where
        to_place : (j : ℕ) → j < length (places h S N x) → get_or (places h S N x) j 0 ≡ n → Reached h S N n
        to_place j r e =
            let not_last : ¬ (j ≡ length (leavers h S N x)) = λ last. other (sym e ∙ ap (λ k. get_or (places h S N x) k 0) last) in
            comes_to_place x j n q (omega (arith, one_place_over)) e
