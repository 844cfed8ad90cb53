-- What the owners of each level say of the table: their number is the number held, and all of them together are as many as the entries used
-- exactly when no node stands twice.
use mathlib.Core.Path.{◌≡◌, refl, sym, ap, ◌∙◌}
use mathlib.Core.Bool.{◌&&◌, and-false, and-true}
use mathlib.Core.Logic.{◌↔◌}
use mathlib.Core.List.{List, [], ◌∷◌}
use Prim.Native.Nat.{ℕ, suc, ◌+◌, ◌-◌, ◌^◌, ◌≤◌, ◌<◌}
use native.Mathlib.Nat.{zero-add}
use native.Mathlib.Omega.{arith}
use native.Mathlib.Decide.{dec_le, dec_lt}
use borrow.Author.Tests.{le-leb, lt-leb, eq-eqb, ne_eqb}
use lib.Dec.{ltb, eqb}
use lib.ListN.{length, get_or, set, replicate, length-set, length-replicate, get_or-eq_default}
use lib.Pow.{pow_pos, pow_mono}
use Rattle.tree.specs.Node.{level}
use Rattle.tree.specs.Held.{Nodes, Within, one_if, count, sizes}
use Rattle.tree.specs.Block.{Block, blocks_of}
use Rattle.tree.specs.Pages.{sum}
use Rattle.tree.proofs.Coordinates.{past_le}
use Rattle.tree.proofs.Bridge.{SameSet}
use Rattle.tree.proofs.Sets.{set_of_blocks}
use Rattle.tree.proofs.Room.{held_in_tree}
use Rattle.tree.proofs.Sizes.{sizes_of_blocks, sizes_above}
use Rattle.tree.proofs.Sum.{sum_cong, sum_swap, sum_stops, count_as_sum}
use Rattle.table.specs.Table.{node_of, node_at, occupied, tabulate}
use Rattle.table.specs.Owners.{owners_from, owners_of, used_in, level_count, count_up_to, level_counts}
use Rattle.table.proofs.Used.{tally_part}
use Rattle.table.proofs.Tabulate.{tabulate_cong, get_d_tabulate}
use Rattle.table.proofs.Occupied.{occupied_within}
use Rattle.table.proofs.Tally.{Once}
use Rattle.table.proofs.Once.{sum_of_one, held_le_used, used_of_once, once_of_used}
use Rattle.table.proofs.Owners.{owned_is_occupied}

-- ---- the numbers held

-- the nodes of level l are 2^(h−l) … 2^(h−l+1) − 1
sizes_by_index : (h : ℕ) (A : Nodes) → Within h A → (l : ℕ) → l ≤ h → sizes h A l ≡ sum (2 ^ (h - l)) (λ k. one_if (A (2 ^ (h - l) + k)))
sizes_by_index h A w l q =
    let S : SameSet h A (blocks_of h A) = set_of_blocks h A w in
    sizes_of_blocks h A (blocks_of h A) S l
    ∙ held_in_tree h (blocks_of h A) S.blocks_within l q
    ∙ sum_cong (2 ^ (h - l)) (λ k r. let b : Block = record { level = l; index = k } in ap one_if (sym (S.same b (past_le h b q r))))

-- each held node has one level
sizes_together : (h : ℕ) (A : Nodes) → sum (suc h) (sizes h A) ≡ count (2 ^ suc h) A
unfolding sizes
sizes_together h A =
    sum_cong (suc h) (λ l q. count_as_sum (2 ^ suc h) (λ n. A n && eqb (level h n) l))
    ∙ sum_swap (suc h) (2 ^ suc h) (λ l n. one_if (A n && eqb (level h n) l))
    ∙ sum_cong (2 ^ suc h) (λ n q. one_level n)
    ∙ sym (count_as_sum (2 ^ suc h) A)
  where
    at_level : ℕ → ℕ → ℕ
    at_level n l = one_if (A n && eqb (level h n) l)

    other_level : (n l : ℕ) → ¬ (l ≡ level h n) → at_level n l ≡ 0
    other_level n l d = rw (ne_eqb (level h n) l (λ e. d (sym e)), and-false (A n))

    one_level : (n : ℕ) → sum (suc h) (at_level n) ≡ one_if (A n)
    one_level n =
        sum_of_one (suc h) (level h n) (at_level n) (omega arith) (other_level n) ∙ rw (eq-eqb (level h n) (level h n) refl, and-true (A n))

-- ---- the list of thirteen

pub level_counts_at : (h : ℕ) (o : List ℕ) (l : ℕ) → h ≤ 12 → l ≤ h → get_or (level_counts h o) l 0 ≡ level_count h o l
unfolding level_counts
level_counts_at h o l p q = get_d_tabulate 0 13 (count_up_to h o) l (omega arith) ∙ rw (zero-add l, le-leb l h q)

pub level_counts_above : (h : ℕ) (o : List ℕ) (l : ℕ) → h < l → get_or (level_counts h o) l 0 ≡ 0
unfolding level_counts
level_counts_above h o l p =
    elim (dec_lt l 13) [
      | yes q ↦ get_d_tabulate 0 13 (count_up_to h o) l q ∙ rw (zero-add l, lt-leb l h p)
      | no q ↦ get_or-eq_default (level_counts h o) 0 {n = l} (omega arith)
    ]

pub level_counts_together : (h : ℕ) (o : List ℕ) → h ≤ 12 → sum 13 (λ l. get_or (level_counts h o) l 0) ≡ sum (suc h) (level_count h o)
level_counts_together h o p =
    sum_stops (suc h) 13 (λ l. get_or (level_counts h o) l 0) (omega arith) (λ l q. level_counts_above h o l q)
    ∙ sum_cong (suc h) (λ l q. level_counts_at h o l p (omega arith))

-- ---- the owners of a table with all its nodes in a tree of height h

pub length_owners : (o : List ℕ) (i : ℕ) (T : List ℕ) → length (owners_from o i T) ≡ length o
unfolding owners_from
length_owners o i [] = refl
length_owners o i (x ∷ T) = length_owners (set o (node_of x) (suc i)) (suc i) T ∙ length-set o (node_of x) (suc i)

-- a tree of height 12 has its nodes below 8,192
pub tree_below_8192 : (h : ℕ) → h ≤ 12 → 2 ^ suc h ≤ 8192
tree_below_8192 h q = pow_mono {i = suc h} {j = 13} (omega arith)

module _ (h m : ℕ) (T : List ℕ) (fits : 2 ^ suc h ≤ m) (in_tree : (t : ℕ) → node_at T t < 2 ^ suc h) where
  pub level_count_is_size : (l : ℕ) → l ≤ h → level_count h (owners_of m T) l ≡ sizes h (occupied T) l
  unfolding level_count
  level_count_is_size l q =
      let w : ℕ = 2 ^ (h - l) in
      let in_owners : w + w ≤ m = omega (arith, pow_mono {i = suc (h - l)} {j = suc h} (omega arith)) in
      let length_is : length (owners_of m T) ≡ m = length_owners (replicate m 0) 0 T ∙ length-replicate {A = ℕ} m 0 in
      tally_part (λ n. ltb 0 n) w w (owners_of m T) (omega arith)
      ∙ sum_cong w (λ k r. ap one_if (owned_is_occupied m T (w + k) (omega (arith, pow_pos (h - l))) (omega arith)))
      ∙ sym (sizes_by_index h (occupied T) (occupied_within h T in_tree) l q)

  -- and above the height there are none
  pub level_counts_are_sizes : level_counts h (owners_of m T) ≡ tabulate 0 13 (sizes h (occupied T))
  unfolding level_counts
  level_counts_are_sizes = tabulate_cong 0 13 (λ l q r. at_level l (dec_le l h))
    where
      at_level : (l : ℕ) → Dec (l ≤ h) → count_up_to h (owners_of m T) l ≡ sizes h (occupied T) l
      at_level l (yes q) = rw (le-leb l h q) (level_count_is_size l q)
      at_level l (no q) = rw (lt-leb l h (omega arith)) (sym (sizes_above h (occupied T) l (omega arith)))

  -- all levels together
  pub levels_are_held : sum (suc h) (level_count h (owners_of m T)) ≡ count (2 ^ suc h) (occupied T)
  levels_are_held = sum_cong (suc h) (λ l q. level_count_is_size l (omega arith)) ∙ sizes_together h (occupied T)

  pub levels_le_used : sum (suc h) (level_count h (owners_of m T)) ≤ used_in T
  levels_le_used = omega (arith, levels_are_held, held_le_used (2 ^ suc h) T in_tree)

  pub once_iff_levels_are_used : (sum (suc h) (level_count h (owners_of m T)) ≡ used_in T) ↔ Once T
  once_iff_levels_are_used =
      (λ e. once_of_used (2 ^ suc h) T in_tree (sym e ∙ levels_are_held), λ once. levels_are_held ∙ sym (used_of_once (2 ^ suc h) T in_tree once))
