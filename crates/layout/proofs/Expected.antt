-- The k-th node of a level in the layout of given counts, by the rows.
use mathlib.Core.Path.{◌≡◌, sym, ap, ◌∙◌}
use mathlib.Core.Bool.{and-false}
use mathlib.Core.List.{List, map}
use Prim.Native.Nat.{ℕ, ◌-◌, ◌^◌, ◌≤◌, ◌<◌}
use native.Mathlib.Decide.{dec_lt}
use native.Mathlib.Omega.{arith}
use borrow.Author.Tests.{le-leb, lt-leb}
use lib.ListN.{length, get_or, length-map, get_or-map, get_or-eq_default}
use Rattle.tree.specs.Block.{Block, past, node}
use Rattle.tree.proofs.Coordinates.{level_le, index_lt}
use Rattle.layout.specs.Layout.{block, layout, pages}
use Rattle.layout.specs.Rows.{no_index, rows_of, index_at, kth_node, at_level, expected_node}
use Rattle.layout.proofs.Within.{layout_within}
use Rattle.layout.proofs.Bounds.{power_le_4096}
use Rattle.layout.proofs.RowCases.{get_or_inside, no_node_past, node_inside}
use Rattle.layout.proofs.Rows.{row_length, row_kth, row_past, kth_in_layout}

pub none_expected_too_high : (cs : List ℕ) (h l k : ℕ) → 12 < h → expected_node cs h l k ≡ 0
unfolding expected_node
none_expected_too_high cs h l k q = rw (lt-leb h 12 q)

pub none_expected_no_room : (cs : List ℕ) (h l k : ℕ) → 2 ^ h < pages cs → expected_node cs h l k ≡ 0
unfolding expected_node
none_expected_no_room cs h l k q = rw (lt-leb (pages cs) (2 ^ h) q, and-false)

module _ (cs : List ℕ) (h l : ℕ) (low : h ≤ 12) (fits : pages cs ≤ 2 ^ h) where
  -- the k-th block lies in the tree, so it has a number there
  kth_inside : (k : ℕ) → k < get_or cs l 0 → kth_node (rows_of cs) h l k ≡ node h (block l (index_at (rows_of cs) l k))
  unfolding kth_node
  kth_inside k p =
      let b : Block = block l (index_at (rows_of cs) l k) in
      let within : past b ≤ 2 ^ h = layout_within h cs fits b (kth_in_layout cs l k p) in
      node_inside h l b.index low (level_le h b within) (index_lt h b within)

  kth_of_list : (k : ℕ) → k < get_or cs l 0 → get_or (map (node h) (at_level l (layout cs))) k 0 ≡ node h (block l (index_at (rows_of cs) l k))
  kth_of_list k p =
      let bs : List Block = at_level l (layout cs) in
      let d : Block = block l 0 in
      let inside : k < length (map (node h) bs) = rw length-map (omega (arith, row_length cs l)) in
      get_or_inside (map (node h) bs) k 0 (node h d) inside ∙ get_or-map (node h) bs k d ∙ ap (node h) (row_kth cs l k d p)

  none_past : (k : ℕ) → get_or cs l 0 ≤ k → kth_node (rows_of cs) h l k ≡ 0
  unfolding kth_node
  none_past k p = rw (row_past cs l k p) (no_node_past h l no_index (omega (arith, power_le_4096 (h - l) (omega arith))))

  none_past_list : (k : ℕ) → get_or cs l 0 ≤ k → get_or (map (node h) (at_level l (layout cs))) k 0 ≡ 0
  none_past_list k p =
      let bs : List Block = at_level l (layout cs) in
      let outside : length (map (node h) bs) ≤ k = rw length-map (omega (arith, row_length cs l)) in
      get_or-eq_default (map (node h) bs) 0 outside

  pub expected_by_rows : (k : ℕ) → kth_node (rows_of cs) h l k ≡ expected_node cs h l k
  unfolding expected_node
  expected_by_rows k = rw (le-leb h 12 low, le-leb (pages cs) (2 ^ h) fits) (go (dec_lt k (get_or cs l 0)))
    where
      go : Dec (k < get_or cs l 0) → kth_node (rows_of cs) h l k ≡ get_or (map (node h) (at_level l (layout cs))) k 0
      go (yes p) = kth_inside k p ∙ sym (kth_of_list k p)
      go (no p) = none_past k (omega arith) ∙ sym (none_past_list k (omega arith))
