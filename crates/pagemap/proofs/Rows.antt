-- The pages that the rows of a layout cover, level by level; and of a table in order, the rows of its counts cover the held pages.
use mathlib.Core.Path.{◌≡◌, sym, ap, ◌∙◌}
use mathlib.Core.Bool.{Bool, true, false, ◌||◌, or-false}
use mathlib.Core.List.{List}
use Prim.Native.Nat.{ℕ, zero, suc, ◌*◌, ◌/◌, ◌%◌, ◌^◌, ◌≤◌, ◌<◌}
use native.Mathlib.Decide.{dec_le}
use native.Mathlib.Omega.{arith}
use borrow.Author.Tests.{leb-true, le-leb, lt-leb}
use lib.Dec.{leb}
use lib.ListN.{length, get_or}
use lib.Pow.{pow_pos, shr_le, shl_exact}
use Rattle.tree.specs.Held.{one_if}
use Rattle.tree.specs.Block.{Block, past, node, Blocks, blocks_of, BWithin}
use Rattle.tree.specs.Pages.{over, coveredb}
use Rattle.tree.proofs.Coordinates.{level_le}
use Rattle.tree.proofs.Sets.{both_left, set_of_nodes}
use Rattle.tree.proofs.Count.{equal_of_both_ways}
use Rattle.layout.specs.Layout.{layout, among}
use Rattle.layout.specs.Rows.{no_index, rows_of, rows_hold}
use Rattle.layout.specs.declared.Layout.{Layout}
use Rattle.layout.proofs.Within.{layout_within}
use Rattle.layout.proofs.Sizes.{false_unless_true}
use Rattle.layout.proofs.Rows.{row_holds}
use Rattle.layout.proofs.RowCases.{get_or_inside}
use Rattle.table.specs.Table.{occupied, InOrder, counts_of}
use Rattle.table.proofs.Order.{in_order_fits, in_order_is_layout}
use Rattle.pagemap.specs.Map.{covered, bytes_of, page_map}
use Rattle.pagemap.specs.Flags.{flags, row_filled}
use Rattle.pagemap.proofs.Flags.{row_filled_flags}
use Rattle.pagemap.proofs.Bits.{bytes_cong}
use Rattle.pagemap.proofs.Covered.{covered_by_level, level_that_covers}

-- some level below n holds the block that has page p
abbrev pub covered_below : ℕ → Blocks → ℕ → Bool
covered_below zero B p = false
covered_below (suc n) B p = B (over p n) || covered_below n B p

pub covered_below_all : (h : ℕ) (B : Blocks) (p : ℕ) → covered_below (suc h) B p ≡ coveredb h B p
unfolding coveredb
covered_below_all zero B p = or-false (B (over p 0))
covered_below_all (suc h) B p = ap (λ (b : Bool). B (over p (suc h)) || b) (covered_below_all h B p)

-- with the row of level l set, the levels below l + 1 are
pub next_row : (n : ℕ) (L : Layout) (l : ℕ) → l < length L.lone
    → row_filled (2 ^ l) (get_or L.start l 0) (get_or L.run l 0) (get_or L.lone l 0) (flags n (covered_below l (rows_hold L)))
    ≡ flags n (covered_below (suc l) (rows_hold L))
next_row n L l q =
    rw (get_or_inside L.lone l 0 no_index q)
    (row_filled_flags n (2 ^ l) (get_or L.start l 0) (get_or L.run l 0) (get_or L.lone l no_index) (covered_below l (rows_hold L)) (pow_pos l))

-- the size of the blocks of level l, shifted in a number of 64 bits
pub shifted : (l : ℕ) → l ≤ 12 → 1 * 2 ^ l % 18446744073709551616 ≡ 2 ^ l
shifted l q = shl_exact {a = 1} 1 l 64 (omega arith) (omega arith) ∙ omega arith

-- ---- a table in order

-- the layout of the table's counts, as a set of blocks, is the set of the table's blocks
layout_is_held : (h : ℕ) (T : List ℕ) → h ≤ 12 → InOrder h T → (b : Block)
    → among (layout (counts_of h T)) b ≡ blocks_of h (occupied T) b
layout_is_held h T low o b =
    elim (dec_le (past b) (2 ^ h)) [
      | yes q ↦ rw (le-leb (past b) (2 ^ h) q) (sym (in_order_is_layout h T low o (node h b) ∙ (set_of_nodes h B within).same b q))
      | no q ↦ rw (lt-leb (past b) (2 ^ h) (omega arith)) (false_unless_true (B b) (λ e. q (within b e)))
    ]
  where
    B : Blocks
    B = among (layout (counts_of h T))

    within : BWithin h B
    within = layout_within h (counts_of h T) (in_order_fits h T low o)

module _ (h : ℕ) (T : List ℕ) (low : h ≤ 12) (o : InOrder h T) (p : ℕ) (inside : p < 4096) where
  abbrev rows : Blocks
  rows = rows_hold (rows_of (counts_of h T))

  abbrev held : Blocks
  held = blocks_of h (occupied T)

  rows_over : (l : ℕ) → rows (over p l) ≡ held (over p l)
  rows_over l = row_holds (counts_of h T) l (p / 2 ^ l) (omega (arith, shr_le p l)) ∙ layout_is_held h T low o (over p l)

  -- the held levels are at most h
  held_level : (l : ℕ) → held (over p l) ≡ true → l ≤ h
  held_level l e = level_le h (over p l) (leb-true _ _ (both_left (leb (past (over p l)) (2 ^ h)) (occupied T (node h (over p l))) e))

  -- the rows of the table's counts cover the pages that the table's blocks cover
  pub rows_cover : coveredb 12 rows p ≡ covered h T p
  unfolding covered
  rows_cover =
      equal_of_both_ways (coveredb 12 rows p) (coveredb h held p)
      (λ e. by_row (level_that_covers 12 rows p e)) (λ e. by_held (level_that_covers h held p e))
    where
      by_row : (l : ℕ) × (l ≤ 12) × (rows (over p l) ≡ true) → coveredb h held p ≡ true
      by_row (l, q, e) = let there = sym (rows_over l) ∙ e in covered_by_level h held p l (held_level l there) there

      by_held : (l : ℕ) × (l ≤ h) × (held (over p l) ≡ true) → coveredb 12 rows p ≡ true
      by_held (l, q, e) = covered_by_level 12 rows p l (omega arith) (rows_over l ∙ e)

-- so their map is the table's
pub map_of_rows : (h : ℕ) (T : List ℕ) → h ≤ 12 → InOrder h T
    → bytes_of 512 (λ p. one_if (coveredb 12 (rows_hold (rows_of (counts_of h T))) p)) ≡ page_map h T
unfolding page_map
map_of_rows h T low o = bytes_cong 512 _ _ (λ p q. ap one_if (rows_cover h T low o p (omega arith)))
