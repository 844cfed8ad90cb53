-- A page is covered exactly if a held node of the tree covers it.
use mathlib.Core.Path.{◌≡◌, refl, ap, ◌∙◌}
use mathlib.Core.Bool.{Bool, true, false, ◌||◌, or-true}
use mathlib.Core.Logic.{◌↔◌}
use mathlib.Core.List.{List}
use Prim.Native.Nat.{ℕ, zero, suc, ◌/◌, ◌^◌, ◌≤◌, ◌<◌}
use native.Mathlib.Nat.{div-eq_of_lt-le}
use native.Mathlib.Decide.{ℕ_discrete}
use native.Mathlib.Omega.{arith}
use borrow.Author.Tests.{leb-true, le-leb}
use lib.Dec.{leb}
use Rattle.tree.specs.Node.{Covers, level}
use Rattle.tree.specs.Block.{Block, past, node, block_of, Blocks, blocks_of}
use Rattle.tree.specs.Pages.{over, coveredb}
use Rattle.tree.proofs.Coordinates.{node_in_tree, node_first, node_past, node_of_block, block_in_tree}
use Rattle.tree.proofs.Sets.{both_left, both_right}
use Rattle.tree.proofs.Room.{over_has_page}
use Rattle.table.specs.Table.{occupied}
use Rattle.pagemap.specs.Map.{covered, HeldOver}

-- ---- by levels

pub covered_by_level : (h : ℕ) (B : Blocks) (p l : ℕ) → l ≤ h → B (over p l) ≡ true → coveredb h B p ≡ true
unfolding coveredb
covered_by_level zero B p l q e = let lowest : 0 ≡ l = omega arith in ap (λ (m : ℕ). B (over p m)) lowest ∙ e
covered_by_level (suc h) B p l q e =
    elim (ℕ_discrete (suc h) l) [
      | yes s ↦ ap (λ (b : Bool). b || coveredb h B p) (ap (λ (m : ℕ). B (over p m)) s ∙ e)
      | no d ↦ ap (λ (b : Bool). B (over p (suc h)) || b) (covered_by_level h B p l (omega arith) e) ∙ or-true (B (over p (suc h)))
    ]

pub level_that_covers : (h : ℕ) (B : Blocks) (p : ℕ) → coveredb h B p ≡ true → (l : ℕ) × (l ≤ h) × (B (over p l) ≡ true)
unfolding coveredb
level_that_covers zero B p e = (0, omega arith, e)
level_that_covers (suc h) B p e = go (B (over p (suc h))) refl (level_that_covers h B p) e
  where
    go : (b : Bool) → B (over p (suc h)) ≡ b → (coveredb h B p ≡ true → (l : ℕ) × (l ≤ h) × (B (over p l) ≡ true))
        → (b || coveredb h B p) ≡ true → (l : ℕ) × (l ≤ suc h) × (B (over p l) ≡ true)
    go true v below e = (suc h, omega arith, v)
    go false v below e = let r = below e in (r.0, omega arith, r.2)

-- ---- by nodes

-- the block of a node that covers p is the one of its level that has p
block_over : (h n p : ℕ) → Covers h n p → over p (level h n) ≡ block_of h n
block_over h n p c = λ i. record { level = level h n; index = index i }
  where
    index : p / 2 ^ level h n ≡ (block_of h n).index
    index = div-eq_of_lt-le (2 ^ level h n) (omega (arith, c.from)) (omega (arith, c.below))

module _ (h : ℕ) (T : List ℕ) (p : ℕ) where
  node_of_covered : covered h T p ≡ true → HeldOver h T p
  unfolding covered
  node_of_covered e =
      let found = level_that_covers h (blocks_of h (occupied T)) p e in
      let b : Block = over p found.0 in
      let inside : past b ≤ 2 ^ h = leb-true (past b) (2 ^ h) (both_left (leb (past b) (2 ^ h)) (occupied T (node h b)) found.2) in
      record {
        node = node h b;
        in_tree = node_in_tree h b inside;
        held = both_right (leb (past b) (2 ^ h)) (occupied T (node h b)) found.2;
        covers = omega (arith, over_has_page p found.0, node_first h b inside, node_past h b inside);
      }

  covered_of_node : HeldOver h T p → covered h T p ≡ true
  unfolding covered
  covered_of_node o =
      let n = o.node in
      let inside = block_in_tree h n o.in_tree in
      covered_by_level h (blocks_of h (occupied T)) p (level h n) (omega arith)
      (ap (blocks_of h (occupied T)) (block_over h n p o.covers)
      ∙ rw (le-leb (past (block_of h n)) (2 ^ h) inside, node_of_block h n o.in_tree) o.held)

  pub covered_iff : (covered h T p ≡ true) ↔ HeldOver h T p
  covered_iff = (node_of_covered, covered_of_node)

  -- so no page past the reserve is
  pub covered_in_reserve : covered h T p ≡ true → p < 2 ^ h
  covered_in_reserve e =
      let o = node_of_covered e in
      omega (arith, block_in_tree h o.node o.in_tree, o.covers.below)
