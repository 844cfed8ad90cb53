-- Nodes that have a page in common; and that no two tenants' new nodes have one.
use mathlib.Core.Path.{◌≡◌, sym, ap, ◌∙◌}
use mathlib.Core.Bool.{true}
use mathlib.Core.List.{List}
use Prim.Native.Nat.{ℕ, ◌<◌}
use native.Mathlib.Omega.{arith}
use native.Mathlib.Decide.{dec_lt}
use borrow.Author.Tests.{ltb-true, lt-ltb}
use lib.Dec.{ltb}
use lib.Pow.{pow_pos}
use Rattle.tree.specs.Node.{level, first_page, past_page, Covers}
use Rattle.tree.specs.Block.{node, block_of, blocks_of}
use Rattle.tree.proofs.Bridge.{held_block, legal_blocks}
use Rattle.tree.proofs.Coordinates.{node_of_block}
use Rattle.tree.proofs.Sets.{both_left, both_right, set_of_blocks}
use Rattle.table.specs.Table.{node_at, occupied}
use Rattle.table.proofs.Occupied.{occupied_by}
use Rattle.table.specs.declared.Move.{Move}
use Rattle.carrying.specs.Order.{meet?}
use Rattle.carrying.proofs.Moving.{Moving}

-- a page of both a and b
pub record Common (h a b : ℕ) : Type 0 where
  pub page : ℕ
  pub of_one : Covers h a page
  pub of_other : Covers h b page

pub common_page : (h a b : ℕ) → meet? h a b ≡ true → Common h a b
unfolding meet?
common_page h a b e =
    let x = ltb-true (first_page h a) (past_page h b) (both_left (ltb (first_page h a) (past_page h b)) (ltb (first_page h b) (past_page h a)) e) in
    let y = ltb-true (first_page h b) (past_page h a) (both_right (ltb (first_page h a) (past_page h b)) (ltb (first_page h b) (past_page h a)) e) in
    elim (dec_lt (first_page h a) (first_page h b)) [
      | yes q ↦ record {
        page = first_page h b;
        of_one = record { from = omega (arith, q); below = y };
        of_other = record { from = omega arith; below = omega (arith, pow_pos (level h b)) };
      }
      | no q ↦ record {
        page = first_page h a;
        of_one = record { from = omega arith; below = omega (arith, pow_pos (level h a)) };
        of_other = record { from = omega (arith, q); below = x };
      }
    ]

pub meet_by_page : (h a b p : ℕ) → Covers h a p → Covers h b p → meet? h a b ≡ true
unfolding meet?
meet_by_page h a b p x y =
    rw (
      lt-ltb (first_page h a) (past_page h b) (omega (arith, x.from, y.below)),
      lt-ltb (first_page h b) (past_page h a) (omega (arith, y.from, x.below)),
    )

-- of two tenants' new nodes with a page in common the tenant is one
pub new_apart : {h t : ℕ} {T T' : List ℕ} {ms : List Move} → Moving h t T T' ms → (u v p : ℕ) → 0 < node_at T' u → 0 < node_at T' v
    → Covers h (node_at T' u) p → Covers h (node_at T' v) p → u ≡ v
new_apart {h} {T'} M u v p pos_u pos_v x y =
    let a = node_at T' u in
    let b = node_at T' v in
    let held_a : occupied T' a ≡ true = occupied_by T' u pos_u in
    let held_b : occupied T' b ≡ true = occupied_by T' v pos_v in
    let same = set_of_blocks h (occupied T') M.new_within in
    let one : block_of h a ≡ block_of h b =
    legal_blocks h (occupied T') (blocks_of h (occupied T')) same M.new_legal (block_of h a) (block_of h b)
    (held_block h (occupied T') (blocks_of h (occupied T')) same a held_a) (held_block h (occupied T') (blocks_of h (occupied T')) same b held_b)
    (record { a_first = omega (arith, x.from, y.below); b_first = omega (arith, y.from, x.below) }) in
    M.new_once u v pos_u (sym (node_of_block h a (M.new_within a held_a)) ∙ ap (node h) one ∙ node_of_block h b (M.new_within b held_b))
