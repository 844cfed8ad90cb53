-- The number held at a level is the same by number and by block.
use mathlib.Core.Path.{◌≡◌, sym, ap, ap₂, ◌∙◌}
use mathlib.Core.Bool.{Bool, true, ◌&&◌, and-true}
use Prim.Native.Nat.{ℕ, suc, ◌+◌, ◌-◌, ◌^◌, ◌≤◌, ◌<◌}
use native.Mathlib.Omega.{arith}
use native.Mathlib.Nat.{two-pow-succ}
use native.Mathlib.Decide.{dec_le}
use borrow.Author.Tests.{eqb-true, eq-eqb}
use lib.Dec.{eqb}
use lib.Pow.{pow_mono}
use Rattle.tree.specs.Node.{depth, level}
use Rattle.tree.specs.Held.{Nodes, one_if, sizes}
use Rattle.tree.specs.Block.{Block, past, node, Blocks, bsizes}
use Rattle.tree.specs.Pages.{sum}
use Rattle.tree.proofs.Highest.{Highest, depth_highest}
use Rattle.tree.proofs.Coordinates.{level_le, past_le, depth_le, node_level, suc_sub_le}
use Rattle.tree.proofs.Bridge.{SameSet}
use Rattle.tree.proofs.Sets.{both_left, both_right}
use Rattle.tree.proofs.Sum.{sum_cong, sum_of_zeros, sum_split, sum_stops, one_if_not_true, count_as_sum, count_of_none}
use Rattle.tree.proofs.Room.{held_at, held_in_tree}

-- no node has a level above the height
pub sizes_above : (h : ℕ) (A : Nodes) (l : ℕ) → h < l → sizes h A l ≡ 0
unfolding sizes
sizes_above h A l q = count_of_none (2 ^ suc h) _ (λ n r e. no_level n (eqb-true (level h n) l (both_right (A n) (eqb (level h n) l) e)))
  where
    no_level : (n : ℕ) → ¬ (level h n ≡ l)
    no_level n e = omega arith

module _ (h : ℕ) (A : Nodes) (B : Blocks) (S : SameSet h A B) (l : ℕ) where
  abbrev held_at_level : ℕ → Bool
  held_at_level n = A n && eqb (level h n) l

  held_level : (n : ℕ) → held_at_level n ≡ true → level h n ≡ l
  held_level n p = eqb-true (level h n) l (both_right (A n) (eqb (level h n) l) p)

  -- the nodes of level l are 2^(h−l) … 2^(h−l+1) − 1
  held_between : l ≤ h → (n : ℕ) → held_at_level n ≡ true → Highest (h - l) n
  held_between q n p =
      let t = S.nodes_within n (both_left (A n) (eqb (level h n) l) p) in
      rw (depth_of (held_level n p) (depth_le h n t)) at (depth_highest n t.above_zero)
    where
      depth_of : level h n ≡ l → depth n ≤ h → depth n ≡ h - l
      depth_of e d = omega arith

  at_index : l ≤ h → (k : ℕ) → k < 2 ^ (h - l) → one_if (held_at_level (2 ^ (h - l) + k)) ≡ held_at B l k
  at_index q k r =
      let b : Block = record { level = l; index = k } in
      let p : past b ≤ 2 ^ h = past_le h b q r in
      ap one_if (ap₂ ◌&&◌ (S.same b p) (eq-eqb (level h (node h b)) l (node_level h b p)) ∙ and-true (B b))

  sizes_in_height : l ≤ h → sizes h A l ≡ bsizes h B l
  unfolding sizes
  sizes_in_height q =
      let d : ℕ = h - l in
      let f : ℕ → ℕ = λ n. one_if (held_at_level n) in
      let below : sum (2 ^ d) f ≡ 0 = sum_of_zeros (2 ^ d) (λ n r. none n (λ e. omega (arith, (held_between q n e).low))) in
      let above : sum (2 ^ suc h) f ≡ sum (2 ^ suc d) f =
      sum_stops (2 ^ suc d) (2 ^ suc h) f (pow_mono (suc_sub_le h l)) (λ n r. none n (λ e. omega (arith, (held_between q n e).high))) in
      let split : sum (2 ^ suc d) f ≡ sum (2 ^ d) f + sum (2 ^ d) (λ k. f (2 ^ d + k)) = rw two-pow-succ (sum_split (2 ^ d) (2 ^ d) f) in
      let level_l : sum (2 ^ d) (λ k. f (2 ^ d + k)) ≡ bsizes h B l =
      sum_cong (2 ^ d) (λ k r. at_index q k r) ∙ sym (held_in_tree h B S.blocks_within l q) in
      count_as_sum (2 ^ suc h) held_at_level ∙ omega arith
    where
      none : (n : ℕ) → ¬ (held_at_level n ≡ true) → one_if (held_at_level n) ≡ 0
      none n r = one_if_not_true (held_at_level n) r

  sizes_past_height : h < l → sizes h A l ≡ bsizes h B l
  unfolding bsizes
  sizes_past_height q = sizes_above h A l q ∙ sym (count_of_none (2 ^ h) (λ k. B (record { level = l; index = k })) (λ k r e. no_block k e))
    where
      no_block : (k : ℕ) → ¬ (B (record { level = l; index = k }) ≡ true)
      no_block k e = omega (arith, level_le h (record { level = l; index = k }) (S.blocks_within (record { level = l; index = k }) e))

  pub sizes_of_blocks : sizes h A l ≡ bsizes h B l
  sizes_of_blocks = go (dec_le l h)
    where
      go : Dec (l ≤ h) → sizes h A l ≡ bsizes h B l
      go (yes q) = sizes_in_height q
      go (no q) = sizes_past_height (omega arith)
