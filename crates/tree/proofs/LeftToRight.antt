-- On one level the nodes stand left to right by number.
use mathlib.Core.Path.{◌≡◌, ap}
use Prim.Native.Nat.{ℕ, suc, ◌+◌, ◌-◌, ◌*◌, ◌^◌, ◌≤◌, ◌<◌}
use native.Mathlib.Omega.{arith}
use native.Mathlib.Nat.{mul-le-mul_right, le_of_mul-le-mul_right}
use lib.Pow.{pow_pos}
use Rattle.tree.specs.Node.{InTree, depth, level, LeftOf}
use Rattle.tree.specs.Block.{first, past, block_of}
use Rattle.tree.proofs.Highest.{depth_highest}
use Rattle.tree.proofs.Coordinates.{depth_le, block_in_tree, node_of_block}
use Rattle.tree.proofs.Under.{pages_left_of}

module _ (h u v : ℕ) (tu : InTree h u) (tv : InTree h v) (same : level h u ≡ level h v) where
  same_depth : depth u ≡ depth v
  same_depth = omega (arith, depth_le h u tu, depth_le h v tv, same)

  pub less_of_left_of : LeftOf h u v → u < v
  less_of_left_of l =
      let before : (u - 2 ^ depth u) * 2 ^ level h v + 2 ^ level h v ≤ (v - 2 ^ depth v) * 2 ^ level h v = rw same at l.pages_first in
      let index : suc (u - 2 ^ depth u) ≤ v - 2 ^ depth v = le_of_mul-le-mul_right (omega (arith, before)) (pow_pos (level h v)) in
      omega (arith, index, ap (λ d. 2 ^ d) same_depth)

  pub left_of_less : u < v → LeftOf h u v
  left_of_less less =
      rw (node_of_block h u tu, node_of_block h v tv) at
      (pages_left_of h (block_of h u) (block_of h v) (block_in_tree h u tu) (block_in_tree h v tv) ordered)
    where
      ordered : past (block_of h u) ≤ first (block_of h v)
      ordered =
          rw same
          (mul-le-mul_right (2 ^ level h v)
          (omega (arith, less, (depth_highest u tu.above_zero).low, ap (λ d. 2 ^ d) same_depth)))
