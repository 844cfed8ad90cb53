-- The layout of any counts is safe.
use mathlib.Core.Path.{◌≡◌}
use mathlib.Core.Bool.{true}
use mathlib.Core.List.{List}
use Prim.Native.Nat.{ℕ, ◌≤◌, ◌<◌}
use native.Mathlib.Nat.{le_of_mul-le-mul_right}
use lib.Pow.{pow_pos}
use Rattle.tree.specs.Block.{Block, first, past, BSafe}
use Rattle.layout.specs.Layout.{layout, among}
use Rattle.layout.proofs.Order.{layout_legal}
use Rattle.layout.proofs.Solid.{Solid, solid_not_free, solid_not_meager}
use Rattle.layout.proofs.Filled.{layout_backed}
use Rattle.layout.proofs.Tails.{layout_one_tail}

left_index : (u v : Block) → u.level ≡ v.level → past u ≤ first v → u.index < v.index
left_index u v e h = le_of_mul-le-mul_right (rw e at h) (pow_pos v.level)

-- left of a block of the layout, on its level, all is solid
left_solid : (cs : List ℕ) (u v : Block) → among (layout cs) v ≡ true → u.level ≡ v.level → past u ≤ first v
    → Solid (among (layout cs)) u.level u.index
left_solid cs u v h e p = rw e (layout_backed cs v h u.index (left_index u v e p))

pub layout_safe : (cs : List ℕ) → BSafe (among (layout cs))
layout_safe cs = record {
  dense = λ u v free h e p. solid_not_free (among (layout cs)) u (left_solid cs u v h e p) free;
  one_tail = layout_one_tail cs;
  no_meager = λ u x h e meager p. solid_not_meager (among (layout cs)) x (layout_legal cs) (left_solid cs x u h e p) meager;
}
