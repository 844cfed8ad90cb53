-- What the functions on rows answer, case by case.
use mathlib.Core.Path.{◌≡◌, refl}
use mathlib.Core.Bool.{and-false}
use mathlib.Core.List.{List, [], ◌∷◌}
use Prim.Native.Nat.{ℕ, zero, suc, ◌-◌, ◌^◌, ◌≤◌, ◌<◌}
use native.Mathlib.Omega.{arith}
use borrow.Author.Tests.{lt-ltb, le-ltb, le-leb, lt-leb}
use lib.ListN.{length, get_or}
use Rattle.tree.specs.Block.{node}
use Rattle.layout.specs.Layout.{block}
use Rattle.layout.specs.Rows.{no_index, kth_index, index_at, node_or_zero}
use Rattle.layout.specs.declared.Layout.{Layout}

-- inside a list it makes no difference what stands for an element past its end
pub get_or_inside : (xs : List ℕ) (i d e : ℕ) → i < length xs → get_or xs i d ≡ get_or xs i e
get_or_inside [] i d e h = absurd (omega arith)
get_or_inside (x ∷ xs) zero d e h = refl
get_or_inside (x ∷ xs) (suc i) d e h = get_or_inside xs i d e (omega arith)

-- Which node is the k-th?

pub index_at_level : (L : Layout) (l k : ℕ) → l < length L.lone
    → kth_index (get_or L.start l 0) (get_or L.run l 0) (get_or L.lone l 0) k ≡ index_at L l k
index_at_level L l k h = rw (get_or_inside L.lone l 0 no_index h)

pub no_node_too_high : (h l i : ℕ) → 12 < h → node_or_zero h l i ≡ 0
unfolding node_or_zero
no_node_too_high h l i q = rw (lt-leb h 12 q)

pub no_node_above_root : (h l i : ℕ) → h < l → node_or_zero h l i ≡ 0
unfolding node_or_zero
no_node_above_root h l i q = rw (lt-leb l h q, and-false)

pub no_node_past : (h l i : ℕ) → 2 ^ (h - l) ≤ i → node_or_zero h l i ≡ 0
unfolding node_or_zero
no_node_past h l i q = rw (le-ltb i (2 ^ (h - l)) q, and-false)

pub node_inside : (h l i : ℕ) → h ≤ 12 → l ≤ h → i < 2 ^ (h - l) → node_or_zero h l i ≡ node h (block l i)
unfolding node_or_zero
node_inside h l i q p r = rw (le-leb h 12 q, le-leb l h p, lt-ltb i (2 ^ (h - l)) r)
