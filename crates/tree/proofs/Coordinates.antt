-- A node by number and the same node by level and index: depth, level and pages agree, and so do "under" and "left of".
use mathlib.Core.Path.{◌≡◌, ap₂, ◌∙◌}
use Prim.Native.Nat.{ℕ, suc, ◌+◌, ◌-◌, ◌*◌, ◌^◌, ◌≤◌, ◌<◌}
use native.Mathlib.Omega.{arith}
use native.Mathlib.Nat.{mul-le-mul_right, le_of_mul-le-mul_right}
use native.Mathlib.Nat.{sub-add_cancel, pow-suc, lt_of_not-le}
use lib.Pow.{pow-add, pow_pos, pow_mono, pow-lt}
use Rattle.tree.specs.Node.{InTree, depth, level, first_page, past_page}
use Rattle.tree.specs.Block.{Block, first, past, node, block_of}
use Rattle.tree.proofs.Highest.{Highest, depth_highest, depth_is}

-- a block whose pages lie in the tree: its level is at most the height, and its index is below the level's number of nodes
pub level_le : (h : ℕ) (b : Block) → past b ≤ 2 ^ h → b.level ≤ h
level_le h b p = go (λ (q : h < b.level). omega (arith, pow-lt q, p, mul-le-mul_right (2 ^ b.level) (le1 b.index)))
  where
    le1 : (i : ℕ) → 1 ≤ suc i
    le1 i = omega arith

    go : ¬ (h < b.level) → b.level ≤ h
    go f = omega (arith, lt_of_not-le f)

pub index_lt : (h : ℕ) (b : Block) → past b ≤ 2 ^ h → b.index < 2 ^ (h - b.level)
index_lt h b p =
    le_of_mul-le-mul_right
    (rw (← pow-add, sub-add_cancel (level_le h b p)) p)
    (pow_pos b.level)

pub past_le : (h : ℕ) (b : Block) → b.level ≤ h → b.index < 2 ^ (h - b.level) → past b ≤ 2 ^ h
past_le h b p q = rw (← pow-add, sub-add_cancel p) at (mul-le-mul_right (2 ^ b.level) q)

pub node_highest : (h : ℕ) (b : Block) → past b ≤ 2 ^ h → Highest (h - b.level) (node h b)
node_highest h b p =
    record {
      low = omega arith;
      high = omega (arith, index_lt h b p, pow-suc 2 (h - b.level));
    }

pub node_depth : (h : ℕ) (b : Block) → past b ≤ 2 ^ h → depth (node h b) ≡ h - b.level
node_depth h b p = depth_is (h - b.level) (node h b) (node_highest h b p)

pub node_level : (h : ℕ) (b : Block) → past b ≤ 2 ^ h → level h (node h b) ≡ b.level
node_level h b p = rw (node_depth h b p) (omega (arith, level_le h b p))

pub suc_sub_le : (x y : ℕ) → suc (x - y) ≤ suc x
suc_sub_le x y = omega arith

pub node_in_tree : (h : ℕ) (b : Block) → past b ≤ 2 ^ h → InTree h (node h b)
node_in_tree h b p =
    record {
      above_zero = omega (arith, pow_pos (h - b.level));
      in_height = omega (arith, (node_highest h b p).high, pow_mono (suc_sub_le h b.level));
    }

pub node_index : (h : ℕ) (b : Block) → past b ≤ 2 ^ h → node h b - 2 ^ depth (node h b) ≡ b.index
node_index h b p = rw (node_depth h b p) (omega arith)

pub node_first : (h : ℕ) (b : Block) → past b ≤ 2 ^ h → first_page h (node h b) ≡ first b
node_first h b p = ap₂ (λ (i l : ℕ). i * 2 ^ l) (node_index h b p) (node_level h b p)

pub node_past : (h : ℕ) (b : Block) → past b ≤ 2 ^ h → past_page h (node h b) ≡ past b
node_past h b p = ap₂ (λ (f l : ℕ). f + 2 ^ l) (node_first h b p) (node_level h b p) ∙ omega arith

-- the other way: each node of the tree is the node of its block
pub depth_le : (h n : ℕ) → InTree h n → depth n ≤ h
depth_le h n t = go (λ (q : h < depth n). omega (arith, pow_mono q, (depth_highest n t.above_zero).low, t.in_height))
  where
    go : ¬ (h < depth n) → depth n ≤ h
    go f = omega (arith, lt_of_not-le f)

pub block_in_tree : (h n : ℕ) → InTree h n → past (block_of h n) ≤ 2 ^ h
block_in_tree h n t =
    past_le h (block_of h n) (omega arith) (rw e (omega (arith, (depth_highest n t.above_zero).high, pow-suc 2 (depth n), pow_pos (depth n))))
  where
    e : h - (h - depth n) ≡ depth n
    e = omega (arith, depth_le h n t)

pub node_of_block : (h n : ℕ) → InTree h n → node h (block_of h n) ≡ n
node_of_block h n t = rw e (omega (arith, (depth_highest n t.above_zero).low))
  where
    e : h - (h - depth n) ≡ depth n
    e = omega (arith, depth_le h n t)

pub block_of_node : (h : ℕ) (b : Block) → past b ≤ 2 ^ h → block_of h (node h b) ≡ b
block_of_node h b p = λ i. record { level = node_level h b p i; index = node_index h b p i }
