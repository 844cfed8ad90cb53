-- Any set of nodes of the tree is a set of blocks, and the other way round.
use mathlib.Core.Path.{◌≡◌, refl, sym}
use mathlib.Core.Bool.{Bool, true, false, ◌&&◌}
use Prim.Native.Nat.{ℕ, suc, ◌^◌}
use borrow.Author.Tests.{ltb-true, lt-ltb, leb-true, le-leb}
use lib.Dec.{ltb, leb}
use Rattle.tree.specs.Held.{Nodes, Within}
use Rattle.tree.specs.Block.{past, node, block_of, Blocks, BWithin, blocks_of, nodes_of}
use Rattle.tree.proofs.Coordinates.{node_in_tree, block_of_node}
use Rattle.tree.proofs.Bridge.{SameSet}

pub both_left : (a b : Bool) → (a && b) ≡ true → a ≡ true
both_left true b p = refl
both_left false b p = p

pub both_right : (a b : Bool) → (a && b) ≡ true → b ≡ true
both_right true b p = p
both_right false b p = absurd (let z : ◌≡◌ {A = ℕ} 0 1 = cc in native.Mathlib.Nat.suc-ne-zero 0 (sym z))

pub set_of_blocks : (h : ℕ) (A : Nodes) → Within h A → SameSet h A (blocks_of h A)
set_of_blocks h A w =
    record {
      nodes_within = w;
      blocks_within = λ b p. leb-true (past b) (2 ^ h) (both_left (leb (past b) (2 ^ h)) (A (node h b)) p);
      same = λ b p. rw (le-leb (past b) (2 ^ h) p);
    }

pub nodes_of_in_tree : (h : ℕ) (B : Blocks) → Within h (nodes_of h B)
nodes_of_in_tree h B n p =
    let t = both_left (ltb 0 n && ltb n (2 ^ suc h)) (B (block_of h n)) p in
    record {
      above_zero = ltb-true 0 n (both_left (ltb 0 n) (ltb n (2 ^ suc h)) t);
      in_height = ltb-true n (2 ^ suc h) (both_right (ltb 0 n) (ltb n (2 ^ suc h)) t);
    }

pub set_of_nodes : (h : ℕ) (B : Blocks) → BWithin h B → SameSet h (nodes_of h B) B
set_of_nodes h B w =
    record {
      nodes_within = nodes_of_in_tree h B;
      blocks_within = w;
      same = λ b p.
          let t = node_in_tree h b p in
          rw (lt-ltb 0 (node h b) t.above_zero, lt-ltb (node h b) (2 ^ suc h) t.in_height, block_of_node h b p);
    }
