-- The bounds on what changes between two layouts, for sets of nodes: at most three nodes leave with one more block, at most four with one fewer,
-- and so at most seven with one fewer and one more.
use mathlib.Core.Path.{◌≡◌, refl, sym, ap, ap₂, ◌∙◌}
use mathlib.Core.Bool.{Bool, true, false, not, ◌&&◌, false≢true, ◌||◌}
use mathlib.Core.List.{List, [], ◌∷◌}
use Prim.Native.Nat.{ℕ, zero, suc, ◌+◌, ◌^◌, ◌≤◌, ◌<◌}
use native.Mathlib.Omega.{arith}
use borrow.Author.Tests.{eqb-true, eq-eqb}
use lib.Dec.{eqb, ltb}
use lib.ListN.{length}
use Rattle.tree.specs.Node.{InTree}
use Rattle.tree.specs.Held.{Nodes, count, one_if}
use Rattle.tree.specs.Block.{Block, Blocks, block_of, node, nodes_of}
use Rattle.tree.proofs.Coordinates.{node_of_block}
use Rattle.tree.proofs.Sets.{both_left, both_right, nodes_of_in_tree}
use Rattle.tree.proofs.Count.{passes_first, fails_second, passes_only_first}
use Rattle.tree.proofs.Sum.{count_le_one, count_of_none}
use Rattle.layout.specs.Layout.{layout, among, same_block}
use Rattle.layout.specs.Change.{one_block_more, missing, most_by_grant, most_by_release, most_by_growth}
use Rattle.layout.specs.Set.{layout_set}
use Rattle.layout.specs.Leaving.{leaving}
use Rattle.layout.proofs.Members.{same_block_eq}
use Rattle.layout.proofs.Moves.{grant_moves_at_most_3, release_moves_at_most_4}

either_left : (a b : Bool) → a ≡ true → (a || b) ≡ true
either_left true b p = refl
either_left false b p = absurd (false≢true p)

either_right : (a b : Bool) → b ≡ true → (a || b) ≡ true
either_right true b p = refl
either_right false b p = p

pub count_mono : (n : ℕ) (p q : ℕ → Bool) → ((k : ℕ) → p k ≡ true → q k ≡ true) → count n p ≤ count n q
unfolding count
count_mono zero p q f = omega arith
count_mono (suc n) p q f = omega (arith, one_if_mono (p n) (q n) (f n), count_mono n p q f)
  where
    one_if_mono : (a b : Bool) → (a ≡ true → b ≡ true) → one_if a ≤ one_if b
    one_if_mono true b g = rw (g refl) (omega arith)
    one_if_mono false b g = omega arith

count_either : (n : ℕ) (p q : ℕ → Bool) → count n (λ k. p k || q k) ≤ count n p + count n q
unfolding count
count_either zero p q = omega arith
count_either (suc n) p q = omega (arith, one_if_either (p n) (q n), count_either n p q)
  where
    one_if_either : (a b : Bool) → one_if (a || b) ≤ one_if a + one_if b
    one_if_either true b = omega arith
    one_if_either false b = omega arith

-- the nodes of the tree whose block is in the list, and not in B
abbrev lost : ℕ → List Block → Blocks → ℕ → Bool
lost h xs B n = nodes_of h (among xs) n && not (nodes_of h B n)

record Lost (h : ℕ) (xs : List Block) (B : Blocks) (n : ℕ) : Type 0 where
  in_tree : InTree h n
  listed : among xs (block_of h n) ≡ true
  not_held : ¬ (B (block_of h n) ≡ true)

lost_is : (h : ℕ) (xs : List Block) (B : Blocks) (n : ℕ) → lost h xs B n ≡ true → Lost h xs B n
lost_is h xs B n e =
    let p : nodes_of h (among xs) n ≡ true = passes_first (nodes_of h (among xs) n) (nodes_of h B n) e in
    let tree = (ltb 0 n && ltb n (2 ^ suc h)) in
    record {
      in_tree = nodes_of_in_tree h (among xs) n p;
      listed = both_right tree (among xs (block_of h n)) p;
      not_held = λ q. fails_second (nodes_of h (among xs) n) (nodes_of h B n) e (ap₂ ◌&&◌ (both_left tree (among xs (block_of h n)) p) q);
    }

-- the node of x, where B does not hold x: at most one number
abbrev lost_at : ℕ → Block → Blocks → ℕ → Bool
lost_at h x B n = eqb (node h x) n && not (B x)

count_lost_at : (h : ℕ) (x : Block) (B : Blocks) → count (2 ^ suc h) (lost_at h x B) ≤ one_if (not (B x))
count_lost_at h x B = go (B x) refl
  where
    at_node : (n : ℕ) → lost_at h x B n ≡ true → node h x ≡ n
    at_node n e = eqb-true (node h x) n (passes_first (eqb (node h x) n) (B x) e)

    go : (t : Bool) → B x ≡ t → count (2 ^ suc h) (lost_at h x B) ≤ one_if (not t)
    go true p = omega (arith, count_of_none (2 ^ suc h) (lost_at h x B) (λ n q e. fails_second (eqb (node h x) n) (B x) e p))
    go false p = count_le_one (2 ^ suc h) (lost_at h x B) (λ n m e f. sym (at_node n e) ∙ at_node m f)

-- a lost node of a longer list is the first block's, or lost from the rest
lost_cons : (h : ℕ) (x : Block) (xs : List Block) (B : Blocks) (n : ℕ) → lost h (x ∷ xs) B n ≡ true
    → (lost_at h x B n || lost h xs B n) ≡ true
lost_cons h x xs B n e = go (same_block x (block_of h n)) refl
  where
    w : Lost h (x ∷ xs) B n
    w = lost_is h (x ∷ xs) B n e

    go : (t : Bool) → same_block x (block_of h n) ≡ t → (lost_at h x B n || lost h xs B n) ≡ true
    go true p =
        let x_is = same_block_eq x (block_of h n) p in
        let at = eq-eqb (node h x) n (ap (node h) x_is ∙ node_of_block h n w.in_tree) in
        either_left (lost_at h x B n) (lost h xs B n)
        (passes_only_first (eqb (node h x) n) (B x) at (λ q. w.not_held (ap B (sym x_is) ∙ q)))
    go false p =
        either_right (lost_at h x B n) (lost h xs B n)
        (ap (λ (t : Bool). (tree && (t || among xs (block_of h n))) && not (nodes_of h B n)) (sym p) ∙ e)
      where
        tree : Bool
        tree = ltb 0 n && ltb n (2 ^ suc h)

lost_at_most : (h : ℕ) (xs : List Block) (B : Blocks) → count (2 ^ suc h) (lost h xs B) ≤ missing xs B
unfolding missing
lost_at_most h [] B = omega (arith, count_of_none (2 ^ suc h) (lost h [] B) (λ n q e. false≢true (lost_is h [] B n e).listed))
lost_at_most h (x ∷ xs) B =
    omega (
      arith,
      count_mono (2 ^ suc h) (lost h (x ∷ xs) B) (λ n. lost_at h x B n || lost h xs B n) (lost_cons h x xs B),
      count_either (2 ^ suc h) (lost_at h x B) (lost h xs B),
      count_lost_at h x B,
      lost_at_most h xs B,
    )

pub grant_leaves_at_most_3 : (h : ℕ) (cs : List ℕ) (x : ℕ) → x < length cs
    → leaving h (layout_set h cs) (layout_set h (one_block_more cs x)) ≤ most_by_grant
unfolding leaving
grant_leaves_at_most_3 h cs x q = omega (arith, lost_at_most h (layout cs) (among (layout (one_block_more cs x))), grant_moves_at_most_3 cs x q)

pub release_leaves_at_most_4 : (h : ℕ) (cs : List ℕ) (x : ℕ) → x < length cs
    → leaving h (layout_set h (one_block_more cs x)) (layout_set h cs) ≤ most_by_release
unfolding leaving
release_leaves_at_most_4 h cs x q = omega (arith, lost_at_most h (layout (one_block_more cs x)) (among (layout cs)), release_moves_at_most_4 cs x q)

-- a node of A that is not in C is not in B, or is in B and not in C
leaving_by_way_of : (h : ℕ) (A B C : Nodes) → leaving h A C ≤ leaving h A B + leaving h B C
unfolding leaving
leaving_by_way_of h A B C =
    omega (
      arith,
      count_mono (2 ^ suc h) (λ n. A n && not (C n)) (λ n. (A n && not (B n)) || (B n && not (C n))) (λ n. by_sets (A n) (B n) (C n)),
      count_either (2 ^ suc h) (λ n. A n && not (B n)) (λ n. B n && not (C n)),
    )
  where
    by_sets : (a b c : Bool) → (a && not c) ≡ true → ((a && not b) || (b && not c)) ≡ true
    by_sets true true c e = e
    by_sets true false c e = refl
    by_sets false b c e = absurd (false≢true e)

-- one goes from level x and one comes on level y: by way of the layout without either
pub growth_leaves_at_most_7 : (h : ℕ) (cs : List ℕ) (x y : ℕ) → x < length cs → y < length cs
    → leaving h (layout_set h (one_block_more cs x)) (layout_set h (one_block_more cs y)) ≤ most_by_growth
growth_leaves_at_most_7 h cs x y p q =
    omega (
      arith,
      leaving_by_way_of h (layout_set h (one_block_more cs x)) (layout_set h cs) (layout_set h (one_block_more cs y)),
      release_leaves_at_most_4 h cs x p,
      grant_leaves_at_most_3 h cs y q,
    )
