-- What document 000 proves of sets of nodes, for every height: theorem 1 (a safe set is unique) and fact 1 (a legal set fits the pages).
use mathlib.Core.Path.{◌≡◌, sym, ap, ◌∙◌}
use Prim.Native.Nat.{ℕ, suc, ◌*◌, ◌^◌, ◌≤◌}
use Rattle.tree.specs.Held.{Nodes, Held, Within, Legal, Safe, sizes}
use Rattle.tree.specs.Block.{Blocks, block_of, blocks_of}
use Rattle.tree.specs.Pages.{pages_of}
use Rattle.tree.proofs.Coordinates.{node_of_block}
use Rattle.tree.proofs.Bridge.{SameSet, held_node, held_block, legal_blocks, safe_blocks}
use Rattle.tree.proofs.Sets.{set_of_blocks}
use Rattle.tree.proofs.Sum.{sum_cong}
use Rattle.tree.proofs.Sizes.{sizes_of_blocks}
use Rattle.tree.proofs.Count.{equal_of_both_ways}
use Rattle.tree.proofs.Room.{legal_fits}
use Rattle.tree.proofs.Unique.{bsafe_unique}

-- two sets of nodes whose sets of blocks are equal
nodes_of_equal_blocks : (h : ℕ) (A A' : Nodes) (B B' : Blocks) → SameSet h A B → SameSet h A' B' → ((b : _) → B b ≡ B' b)
    → (n : ℕ) → Held A n → Held A' n
nodes_of_equal_blocks h A A' B B' S S' e n p =
    let q = held_node h A' B' S' (block_of h n) (sym (e (block_of h n)) ∙ held_block h A B S n p) in
    rw (node_of_block h n (S.nodes_within n p)) at q

pub safe_unique : (h : ℕ) (A A' : Nodes) → Within h A → Within h A' → Legal A → Legal A' → Safe h A → Safe h A'
    → ((l : ℕ) → sizes h A l ≡ sizes h A' l) → (n : ℕ) → A n ≡ A' n
safe_unique h A A' w w' l l' s s' e n =
    let B = blocks_of h A in
    let B' = blocks_of h A' in
    let S = set_of_blocks h A w in
    let S' = set_of_blocks h A' w' in
    let same =
    bsafe_unique h B B' S.blocks_within S'.blocks_within (legal_blocks h A B S l) (legal_blocks h A' B' S' l')
    (safe_blocks h A B S s) (safe_blocks h A' B' S' s')
    (λ m. sym (sizes_of_blocks h A B S m) ∙ e m ∙ sizes_of_blocks h A' B' S' m) in
    equal_of_both_ways (A n) (A' n) (nodes_of_equal_blocks h A A' B B' S S' same n) (nodes_of_equal_blocks h A' A B' B S' S (λ b. sym (same b)) n)

-- the pages of a legal set are at most the reserve's
pub legal_pages : (h : ℕ) (A : Nodes) → Within h A → Legal A → pages_of h (sizes h A) ≤ 2 ^ h
unfolding pages_of
legal_pages h A w l =
    let S = set_of_blocks h A w in
    rw (sum_cong (suc h) (λ m q. ap (λ (c : ℕ). c * 2 ^ m) (sizes_of_blocks h A (blocks_of h A) S m)))
    (legal_fits h (blocks_of h A) S.blocks_within (legal_blocks h A (blocks_of h A) S l))
