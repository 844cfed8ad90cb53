-- The table: by tenant, its node, or 0 for nothing. Document 01, "Calls" and refusal 7.
use Rattle.std.specs.Prelude.{◌≡◌, Bool, true, false, ◌&&◌, ◌||◌, List, [], ◌∷◌, ℕ, zero, suc, ◌+◌, ◌^◌, ◌<◌, eqb, ltb, leb, get_or}
use Rattle.tree.specs.Node.{level}
use Rattle.tree.specs.Held.{Nodes, Legal, Safe, one_if}
use Rattle.layout.specs.Layout.{pages}
use Rattle.layout.specs.Set.{layout_set}

-- the node that an entry holds
abbrev pub node_of : ℕ → ℕ
node_of e = e

-- the entry with another node
abbrev pub with_node : ℕ → ℕ → ℕ
with_node e n = n

-- tenant t's node; 0 for nothing, and past the end of the table
abbrev pub node_at : List ℕ → ℕ → ℕ
node_at T t = node_of (get_or T t 0)

-- some entry of the table holds node n
unfoldable pub stands : List ℕ → ℕ → Bool
stands [] n = false
stands (e ∷ T) n = eqb (node_of e) n || stands T n

-- the places occupied: the nodes in the table
unfoldable pub occupied : List ℕ → Nodes
unfolding stands
occupied T n = ltb 0 n && stands T n

-- in order, the contrary of refusal 7: no node above 2^(h+1) − 1, none twice, and the set of them legal and safe
pub record InOrder (h : ℕ) (T : List ℕ) : Type 0 where
  pub in_tree : (t : ℕ) → node_at T t < 2 ^ suc h
  pub once : (t t' : ℕ) → 0 < node_at T t → node_at T t ≡ node_at T t' → t ≡ t'
  pub legal : Legal (occupied T)
  pub safe : Safe h (occupied T)

-- how many entries pass a test of their node
unfoldable pub tally : (ℕ → Bool) → List ℕ → ℕ
tally p [] = 0
tally p (e ∷ T) = one_if (p (node_of e)) + tally p T

-- the number of tenants that hold a block of level l
unfoldable pub tenants_at : ℕ → List ℕ → ℕ → ℕ
unfolding tally
tenants_at h T l = tally (λ n. ltb 0 n && eqb (level h n) l) T

-- f 0, …, f (n − 1), from f i on
abbrev pub tabulate : ℕ → ℕ → (ℕ → ℕ) → List ℕ
tabulate i zero f = []
tabulate i (suc n) f = f i ∷ tabulate (suc i) n f

-- the number held at each of the thirteen levels
unfoldable pub counts_of : ℕ → List ℕ → List ℕ
unfolding tenants_at
counts_of h T = tabulate 0 13 (tenants_at h T)

-- every number below n passes the test
unfoldable pub all_below : ℕ → (ℕ → Bool) → Bool
all_below zero p = true
all_below (suc n) p = p n && all_below n p

-- The test for a table in order, for heights up to 12: the pages held are at most 2^h, no node lies past the tree, and each node of the
-- layout of the table's own counts stands in it once and no other node at all. `proofs/Order.antt` shows that this is `InOrder`.
unfoldable pub in_order? : ℕ → List ℕ → Bool
in_order? h T =
    leb (pages (counts_of h T)) (2 ^ h)
    && eqb (tally (λ n. ltb n (2 ^ suc h)) T) (tally (λ n. true) T)
    && all_below (2 ^ suc h) (λ n. eqb n 0 || eqb (tally (eqb n) T) (one_if (layout_set h (counts_of h T) n)))
