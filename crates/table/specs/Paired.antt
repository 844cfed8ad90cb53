-- Who goes where, in document 01's words: over the tables T before and T' after a call of tenant t, and the new set N.
-- `proofs/Paired.antt` shows all of it of the pairing in Pairing.antt.
use Rattle.std.specs.Prelude.{◌≡◌, true, ◌⊎◌, List, ℕ, ◌<◌}
use Rattle.tree.specs.Node.{level, LeftOf}
use Rattle.tree.specs.Held.{Nodes}
use Rattle.table.specs.Table.{node_at}

-- u is one of the others: a tenant with a node before, and not the same node after
pub record Mover (t : ℕ) (T T' : List ℕ) (u : ℕ) : Type 0 where
  pub other : ¬ (u ≡ t)
  pub had_one : 0 < node_at T u
  pub differ : ¬ (node_at T' u ≡ node_at T u)

-- n is a node of the new set that nobody stays on
pub record Place (N : Nodes) (t : ℕ) (T T' : List ℕ) (n : ℕ) : Type 0 where
  pub in_new_set : N n ≡ true
  pub nobody_stays : (u : ℕ) → ¬ (u ≡ t) → node_at T u ≡ n → ¬ (node_at T' u ≡ n)

-- n is a mover's new node
pub record Taken (t : ℕ) (T T' : List ℕ) (n : ℕ) : Type 0 where
  pub by : ℕ
  pub mover : Mover t T T' by
  pub takes : node_at T' by ≡ n

-- ---- every call

pub record MoversPaired (h : ℕ) (N : Nodes) (t : ℕ) (T T' : List ℕ) : Type 0 where
  -- the movers take nodes that nobody stays on
  pub on_places : (u : ℕ) → Mover t T T' u → Place N t T T' (node_at T' u)
  -- and on each level keep their order: whose old node is left of another's has its new node left of the other's
  pub keep_order : (u v : ℕ) → Mover t T T' u → Mover t T T' v → level h (node_at T u) ≡ level h (node_at T v)
      → LeftOf h (node_at T u) (node_at T v) → LeftOf h (node_at T' u) (node_at T' v)

-- ---- a release: the movers take all of those nodes

abbrev pub MoversFill : Nodes → ℕ → List ℕ → List ℕ → Type 0
MoversFill N t T T' = (n : ℕ) → Place N t T T' n → Taken t T T' n

-- ---- a grant: t is the newcomer

pub record NewcomerPaired (h : ℕ) (N : Nodes) (t : ℕ) (T T' : List ℕ) : Type 0 where
  -- the newcomer too takes a node that nobody stays on
  pub on_place : Place N t T T' (node_at T' t)
  -- those that it does not take the movers take
  pub fill : (n : ℕ) → Place N t T T' n → (n ≡ node_at T' t) ⊎ Taken t T T' n
  -- it takes the last one: the new node of every mover on its level is left of it
  pub last : (u : ℕ) → Mover t T T' u → level h (node_at T' u) ≡ level h (node_at T' t) → LeftOf h (node_at T' u) (node_at T' t)
