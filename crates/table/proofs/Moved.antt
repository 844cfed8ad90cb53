-- The table after everybody has moved into the new set: each tenant with a node has one node of the new set, of the same level; who can stay
-- stays; no two share a node; and where the new set has no more nodes than the old one, the occupied nodes are the new set.
use mathlib.Core.Path.{◌≡◌, refl, sym, ◌∙◌}
use mathlib.Core.Bool.{true}
use mathlib.Core.List.{List}
use Prim.Native.Nat.{ℕ, suc, ◌^◌, ◌≤◌, ◌<◌}
use native.Mathlib.Omega.{arith}
use native.Mathlib.Decide.{dec_lt}
use lib.ListN.{length, length-map, get_or-map}
use Rattle.tree.specs.Node.{level}
use Rattle.tree.specs.Held.{Nodes, Within, sizes}
use Rattle.tree.proofs.Count.{equal_of_both_ways}
use Rattle.table.specs.Table.{node_of, with_node, node_at, occupied}
use Rattle.table.specs.Pairing.{shifts, goes, moved}
use Rattle.table.proofs.Shifts.{Room, Reached, goes_nowhere_in_new, goes_nowhere_out_of_old, goes_into_new, goes_level, goes_apart, goes_fills}
use Rattle.table.proofs.Occupied.{occupied_above_zero, tenant_of, occupied_by, occupied_within, nodes_in_tree}

-- a table of nodes of the tree, none twice, and a set of nodes that has room for them on each level
pub record Movable (h : ℕ) (N : Nodes) (T : List ℕ) : Type 0 where
  pub in_tree : (t : ℕ) → node_at T t < 2 ^ suc h
  pub once : (t t' : ℕ) → 0 < node_at T t → node_at T t ≡ node_at T t' → t ≡ t'
  pub within : Within h N
  pub room : (l : ℕ) → sizes h (occupied T) l ≤ sizes h N l

pub moved_length : (h : ℕ) (N : Nodes) (T : List ℕ) → length (moved h N T) ≡ length T
unfolding moved
moved_length h N T = length-map T (λ e. with_node e (goes (shifts h (occupied T) N) (node_of e)))

module _ {h : ℕ} {N : Nodes} {T : List ℕ} (M : Movable h N T) where
  pub room_of : Room h (occupied T) N
  room_of = record { old = occupied_within h T M.in_tree; new = M.within; room = M.room }

  zero_not_occupied : ¬ (occupied T 0 ≡ true)
  zero_not_occupied p = omega (arith, occupied_above_zero T 0 p)

  -- each tenant goes where the shifts bring its node
  pub moved_at : (t : ℕ) → node_at (moved h N T) t ≡ goes (shifts h (occupied T) N) (node_at T t)
  unfolding moved
  moved_at t =
      rw (goes_nowhere_out_of_old room_of 0 zero_not_occupied) at
      (get_or-map (λ e. with_node e (goes (shifts h (occupied T) N) (node_of e))) T t 0)

  pub moved_nothing : (t : ℕ) → node_at T t ≡ 0 → node_at (moved h N T) t ≡ 0
  moved_nothing t e = moved_at t ∙ rw e (goes_nowhere_out_of_old room_of 0 zero_not_occupied)

  pub moved_in_new : (t : ℕ) → 0 < node_at T t → N (node_at (moved h N T) t) ≡ true
  moved_in_new t p = rw (moved_at t) (goes_into_new room_of (node_at T t) (occupied_by T t p))

  pub moved_level : (t : ℕ) → 0 < node_at T t → level h (node_at (moved h N T) t) ≡ level h (node_at T t)
  moved_level t p = rw (moved_at t) (goes_level room_of (node_at T t) (occupied_by T t p))

  pub moved_holds : (t : ℕ) → 0 < node_at T t → 0 < node_at (moved h N T) t
  moved_holds t p = (M.within (node_at (moved h N T) t) (moved_in_new t p)).above_zero

  pub moved_held_before : (t : ℕ) → 0 < node_at (moved h N T) t → 0 < node_at T t
  moved_held_before t p = go (dec_lt 0 (node_at T t))
    where
      go : Dec (0 < node_at T t) → 0 < node_at T t
      go (yes q) = q
      go (no q) = absurd (omega (arith, moved_nothing t (omega arith)))

  pub moved_stays : (t : ℕ) → N (node_at T t) ≡ true → node_at (moved h N T) t ≡ node_at T t
  moved_stays t e = moved_at t ∙ goes_nowhere_in_new room_of (node_at T t) e

  pub moved_once : (t t' : ℕ) → 0 < node_at (moved h N T) t → node_at (moved h N T) t ≡ node_at (moved h N T) t' → t ≡ t'
  moved_once t t' p e =
      let q : 0 < node_at T t = moved_held_before t p in
      let q' : 0 < node_at T t' = moved_held_before t' (rw e at p) in
      let same : goes (shifts h (occupied T) N) (node_at T t) ≡ goes (shifts h (occupied T) N) (node_at T t') = sym (moved_at t) ∙ e ∙ moved_at t' in
      M.once t t' q (goes_apart room_of (node_at T t) (node_at T t') (occupied_by T t q) (occupied_by T t' q') same)

  -- ---- the occupied nodes

  pub moved_only_to_new : (n : ℕ) → occupied (moved h N T) n ≡ true → N n ≡ true
  moved_only_to_new n p =
      let v = tenant_of (moved h N T) n p in
      rw v.2 at (moved_in_new v.0 (moved_held_before v.0 (rw v.2 (occupied_above_zero (moved h N T) n p))))

  pub occupied_if_reached : (n : ℕ) → 0 < n → Reached h (occupied T) N n → occupied (moved h N T) n ≡ true
  occupied_if_reached n p r =
      let v = tenant_of T r.before r.held in
      let there : node_at (moved h N T) v.0 ≡ n = moved_at v.0 ∙ rw v.2 r.arrives in
      rw there at (occupied_by (moved h N T) v.0 (rw there p))

  pub moved_in_tree : (t : ℕ) → node_at (moved h N T) t < 2 ^ suc h
  moved_in_tree = nodes_in_tree h (moved h N T) (λ n p. M.within n (moved_only_to_new n p))

  -- on a level with as many nodes in the new set as before, all are taken
  pub moved_fills : (l : ℕ) → sizes h (occupied T) l ≡ sizes h N l → (n : ℕ) → level h n ≡ l → N n ≡ true → occupied (moved h N T) n ≡ true
  moved_fills l equal n at_l new = occupied_if_reached n (M.within n new).above_zero (goes_fills room_of n new (rw at_l equal))

  pub moved_occupies : ((l : ℕ) → sizes h (occupied T) l ≡ sizes h N l) → (n : ℕ) → occupied (moved h N T) n ≡ N n
  moved_occupies equal n =
      equal_of_both_ways (occupied (moved h N T) n) (N n) (moved_only_to_new n) (moved_fills (level h n) (equal (level h n)) n refl)
