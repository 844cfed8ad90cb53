-- The table after a newcomer has come: where the new set has one node more, on level x, the newcomer's node is the one that nobody has moved to,
-- and with the newcomer on it the occupied nodes are the new set.
use mathlib.Core.Path.{◌≡◌, refl, sym, ap, ◌∙◌}
use mathlib.Core.Bool.{true}
use mathlib.Core.List.{List}
use Prim.Native.Nat.{ℕ, suc, ◌^◌, ◌≤◌, ◌<◌}
use native.Mathlib.Omega.{arith}
use native.Mathlib.Decide.{ℕ_discrete}
use lib.ListN.{length, set}
use lib.Seq.{get_or-set_same, get_or-set_other}
use Rattle.tree.specs.Node.{level}
use Rattle.tree.specs.Held.{Nodes, sizes}
use Rattle.tree.proofs.Count.{equal_of_both_ways}
use Rattle.table.specs.Table.{node_at, occupied}
use Rattle.table.specs.Pairing.{newcomer, moved}
use Rattle.table.proofs.Keep.{OnlyIn}
use Rattle.table.proofs.Shifts.{newcomer_place, goes_not_to_newcomer, goes_fills_but_newcomer}
use Rattle.table.proofs.Occupied.{occupied_above_zero, tenant_of, occupied_by, nodes_in_tree}
use Rattle.table.proofs.Moved.{Movable, moved_length, room_of, moved_at, moved_nothing, moved_held_before, moved_once, moved_only_to_new}
use Rattle.table.proofs.Moved.{occupied_if_reached, moved_fills}

-- the new set has one node more, of level x
pub record OneMore (h : ℕ) (S N : Nodes) (x : ℕ) : Type 0 where
  pub in_height : x ≤ h
  pub grown : sizes h N x ≡ suc (sizes h S x)
  pub others : (l : ℕ) → ¬ (l ≡ x) → sizes h S l ≡ sizes h N l

-- everybody moved, and tenant t on the newcomer's node
abbrev pub granted : ℕ → Nodes → List ℕ → ℕ → ℕ → List ℕ
granted h N T x t = set (moved h N T) t (newcomer h (occupied T) N x)

module _ {h : ℕ} {N : Nodes} {T : List ℕ} (M : Movable h N T) {x : ℕ} (G : OneMore h (occupied T) N x) where
  newcomer_only_new : OnlyIn h N (occupied T) x (newcomer h (occupied T) N x)
  newcomer_only_new = newcomer_place (room_of M) x G.in_height G.grown

  pub newcomer_in_new : N (newcomer h (occupied T) N x) ≡ true
  newcomer_in_new = newcomer_only_new.held

  pub newcomer_level : level h (newcomer h (occupied T) N x) ≡ x
  newcomer_level = newcomer_only_new.of_level.level_is

  pub newcomer_above_zero : 0 < newcomer h (occupied T) N x
  newcomer_above_zero = newcomer_only_new.of_level.in_tree.above_zero

  nobody_at_newcomer : (u : ℕ) → ¬ (node_at (moved h N T) u ≡ newcomer h (occupied T) N x)
  nobody_at_newcomer u e =
      let p : 0 < node_at T u = moved_held_before M u (rw e newcomer_above_zero) in
      goes_not_to_newcomer (room_of M) x G.in_height G.grown (node_at T u) (occupied_by T u p) (sym (moved_at M u) ∙ e)

  pub newcomer_free : ¬ (occupied (moved h N T) (newcomer h (occupied T) N x) ≡ true)
  newcomer_free p = let v = tenant_of (moved h N T) (newcomer h (occupied T) N x) p in nobody_at_newcomer v.0 v.2

  -- all but the newcomer's node are taken
  pub moved_fills_but_newcomer : (n : ℕ) → N n ≡ true → ¬ (n ≡ newcomer h (occupied T) N x) → occupied (moved h N T) n ≡ true
  moved_fills_but_newcomer n new other = by_level (ℕ_discrete (level h n) x)
    where
      by_level : Dec (level h n ≡ x) → occupied (moved h N T) n ≡ true
      by_level (yes at_x) =
          occupied_if_reached M n (M.within n new).above_zero
          (goes_fills_but_newcomer (room_of M) x G.in_height G.grown n new at_x other)
      by_level (no ne) = moved_fills M (level h n) (G.others (level h n) ne) n refl new

  -- the newcomer is tenant t
  module _ (t : ℕ) (in_table : t < length T) (nothing : node_at T t ≡ 0) where
    pub granted_newcomer : node_at (granted h N T x t) t ≡ newcomer h (occupied T) N x
    granted_newcomer = get_or-set_same (moved h N T) t (newcomer h (occupied T) N x) 0 (rw (moved_length h N T) in_table)

    pub granted_others : (u : ℕ) → ¬ (u ≡ t) → node_at (granted h N T x t) u ≡ node_at (moved h N T) u
    granted_others u ne = get_or-set_other (moved h N T) t u (newcomer h (occupied T) N x) 0 ne

    pub granted_once : (u u' : ℕ) → 0 < node_at (granted h N T x t) u → node_at (granted h N T x t) u ≡ node_at (granted h N T x t) u' → u ≡ u'
    granted_once u u' p e = go (ℕ_discrete u t) (ℕ_discrete u' t)
      where
        go : Dec (u ≡ t) → Dec (u' ≡ t) → u ≡ u'
        go (yes same) (yes same') = same ∙ sym same'
        go (yes same) (no ne') = absurd (nobody_at_newcomer u' (sym (granted_others u' ne') ∙ sym e ∙ rw same granted_newcomer))
        go (no ne) (yes same') = absurd (nobody_at_newcomer u (sym (granted_others u ne) ∙ e ∙ rw same' granted_newcomer))
        go (no ne) (no ne') =
            moved_once M u u' (rw (granted_others u ne) at p) (sym (granted_others u ne) ∙ e ∙ granted_others u' ne')

    granted_only_new : (n : ℕ) → occupied (granted h N T x t) n ≡ true → N n ≡ true
    granted_only_new n p = let v = tenant_of (granted h N T x t) n p in go v.0 v.2 (ℕ_discrete v.0 t)
      where
        go : (u : ℕ) → node_at (granted h N T x t) u ≡ n → Dec (u ≡ t) → N n ≡ true
        go u e (yes same) = rw (sym e ∙ ap (node_at (granted h N T x t)) same ∙ granted_newcomer) newcomer_in_new
        go u e (no ne) =
            let there : node_at (moved h N T) u ≡ n = sym (granted_others u ne) ∙ e in
            moved_only_to_new M n (rw there at (occupied_by (moved h N T) u (rw there (occupied_above_zero (granted h N T x t) n p))))

    pub granted_in_tree : (u : ℕ) → node_at (granted h N T x t) u < 2 ^ suc h
    granted_in_tree = nodes_in_tree h (granted h N T x t) (λ n p. M.within n (granted_only_new n p))

    occupied_in_granted : (u n : ℕ) → 0 < n → node_at (granted h N T x t) u ≡ n → occupied (granted h N T x t) n ≡ true
    occupied_in_granted u n p e = rw e at (occupied_by (granted h N T x t) u (rw e p))

    granted_fills : (n : ℕ) → N n ≡ true → occupied (granted h N T x t) n ≡ true
    granted_fills n new = go (ℕ_discrete n (newcomer h (occupied T) N x))
      where
        above_zero : 0 < n
        above_zero = (M.within n new).above_zero

        go : Dec (n ≡ newcomer h (occupied T) N x) → occupied (granted h N T x t) n ≡ true
        go (yes e) = occupied_in_granted t n above_zero (granted_newcomer ∙ sym e)
        go (no other) =
            let v = tenant_of (moved h N T) n (moved_fills_but_newcomer n new other) in
            let not_t : ¬ (v.0 ≡ t) = λ same. omega (arith, above_zero, v.2, ap (node_at (moved h N T)) same, moved_nothing M t nothing) in
            occupied_in_granted v.0 n above_zero (granted_others v.0 not_t ∙ v.2)

    -- with the newcomer the occupied nodes are the new set
    pub granted_occupies : (n : ℕ) → occupied (granted h N T x t) n ≡ N n
    granted_occupies n = equal_of_both_ways (occupied (granted h N T x t) n) (N n) (granted_only_new n) (granted_fills n)
