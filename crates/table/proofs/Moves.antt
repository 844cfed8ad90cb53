-- The list of moves: it has one entry for each tenant whose node changes and no other, with that tenant's node before and after; so it is as
-- long as there are such tenants, and as long as there are nodes to leave.
use mathlib.Core.Path.{◌≡◌, sym, ap, subst, ◌∙◌}
use mathlib.Core.Bool.{Bool, true, not, ◌&&◌}
use mathlib.Core.List.{List, map, map-map}
use mathlib.Core.List.Memᴰ.{cast as in_cast}
use mathlib.Core.List.Memᴰ.{map as in_map}
use mathlib.Core.List.Memᴰ.{of_map}
use mathlib.Core.List.{Memᴰ as In}
use Prim.Native.Nat.{ℕ, suc, ◌^◌, ◌<◌}
use borrow.Author.Tests.{eqb-true, eq-eqb, ltb-true, lt-ltb}
use lib.Dec.{eqb, ltb}
use lib.ListN.{length, get_or, length-map}
use Rattle.tree.specs.Held.{Nodes, count}
use Rattle.tree.proofs.Count.{passes_first, fails_second, passes_only_first}
use Rattle.table.specs.Table.{node_at, occupied}
use Rattle.table.specs.Pairing.{Shift, shifts, goes, owner_of, moved, moves_of}
use Rattle.table.specs.declared.Move.{Move}
use Rattle.table.proofs.Distinct.{Distinct, place_of, at_place, distinct_places, distinct_map, get_d_map, length_as_count}
use Rattle.table.proofs.Pair.{Goes, stays, moves, goes_by}
use Rattle.table.proofs.Shifts.{distinct_froms, goes_with, old_of_shift, new_of_shift, shifts_counted}
use Rattle.table.proofs.Occupied.{Has, owner_has, occupied_above_zero}
use Rattle.table.proofs.Moved.{Movable, room_of, moved_at}

-- the shift s of a table, with the tenant that it moves
abbrev pub move_by : List ℕ → Shift → Move
move_by T s = record { tenant = owner_of T s.from; from = s.from; to = s.to; staged = 0 }

-- m takes a tenant from its node to another
pub record Moves (h : ℕ) (N : Nodes) (T : List ℕ) (m : Move) : Type 0 where
  pub inside_table : m.tenant < length T
  pub from_is : m.from ≡ node_at T m.tenant
  pub to_is : m.to ≡ node_at (moved h N T) m.tenant
  pub from_above_zero : 0 < m.from
  pub to_above_zero : 0 < m.to
  pub differ : ¬ (m.from ≡ m.to)

-- tenant t has a node, and another one after
abbrev pub changes : ℕ → Nodes → List ℕ → ℕ → Bool
changes h N T t = ltb 0 (node_at T t) && not (eqb (node_at (moved h N T) t) (node_at T t))

module _ {h : ℕ} {N : Nodes} {T : List ℕ} (M : Movable h N T) where
  -- as many moves as occupied nodes that are not in the new set
  pub moves_counted : length (moves_of h N T) ≡ count (2 ^ suc h) (λ n. occupied T n && not (N n))
  unfolding moves_of
  moves_counted = length-map (shifts h (occupied T) N) (move_by T) ∙ shifts_counted (room_of M)

  -- ---- each move of the list is one

  owner_of_shift : (s : Shift) → In s (shifts h (occupied T) N) → Has T s.from (owner_of T s.from)
  owner_of_shift s k = owner_has T s.from (old_of_shift (room_of M) s k).0

  shift_moves : (s : Shift) → In s (shifts h (occupied T) N) → Moves h N T (move_by T s)
  shift_moves s k =
      let v = owner_of_shift s k in
      let new = new_of_shift (room_of M) s k in
      record {
        inside_table = v.inside_table;
        from_is = sym v.node_is;
        to_is = sym (moved_at M (owner_of T s.from) ∙ ap (goes (shifts h (occupied T) N)) v.node_is ∙ goes_with (room_of M) s k);
        from_above_zero = occupied_above_zero T s.from (old_of_shift (room_of M) s k).0;
        to_above_zero = (M.within s.to new.0).above_zero;
        differ = λ e. new.1 (rw e at (old_of_shift (room_of M) s k).0);
      }

  pub of_moves : (m : Move) → In m (moves_of h N T) → Moves h N T m
  unfolding moves_of
  of_moves m k =
      let r = of_map (move_by T) (shifts h (occupied T) N) k in
      subst (Moves h N T) r.2 (shift_moves r.0 r.1)

  pub moves_in_list : (d : Move) (i : ℕ) → i < length (moves_of h N T) → Moves h N T (get_or (moves_of h N T) i d)
  moves_in_list d i q = of_moves (get_or (moves_of h N T) i d) (at_place d (moves_of h N T) i q)

  -- ---- each tenant whose node changes has one move

  moved_by : (t : ℕ) → 0 < node_at T t → ¬ (node_at (moved h N T) t ≡ node_at T t) → (m : Move) × In m (moves_of h N T) × (m.tenant ≡ t)
  unfolding moves_of
  moved_by t p other = go (goes_by (shifts h (occupied T) N) (node_at T t))
    where
      go : Goes (shifts h (occupied T) N) (node_at T t) → (m : Move) × In m (moves_of h N T) × (m.tenant ≡ t)
      go (stays none same) = absurd (other (moved_at M t ∙ same))
      go (moves s k f there) = (
        move_by T s,
        in_map (move_by T) k,
        sym (M.once t (owner_of T s.from) p (sym f ∙ sym (owner_of_shift s k).node_is)),
      )

  pub move_of : (d : Move) (t : ℕ) → 0 < node_at T t → ¬ (node_at (moved h N T) t ≡ node_at T t)
      → (i : ℕ) × (i < length (moves_of h N T)) × ((get_or (moves_of h N T) i d).tenant ≡ t)
  move_of d t p other =
      let r = moved_by t p other in
      let i = place_of d r.1 in
      (i.0, i.1, ap (λ (m : Move). m.tenant) i.2 ∙ r.2)

  -- the tenants are those of the nodes left, which are different
  pub distinct_tenants : Distinct (map (λ m. m.tenant) (moves_of h N T))
  unfolding moves_of
  distinct_tenants =
      rw (map-map (λ (m : Move). m.tenant) (move_by T) (shifts h (occupied T) N))
      (rw (map-map (owner_of T) (λ (s : Shift). s.from) (shifts h (occupied T) N)) at
      (distinct_map (owner_of T) (map (λ s. s.from) (shifts h (occupied T) N)) (distinct_froms (room_of M)) apart))
    where
      owner_of_from : (n : ℕ) → In n (map (λ s. s.from) (shifts h (occupied T) N)) → node_at T (owner_of T n) ≡ n
      owner_of_from n k =
          let r = of_map (λ (s : Shift). s.from) (shifts h (occupied T) N) k in
          rw r.2 at (owner_of_shift r.0 r.1).node_is

      apart : (n n' : ℕ) → In n (map (λ s. s.from) (shifts h (occupied T) N)) → In n' (map (λ s. s.from) (shifts h (occupied T) N))
          → owner_of T n ≡ owner_of T n' → n ≡ n'
      apart n n' k k' e = sym (owner_of_from n k) ∙ ap (node_at T) e ∙ owner_of_from n' k'

  pub one_move_each : (d : Move) (i j : ℕ) → i < length (moves_of h N T) → j < length (moves_of h N T)
      → (get_or (moves_of h N T) i d).tenant ≡ (get_or (moves_of h N T) j d).tenant → i ≡ j
  one_move_each d i j p q e =
      distinct_places 0 (map (λ m. m.tenant) (moves_of h N T)) distinct_tenants i j
      (rw (length-map (moves_of h N T) (λ (m : Move). m.tenant)) p)
      (rw (length-map (moves_of h N T) (λ (m : Move). m.tenant)) q)
      (get_d_map (λ (m : Move). m.tenant) (moves_of h N T) d 0 i p ∙ e ∙ sym (get_d_map (λ (m : Move). m.tenant) (moves_of h N T) d 0 j q))

  -- so there are as many moves as tenants whose node changes
  pub moves_by_tenant : length (moves_of h N T) ≡ count (length T) (changes h N T)
  moves_by_tenant =
      sym (length-map (moves_of h N T) (λ (m : Move). m.tenant))
      ∙ length_as_count (length T) (changes h N T) (map (λ m. m.tenant) (moves_of h N T)) distinct_tenants passes listed
    where
      of_move : (m : Move) → In m (moves_of h N T) → (m.tenant < length T) × (changes h N T m.tenant ≡ true)
      of_move m k =
          let v = of_moves m k in
          let n : ℕ = node_at T m.tenant in
          let n' : ℕ = node_at (moved h N T) m.tenant in (
            v.inside_table,
            passes_only_first (ltb 0 n) (eqb n' n)
                (lt-ltb 0 n (rw v.from_is at v.from_above_zero))
                (λ e. v.differ (v.from_is ∙ sym (eqb-true n' n e) ∙ sym v.to_is)),
          )

      passes : (t : ℕ) → In t (map (λ m. m.tenant) (moves_of h N T)) → (t < length T) × (changes h N T t ≡ true)
      passes t k =
          let r = of_map (λ (m : Move). m.tenant) (moves_of h N T) k in
          subst (λ u. (u < length T) × (changes h N T u ≡ true)) r.2 (of_move r.0 r.1)

      listed : (t : ℕ) → t < length T → changes h N T t ≡ true → In t (map (λ m. m.tenant) (moves_of h N T))
      listed t q e =
          let n : ℕ = node_at T t in
          let n' : ℕ = node_at (moved h N T) t in
          let r = moved_by t (ltb-true 0 n (passes_first (ltb 0 n) (eqb n' n) e)) (λ same. fails_second (ltb 0 n) (eqb n' n) e (eq-eqb n' n same)) in
          in_cast (sym r.2) (in_map (λ (m : Move). m.tenant) r.1)
