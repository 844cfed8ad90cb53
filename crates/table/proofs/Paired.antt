-- The pairing of Pairing.antt is document 01's: `specs/Paired.antt` holds of a table before and after.
use mathlib.Core.Path.{◌≡◌, refl, sym, ap, ◌∙◌}
use mathlib.Core.Bool.{true}
use mathlib.Core.Logic.{◌⊎◌, inl, inr}
use mathlib.Core.List.{List}
use Prim.Native.Nat.{ℕ, ◌<◌}
use native.Mathlib.Omega.{arith}
use native.Mathlib.Decide.{ℕ_discrete}
use Rattle.tree.specs.Node.{level, LeftOf}
use Rattle.tree.specs.Held.{Nodes, Within, sizes}
use Rattle.tree.proofs.LeftToRight.{less_of_left_of, left_of_less}
use Rattle.table.specs.Table.{node_at, occupied}
use Rattle.table.specs.Pairing.{shifts, goes, newcomer, moved}
use Rattle.table.specs.Paired.{Mover, Place, Taken, MoversPaired, MoversFill, NewcomerPaired}
use Rattle.table.proofs.Keep.{OnlyIn}
use Rattle.table.proofs.Shifts.{newcomer_place, goes_to_new}
use Rattle.table.proofs.Occupied.{tenant_of, occupied_by}
use Rattle.table.proofs.Moved.{Movable, room_of, moved_at, moved_nothing, moved_held_before, moved_stays, moved_fills}
use Rattle.table.proofs.Newcomer.{OneMore, moved_fills_but_newcomer}
use Rattle.table.proofs.Turns.{goes_left_to_right, goes_left_of_newcomer}

-- T₁ is the table with which the moves are planned: T with nothing for t; T' has the others where the moves bring them
module _ {h : ℕ} {N : Nodes} {T₁ : List ℕ} (M : Movable h N T₁) (t : ℕ) (T T' : List ℕ) (out : node_at T₁ t ≡ 0)
    (before : (u : ℕ) → ¬ (u ≡ t) → node_at T₁ u ≡ node_at T u)
    (after : (u : ℕ) → ¬ (u ≡ t) → node_at T' u ≡ node_at (moved h N T₁) u) where
  -- a mover has to leave: its node was held and is not in the new set
  record Leaves (u : ℕ) : Type 0 where
    held : occupied T₁ (node_at T u) ≡ true
    gone : ¬ (N (node_at T u) ≡ true)
    arrives : node_at T' u ≡ goes (shifts h (occupied T₁) N) (node_at T u)

  mover_leaves : (u : ℕ) → Mover t T T' u → Leaves u
  mover_leaves u m =
      let there = before u m.other in
      record {
        held = rw there at (occupied_by T₁ u (rw there m.had_one));
        gone = λ new. m.differ (after u m.other ∙ moved_stays M u (rw there new) ∙ there);
        arrives = after u m.other ∙ moved_at M u ∙ ap (goes (shifts h (occupied T₁) N)) there;
      }

  arrival : (u : ℕ) → (v : Leaves u) → OnlyIn h N (occupied T₁) (level h (node_at T u)) (node_at T' u)
  arrival u v = rw v.arrives (goes_to_new (room_of M) (node_at T u) v.held v.gone)

  -- on a node of the new set that nobody held nobody stays
  place_if_new : (n : ℕ) → N n ≡ true → ¬ (occupied T₁ n ≡ true) → Place N t T T' n
  place_if_new n new free = record {
    in_new_set = new;
    nobody_stays = λ u ne was is. free (rw (before u ne ∙ was) at (occupied_by T₁ u (rw (before u ne ∙ was) (M.within n new).above_zero)));
  }

  pub movers_paired : MoversPaired h N t T T'
  movers_paired = record {
    on_places = λ u m. let a = arrival u (mover_leaves u m) in place_if_new (node_at T' u) a.held a.not_held;
    keep_order = keep_order;
  }
    where
      keep_order : (u v : ℕ) → Mover t T T' u → Mover t T T' v → level h (node_at T u) ≡ level h (node_at T v)
          → LeftOf h (node_at T u) (node_at T v) → LeftOf h (node_at T' u) (node_at T' v)
      keep_order u v mu mv same left =
          let a = mover_leaves u mu in
          let b = mover_leaves v mv in
          let to_a = (arrival u a).of_level in
          let to_b = (arrival v b).of_level in
          let old : Within h (occupied T₁) = (room_of M).old in
          let less : node_at T u < node_at T v =
          less_of_left_of h (node_at T u) (node_at T v) (old (node_at T u) a.held) (old (node_at T v) b.held) same left in
          left_of_less h (node_at T' u) (node_at T' v) to_a.in_tree to_b.in_tree (to_a.level_is ∙ same ∙ sym to_b.level_is)
          (rw (a.arrives, b.arrives)
          (goes_left_to_right (room_of M) (node_at T u) (node_at T v) a.held a.gone b.held b.gone same less))

  -- whoever is on such a node afterwards has moved there
  taken_if_occupied : (n : ℕ) → Place N t T T' n → occupied (moved h N T₁) n ≡ true → Taken t T T' n
  taken_if_occupied n p there =
      let w = tenant_of (moved h N T₁) n there in
      let u : ℕ = w.0 in
      let above_zero : 0 < n = (M.within n p.in_new_set).above_zero in
      let ne : ¬ (u ≡ t) = λ same. omega (arith, above_zero, w.2, ap (node_at (moved h N T₁)) same, moved_nothing M t out) in
      let comes : node_at T' u ≡ n = after u ne ∙ w.2 in
      record {
        by = u;
        mover = record {
          other = ne;
          had_one = rw (before u ne) at (moved_held_before M u (rw w.2 above_zero));
          differ = λ same. p.nobody_stays u ne (sym same ∙ comes) comes;
        };
        takes = comes;
      }

  -- with as many nodes in the new set as before, on each level
  pub movers_fill : ((l : ℕ) → sizes h (occupied T₁) l ≡ sizes h N l) → MoversFill N t T T'
  movers_fill equal n p = taken_if_occupied n p (moved_fills M (level h n) (equal (level h n)) n refl p.in_new_set)

  -- with one more, on level x, which is t's
  pub newcomer_paired : {x : ℕ} → OneMore h (occupied T₁) N x → node_at T' t ≡ newcomer h (occupied T₁) N x → NewcomerPaired h N t T T'
  newcomer_paired {x} G is = record { on_place = rw is on_place; fill = fill; last = last }
    where
      own : OnlyIn h N (occupied T₁) x (newcomer h (occupied T₁) N x)
      own = newcomer_place (room_of M) x G.in_height G.grown

      on_place : Place N t T T' (newcomer h (occupied T₁) N x)
      on_place = place_if_new (newcomer h (occupied T₁) N x) own.held own.not_held

      fill : (n : ℕ) → Place N t T T' n → (n ≡ node_at T' t) ⊎ Taken t T T' n
      fill n p = go (ℕ_discrete n (newcomer h (occupied T₁) N x))
        where
          go : Dec (n ≡ newcomer h (occupied T₁) N x) → (n ≡ node_at T' t) ⊎ Taken t T T' n
          go (yes e) = inl (e ∙ sym is)
          go (no ne) = inr (taken_if_occupied n p (moved_fills_but_newcomer M G n p.in_new_set ne))

      last : (u : ℕ) → Mover t T T' u → level h (node_at T' u) ≡ level h (node_at T' t) → LeftOf h (node_at T' u) (node_at T' t)
      last u m same =
          let a = mover_leaves u m in
          let to_a = (arrival u a).of_level in
          let at_x : level h (node_at T u) ≡ x = sym to_a.level_is ∙ same ∙ ap (level h) is ∙ own.of_level.level_is in
          left_of_less h (node_at T' u) (node_at T' t) to_a.in_tree (rw is own.of_level.in_tree) same
          (rw (is, a.arrives)
          (goes_left_of_newcomer (room_of M) x G.in_height G.grown (node_at T u) a.held a.gone at_x))
