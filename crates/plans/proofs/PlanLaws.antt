-- What a caller of the planner uses: that it may be asked for the layouts of counts that fit, and that its plan is the table's list of moves.
use mathlib.Core.Path.{◌≡◌, refl, sym, ap, ap₂, ◌∙◌, fun_ext}
use mathlib.Core.Bool.{true, not, ◌&&◌, cond, and-true, and-eq-true_iff}
use mathlib.Core.Logic.{⊎_elim}
use mathlib.Core.List.{List, [], ◌∷◌, map}
use mathlib.Core.List.Memᴰ.{head as at_head}
use mathlib.Core.List.Memᴰ.{tail as in_Tail}
use mathlib.Core.List.{Memᴰ as In}
use Prim.Native.Nat.{ℕ, suc, ◌-◌, ◌^◌, ◌≤◌, ◌<◌}
use native.Mathlib.Omega.{arith}
use borrow.Author.Tests.{ne_eqb, eqb-false, not-true}
use lib.Dec.{eqb, leb}
use lib.ListN.{length, get_or, set, length-map}
use lib.Seq.{get_or-set_same, get_or-set_other}
use Rattle.tree.specs.Held.{Nodes}
use Rattle.tree.proofs.Count.{equal_of_both_ways}
use Rattle.layout.specs.Layout.{pages}
use Rattle.layout.specs.Set.{layout_set}
use Rattle.layout.specs.Rows.{rows_of, holds_node}
use Rattle.layout.proofs.RowsWithin.{run_in_tree, lone_in_tree}
use Rattle.layout.proofs.Rows.{rows_hold_layout}
use Rattle.table.specs.Table.{node_at, occupied, counts_of, InOrder}
use Rattle.table.specs.Pairing.{Shift, shifts, newcomer, owner_of, moves_of}
use Rattle.table.specs.Owners.{owners_of}
use Rattle.plans.specs.Plan.{plan_of, move_of, nodes_but, shifts_of, newcomer_on, LevelWithin, Plannable, AllPlanned}
use Rattle.plans.specs.declared.Planned.{Planned}
use Rattle.table.proofs.Order.{in_order_fits, in_order_is_layout}
use Rattle.table.proofs.Occupied.{tenant_of, occupied_above_zero, occupied_by, occupied_within, owner_has}
use Rattle.table.proofs.Tally.{Once}
use Rattle.table.proofs.Owners.{owner_is_tenant}
use Rattle.table.proofs.Levels.{tree_below_8192}
use Rattle.table.proofs.Shifts.{old_of_shift}
use Rattle.table.proofs.Moved.{Movable, room_of}

-- ---- the rows of a layout

-- the rows of counts that fit lie in the tree
rows_within : (h : ℕ) (cs : List ℕ) → pages cs ≤ 2 ^ h → (l : ℕ) → l ≤ h → LevelWithin (2 ^ (h - l)) (rows_of cs) l
rows_within h cs fits l q =
    record {
      run_within = run_in_tree h cs fits l q;
      lone_within = λ some. ⊎_elim (λ none. absurd (omega arith)) (λ inside. inside) (lone_in_tree h cs fits l q);
    }

-- ---- a table with one entry struck out

-- the array has the tenant and one at each occupied node
abbrev pub Owned : List ℕ → List ℕ → Type 0
Owned T owners = (n : ℕ) → occupied T n ≡ true → get_or owners n 0 ≡ suc (owner_of T n)

module _ (T : List ℕ) (t : ℕ) (once : Once T) (in_table : t < length T) where
  -- whoever has a node afterwards is not t, and had it before
  had_before : (n u : ℕ) → 0 < n → node_at (set T t 0) u ≡ n → (¬ (u ≡ t)) × (node_at T u ≡ n)
  had_before n u p e = (other, sym (get_or-set_other T t u 0 0 other) ∙ e)
    where
      other : ¬ (u ≡ t)
      other f = omega (arith, ap (node_at (set T t 0)) f, get_or-set_same T t 0 0 in_table)

  pub struck_occupied : (n : ℕ) → occupied (set T t 0) n ≡ (occupied T n && not (eqb n (node_at T t)))
  struck_occupied n = equal_of_both_ways (occupied (set T t 0) n) (occupied T n && not (eqb n (node_at T t))) there back
    where
      there : occupied (set T t 0) n ≡ true → (occupied T n && not (eqb n (node_at T t))) ≡ true
      there e =
          let p = occupied_above_zero (set T t 0) n e in
          let v = tenant_of (set T t 0) n e in
          let has = had_before n v.0 p v.2 in
          let away : ¬ (n ≡ node_at T t) = λ f. has.0 (once v.0 t (omega arith) (has.1 ∙ f)) in
          rw (ne_eqb n (node_at T t) away, and-true) (rw has.1 at (occupied_by T v.0 (omega arith)))

      back : (occupied T n && not (eqb n (node_at T t))) ≡ true → occupied (set T t 0) n ≡ true
      back e =
          let parts = (and-eq-true_iff (occupied T n) (not (eqb n (node_at T t)))).0 e in
          let away : ¬ (n ≡ node_at T t) = eqb-false n (node_at T t) (not-true (eqb n (node_at T t)) parts.1) in
          let v = tenant_of T n parts.0 in
          let stays : node_at (set T t 0) v.0 ≡ n = get_or-set_other T t v.0 0 0 (λ f. away (sym v.2 ∙ ap (node_at T) f)) ∙ v.2 in
          rw stays at (occupied_by (set T t 0) v.0 (omega (arith, occupied_above_zero T n parts.0)))

  pub struck_owned : (owners : List ℕ) → Owned T owners → Owned (set T t 0) owners
  struck_owned owners owned n e =
      let p = occupied_above_zero (set T t 0) n e in
      let held = ((and-eq-true_iff (occupied T n) (not (eqb n (node_at T t)))).0 (sym (struck_occupied n) ∙ e)).0 in
      let before = owner_has T n held in
      let has = had_before n (owner_of (set T t 0) n) p (owner_has (set T t 0) n e).node_is in
      owned n held ∙ ap suc (once (owner_of T n) (owner_of (set T t 0) n) (omega (arith, before.node_is)) (before.node_is ∙ sym has.1))

-- ---- the plan

map_agrees : {A B : Type 0} (f g : A → B) (xs : List A) → ((x : A) → In x xs → f x ≡ g x) → map f xs ≡ map g xs
map_agrees f g [] same = refl
map_agrees f g (x ∷ xs) same = ap₂ ◌∷◌ (same x (at_head refl)) (map_agrees f g xs (λ y m. same y (in_Tail m)))

-- The tenants of the table T are in the layout of the counts cs, where only the node given up is left free, and go into the layout of ds.
pub record Replan (h : ℕ) (cs ds : List ℕ) (gone : ℕ) (T owners : List ℕ) : Type 0 where
  pub height : h ≤ 12
  pub old_fits : pages cs ≤ 2 ^ h
  pub new_fits : pages ds ≤ 2 ^ h
  pub held : (n : ℕ) → nodes_but h (rows_of cs) gone n ≡ occupied T n
  pub owned : Owned T owners
  pub movable : Movable h (layout_set h ds) T
  pub few : length (moves_of h (layout_set h ds) T) ≤ 7

module _ {h : ℕ} {cs ds : List ℕ} {gone : ℕ} {T owners : List ℕ} (p : Replan h cs ds gone T owners) where
  old_nodes : nodes_but h (rows_of cs) gone ≡ occupied T
  old_nodes = fun_ext p.held

  new_nodes : holds_node (rows_of ds) h ≡ layout_set h ds
  new_nodes = fun_ext (λ n. rows_hold_layout h ds n p.height)

  moves_of_table : map (move_of owners) (shifts_of h (rows_of cs) (rows_of ds) gone) ≡ moves_of h (layout_set h ds) T
  unfolding moves_of
  moves_of_table =
      ap (map (move_of owners)) (ap₂ (shifts h) old_nodes new_nodes)
      ∙ map_agrees (move_of owners) _ (shifts h (occupied T) (layout_set h ds)) same
    where
      same : (s : Shift) → In s (shifts h (occupied T) (layout_set h ds))
          → move_of owners s ≡ record { tenant = owner_of T s.from; from = s.from; to = s.to; staged = 0 }
      same s m =
          let tenant : get_or owners s.from 0 - 1 ≡ owner_of T s.from =
          omega (arith, p.owned s.from (old_of_shift (room_of p.movable) s m).0) in
          rw tenant

  count_of_table : length (shifts_of h (rows_of cs) (rows_of ds) gone) ≡ length (moves_of h (layout_set h ds) T)
  count_of_table = sym (length-map (shifts_of h (rows_of cs) (rows_of ds) gone) (move_of owners)) ∙ ap length moves_of_table

  pub plannable : Plannable h (rows_of cs) (rows_of ds) gone owners
  plannable =
      record {
        height = p.height;
        old_within = rows_within h cs p.old_fits;
        new_within = rows_within h ds p.new_fits;
        owned = λ n e. omega (arith, p.owned n (sym (p.held n) ∙ e));
        few = rw count_of_table p.few;
      }

  -- the plan is that of the table's moves, and its node the newcomer's
  pub plan_of_table : (x : ℕ) (r : Planned) → AllPlanned h (rows_of cs) (rows_of ds) gone x owners r
      → (r.plan ≡ plan_of (moves_of h (layout_set h ds) T))
      × (r.node ≡ cond (leb x h) (newcomer h (occupied T) (layout_set h ds) x) 0)
  plan_of_table x r q = (q.plan ∙ ap plan_of moves_of_table, q.node ∙ same_newcomer)
    where
      same_newcomer : newcomer_on h (rows_of cs) (rows_of ds) gone x ≡ cond (leb x h) (newcomer h (occupied T) (layout_set h ds) x) 0
      same_newcomer = ap₂ (λ (S N : Nodes). cond (leb x h) (newcomer h S N x) 0) old_nodes new_nodes

-- ---- the plan of a call

module _ (h : ℕ) (T : List ℕ) (low : h ≤ 12) (order : InOrder h T) where
  rows_of_table : (n : ℕ) → holds_node (rows_of (counts_of h T)) h n ≡ occupied T n
  rows_of_table n = rows_hold_layout h (counts_of h T) n low ∙ sym (in_order_is_layout h T low order n)

  -- the owners that the pass over the table stores
  stored_owners : Owned T (owners_of 8192 T)
  stored_owners n e =
      let below = (occupied_within h T order.in_tree n e).in_height in
      owner_is_tenant T n e 8192 (omega (arith, tree_below_8192 h low)) order.once

  -- tenant t is out of the way, if it held anything, and the others go into the layout of any counts that they fit in
  pub replan : (t : ℕ) (ds : List ℕ) → t < length T → pages ds ≤ 2 ^ h
      → Movable h (layout_set h ds) (set T t 0) → length (moves_of h (layout_set h ds) (set T t 0)) ≤ 7
      → Replan h (counts_of h T) ds (node_at T t) (set T t 0) (owners_of 8192 T)
  unfolding nodes_but
  replan t ds in_table fits movable few =
      record {
        height = low;
        old_fits = in_order_fits h T low order;
        new_fits = fits;
        held = λ n. ap (λ b. b && not (eqb n (node_at T t))) (rows_of_table n) ∙ sym (struck_occupied T t order.once in_table n);
        owned = struck_owned T t order.once in_table (owners_of 8192 T) stored_owners;
        movable = movable;
        few = few;
      }
