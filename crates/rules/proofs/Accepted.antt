-- Demand 2 for every height, table and call.
use mathlib.Core.Path.{◌≡◌, refl, sym, ap, ◌∙◌, subst, fun_ext}
use mathlib.Core.Bool.{Bool, true, false, not, cond, false≢true}
use mathlib.Core.List.{List, ◌∷◌, ◌++◌}
use mathlib.Core.Logic.{◌⊎◌, inl, inr, ◌↔◌}
use mathlib.Core.Option.{Option, some, none}
use Prim.Native.Nat.{ℕ, suc, ◌+◌, ◌≤◌, ◌<◌}
use native.Mathlib.Omega.{arith}
use native.Mathlib.Decide.{ℕ_discrete}
use borrow.Author.Tests.{eqb-true, eqb-false, eq-eqb, not-false}
use lib.Dec.{eqb, ltb}
use lib.ListN.{length, get_or, set}
use Rattle.tree.specs.Node.{level}
use Rattle.tree.specs.Held.{Nodes, sizes, one_if}
use Rattle.layout.specs.Set.{layout_set}
use Rattle.layout.specs.Change.{one_block_more}
use Rattle.layout.proofs.Theorems.{layout_has_counts}
use Rattle.table.specs.Table.{node_at, occupied, in_order?, InOrder}
use Rattle.table.specs.Pairing.{moved, moves_of}
use Rattle.table.specs.Paired.{Mover, MoversPaired, MoversFill, NewcomerPaired}
use Rattle.plans.specs.Plan.{no_move}
use Rattle.table.specs.declared.Move.{Move}
use Rattle.table.proofs.Occupied.{occupied_within}
use Rattle.table.proofs.Order.{in_order_iff, in_order_counts}
use Rattle.table.proofs.Moved.{Movable, moved_nothing, moved_level, moved_holds, moved_stays}
use Rattle.table.proofs.Newcomer.{newcomer_level, newcomer_above_zero}
use Rattle.table.proofs.Moves.{Moves, moves_in_list, move_of, one_move_each}
use Rattle.table.proofs.Paired.{movers_paired, movers_fill, newcomer_paired}
use Rattle.carrying.specs.Carrying.{Workable}
use Rattle.carrying.specs.Order.{moves_in_order}
use Rattle.carrying.proofs.Moving.{Unsorted}
use Rattle.carrying.proofs.Ordered.{in_order_length, in_order_entry, in_order_has, in_order_once}
use Rattle.carrying.proofs.Workable.{in_order_workable}
use Rattle.rules.specs.Call.{Call, tenant_of}
use Rattle.rules.specs.Step.{Outcome, first, check, validity, counts_but, holdings, checks, granted, repeated, released, refused, step}
use Rattle.rules.specs.History.{Book, enter, gave_block, in_table}
use Rattle.rules.specs.Demand.{Agrees, Asks, Releases, Grows}
use Rattle.rules.specs.Accepted.{Shifted, Settled, Placed, AfterGrant, AfterRepetition, AfterRelease, AfterGrowth, Gave, Demand2}
use Rattle.rules.proofs.Checks.{Sound, first_of_sound, answer_is_first, validity_numbered, not_applied, rest_zero, height_passed}
use Rattle.rules.proofs.Checks.{length_passed}
use Rattle.rules.proofs.OneKind.{grants_do_not_release, grants_do_not_grow, releases_do_not_grow, one_level_asked, one_level_grown, at_most_7}
use Rattle.rules.proofs.OneKind.{entered_grant}
use Rattle.rules.proofs.Room.{count_one_more}
use Rattle.std.proofs.Math.Nat.{pos_of_ne-zero}
use Rattle.rules.proofs.Given.{step_refuses}
use Rattle.rules.proofs.Repeats.{gave_none, gave_by_nodes}
use Rattle.rules.proofs.Kept.{Kept}
use Rattle.rules.proofs.Struck.{node_after_set, node_beside_set}
use Rattle.rules.proofs.Placing.{Coming, new_sizes, coming_movable, coming_one_more, coming_newcomer, coming_others, coming_occupies}
use Rattle.rules.proofs.Placing.{coming_in_order}
use Rattle.rules.proofs.Releasing.{release_movable, release_in_order, release_occupies, counts_before, level_in_fewer, fewer_counts_fit}
use Rattle.rules.proofs.Releasing.{fewer_sizes}
use Rattle.rules.proofs.Same.{same_level_unchanged}
use Rattle.rules.proofs.Answers.{holder_repeats}
use Rattle.rules.proofs.Cases.{both_zero, Granted, Repeated, Released, Grown, repeated_unchanged}
use Rattle.rules.proofs.Cases.{Case, by_grant, by_repetition, by_release, by_growth, by_refusal, case}
use Rattle.rules.proofs.Box.{of_grant, of_growth, report, kept_by_call}

pub kept_of_order : (h : ℕ) (T : List ℕ) → h ≤ 12 → length T ≡ 4096 → InOrder h T → Kept h T (in_table h T)
kept_of_order h T q e o = record { height = q; entries = e; in_order = o; agrees = λ t. go t (eqb (node_at T t) 0) refl }
  where
    go : (t : ℕ) (b : Bool) → eqb (node_at T t) 0 ≡ b → Agrees h (cond b none (some (level h (node_at T t)))) (node_at T t)
    go t true p = eqb-true (node_at T t) 0 p
    go t false p = (record { above_zero = pos_of_ne-zero (eqb-false (node_at T t) 0 p); in_height = o.in_tree t }, refl)

-- an accepted call has passed 1, 2 and 7
pub sound_if_accepted : (h : ℕ) (T : List ℕ) (c : Call) → (step h T c).answer ≡ 0 → Sound h T
sound_if_accepted h T c e =
    let z : first (checks h T c) ≡ 0 = sym (answer_is_first h T c) ∙ e in
    let table_on = check 7 (not (in_order? h T)) ∷ holdings h T c in
    let length_on = check 2 (not (eqb (length T) 4096)) ∷ (validity h c ++ table_on) in
    let z₂ = rest_zero 1 (ltb 12 h) length_on (omega arith) z in
    let z₃ = rest_zero 2 (not (eqb (length T) 4096)) (validity h c ++ table_on) (omega arith) z₂ in
    let z₇ = (both_zero (validity h c) table_on (validity_numbered h c) z₃).1 in
    record {
      height = height_passed h length_on z;
      entries = length_passed T (validity h c ++ table_on) z₂;
      in_order = not-false (in_order? h T) (not_applied 7 (not (in_order? h T)) (holdings h T c) (omega arith) z₇);
    }

-- and 3 to 6
valid_if_accepted : (h : ℕ) (T : List ℕ) (c : Call) → (step h T c).answer ≡ 0 → first (validity h c) ≡ 0
valid_if_accepted h T c e =
    let z = sym (first_of_sound h T c (sound_if_accepted h T c e)) ∙ sym (answer_is_first h T c) ∙ e in
    (both_zero (validity h c) (holdings h T c) (validity_numbered h c) z).0

module _ {h : ℕ} {N : Nodes} {T₁ : List ℕ} (M : Movable h N T₁) (T : List ℕ) (t : ℕ) (out : node_at T₁ t ≡ 0)
    (before : (u : ℕ) → ¬ (u ≡ t) → node_at T₁ u ≡ node_at T u) (o : Outcome)
    (after : (u : ℕ) → ¬ (u ≡ t) → node_at o.table u ≡ node_at (moved h N T₁) u)
    (few : length (moves_of h N T₁) ≤ 7) (moves : o.moves ≡ moves_in_order h (moves_of h N T₁)) (order : InOrder h o.table)
    (occupies : (n : ℕ) → occupied o.table n ≡ N n) where
  listed_shifted : (m : _) → Moves h N T₁ m → Shifted t T o.table m
  listed_shifted m v =
      let other : ¬ (m.tenant ≡ t) = λ e. omega (arith, v.from_above_zero, v.from_is, ap (node_at T₁) e, out) in
      record {
        other = other;
        old = v.from_is ∙ before m.tenant other;
        new = v.to_is ∙ sym (after m.tenant other);
        had_one = v.from_above_zero;
        has_one = v.to_above_zero;
        differ = v.differ;
      }

  at_place : (i : ℕ) → i < length (moves_of h N T₁) → Shifted t T o.table (get_or (moves_of h N T₁) i no_move)
  at_place i q = listed_shifted (get_or (moves_of h N T₁) i no_move) (moves_in_list M no_move i q)

  still_holding : (u : ℕ) → ¬ (u ≡ t) → 0 < node_at T u → 0 < node_at o.table u
  still_holding u ne p = rw (after u ne) (moved_holds M u (rw (before u ne) p))

  still_empty : (u : ℕ) → ¬ (u ≡ t) → node_at T u ≡ 0 → node_at o.table u ≡ 0
  still_empty u ne z = after u ne ∙ moved_nothing M u (before u ne ∙ z)

  move_of_mover : (u : ℕ) → Mover t T o.table u → (i : ℕ) × (i < length (moves_of h N T₁)) × ((get_or (moves_of h N T₁) i no_move).tenant ≡ u)
  move_of_mover u m =
      let ne = m.other in
      move_of M no_move u (rw (before u ne) m.had_one) (λ e. m.differ (after u ne ∙ e ∙ before u ne))

  movers : Unsorted h t T o.table (moves_of h N T₁)
  movers = record {
    standing = one_move_each M no_move;
    few = few;
    listed = λ i q. let s = at_place i q in record {
      other = s.other;
      had_one = subst (λ (n : ℕ). 0 < n) s.old s.had_one;
      differ = λ e. s.differ (s.old ∙ sym e ∙ sym s.new);
    };
    old = λ i q. (at_place i q).old;
    new = λ i q. (at_place i q).new;
    all_listed = move_of_mover;
    new_within = occupied_within h o.table order.in_tree;
    new_legal = order.legal;
    new_once = order.once;
    still_holds = still_holding;
    still_nothing = still_empty;
  }

  -- an entry of the list has a mover's numbers
  shifted_by : (m m' : Move) → m.tenant ≡ m'.tenant → m.from ≡ m'.from → m.to ≡ m'.to → Shifted t T o.table m' → Shifted t T o.table m
  shifted_by m m' tenant old new s = record {
    other = λ e. s.other (sym tenant ∙ e);
    old = old ∙ s.old ∙ ap (node_at T) (sym tenant);
    new = new ∙ s.new ∙ ap (node_at o.table) (sym tenant);
    had_one = rw old s.had_one;
    has_one = rw new s.has_one;
    differ = λ e. s.differ (sym old ∙ e ∙ new);
  }

  in_list : (i : ℕ) → i < length (moves_in_order h (moves_of h N T₁)) → Shifted t T o.table (get_or (moves_in_order h (moves_of h N T₁)) i no_move)
  in_list i q =
      let e = in_order_entry h (moves_of h N T₁) i q in
      shifted_by (get_or (moves_in_order h (moves_of h N T₁)) i no_move) (get_or (moves_of h N T₁) e.0 no_move) e.2 e.3 e.4 (at_place e.0 e.1)

  in_list_of : (u : ℕ) → Mover t T o.table u
      → (i : ℕ) × (i < length (moves_in_order h (moves_of h N T₁))) × ((get_or (moves_in_order h (moves_of h N T₁)) i no_move).tenant ≡ u)
  in_list_of u m =
      let j = move_of_mover u m in
      let i = in_order_has h (moves_of h N T₁) j.0 j.1 in
      (i.0, i.1, i.2 ∙ j.2)

  settled : Settled h t T o
  settled = record {
    within = occupied_within h o.table order.in_tree;
    legal = order.legal;
    safe = order.safe;
    stays = λ u ne p q. after u ne ∙ moved_stays M u (rw (before u ne) (sym (occupies (node_at T u)) ∙ q)) ∙ before u ne;
    same_level = λ u ne p. ap (level h) (after u ne) ∙ moved_level M u (rw (before u ne) p) ∙ ap (level h) (before u ne);
    still_holds = still_holding;
    still_nothing = still_empty;
    movers_paired = subst (λ (A : Nodes). MoversPaired h A t T o.table) (sym (fun_ext occupies)) (movers_paired M t T o.table out before after);
    listed = λ i q. rw moves (in_list i (rw (← moves) q));
    all_listed = λ u ne p d. rw moves (in_list_of u (record { other = ne; had_one = p; differ = d }));
    once = λ i j p q e. in_order_once h (moves_of h N T₁) (one_move_each M no_move) i j (rw (← moves) p) (rw (← moves) q) (rw moves at e);
    workable = subst (Workable h t T o.table) (sym moves) (in_order_workable h t T o.table (moves_of h N T₁) movers);
  }

module _ (h : ℕ) (T : List ℕ) (c : Call) (e : (step h T c).answer ≡ 0) where
  the_sound : Sound h T
  the_sound = sound_if_accepted h T c e

  pub the_kept : Kept h T (in_table h T)
  the_kept =
      kept_of_order h T the_sound.height the_sound.entries ((in_order_iff h T the_sound.height).0 the_sound.in_order)

  -- the table afterwards is in order too, so that both say whether the call gave a block
  pub given_by_nodes : Gave h T c ↔ ((node_at T (tenant_of c) ≡ 0) × (0 < node_at (step h T c).table (tenant_of c)))
  given_by_nodes =
      let t = tenant_of c in
      let T' = (step h T c).table in
      let K = kept_by_call h T (in_table h T) the_kept c in
      let after = kept_of_order h T' K.height K.entries K.in_order in
      gave_by_nodes h (in_table h T t) (in_table h T' t) (node_at T t) (node_at T' t) (the_kept.agrees t) (after.agrees t)

  few_moves : length (step h T c).moves ≤ 7
  few_moves = omega (arith, (report h T (in_table h T) the_kept c).few, at_most_7 c)

  -- one that comes onto level l of S, which is T or T with its entry struck out
  module _ {l : ℕ} {S cs : List ℕ} (C : Coming h T (tenant_of c) l S cs)
      (outcome : step h T c ≡ granted h S (layout_set h (one_block_more cs l)) (tenant_of c) l) where
    abbrev came : Outcome
    came = granted h S (layout_set h (one_block_more cs l)) (tenant_of c) l

    few_listed : length (moves_of h (layout_set h (one_block_more cs l)) S) ≤ 7
    few_listed = rw (← in_order_length h (moves_of h (layout_set h (one_block_more cs l)) S)) (rw outcome at few_moves)

    came_settled : Settled h (tenant_of c) T came
    came_settled =
        settled (coming_movable C) T (tenant_of c) C.out C.beside came (coming_others C) few_listed refl (coming_in_order C) (coming_occupies C)

    came_sized : (m : ℕ) → sizes h (occupied came.table) m ≡ sizes h (occupied S) m + one_if (eqb m l)
    came_sized m = ap (λ (A : Nodes). sizes h A m) (fun_ext (coming_occupies C)) ∙ new_sizes C m

    came_placed : Placed h T (tenant_of c) l came
    came_placed = record {
      newcomer = coming_newcomer C;
      on_level = newcomer_level (coming_movable C) (coming_one_more C);
      a_node = newcomer_above_zero (coming_movable C) (coming_one_more C);
      newcomer_paired = subst (λ (A : Nodes). NewcomerPaired h A (tenant_of c) T came.table) (sym (fun_ext (coming_occupies C)))
          (newcomer_paired (coming_movable C) (tenant_of c) T came.table C.out C.beside (coming_others C) (coming_one_more C)
          (coming_newcomer C));
    }

  pub after_grant : (l : ℕ) → Granted h T c l → AfterGrant h T (tenant_of c) l (step h T c)
  after_grant l g =
      let C = of_grant h T (in_table h T) the_kept c l g in
      rw g.outcome (record {
        settled = came_settled C g.outcome;
        sized = came_sized C g.outcome;
        had_nothing = g.nothing;
        placed = came_placed C g.outcome;
      })

  -- without t's block there is one fewer at its level
  struck_sized : 0 < node_at T (tenant_of c) → tenant_of c < 4096
      → (m : ℕ) → get_or (counts_but h T (tenant_of c)) m 0 + one_if (eqb m (level h (node_at T (tenant_of c)))) ≡ sizes h (occupied T) m
  struck_sized holds q m =
      let t = tenant_of c in
      let x = level h (node_at T t) in
      sym (count_one_more (counts_but h T t) x (level_in_fewer h T (in_table h T) the_kept t q holds) m)
      ∙ ap (λ (cs : List ℕ). get_or cs m 0) (counts_before h T (in_table h T) the_kept t q holds)
      ∙ sym (in_order_counts h T the_kept.height the_kept.in_order m)

  after_growth : (l : ℕ) → Grown h T c l → AfterGrowth h T (tenant_of c) l (step h T c)
  after_growth l g =
      let C = of_growth h T (in_table h T) the_kept c l g in
      rw g.outcome (record {
        settled = came_settled C g.outcome;
        sized = λ m. omega (arith, came_sized C g.outcome m, C.standing.sized m, struck_sized g.holds g.tenant m);
        had_one = g.holds;
        placed = came_placed C g.outcome;
        same_level = λ same. same_level_unchanged h T (in_table h T) the_kept (tenant_of c) g.tenant g.holds l same C;
      })

  after_release : Released h T c → AfterRelease h T (tenant_of c) (step h T c)
  after_release r =
      let t = tenant_of c in
      let B = in_table h T in
      let K = the_kept in
      let M = release_movable h T B K t r.tenant r.holds in
      let order = release_in_order h T B K t r.tenant r.holds in
      let occupies = release_occupies h T B K t r.tenant r.holds in
      let q : t < length T = rw K.entries r.tenant in
      let out = node_after_set T t 0 q in
      let N = layout_set h (counts_but h T t) in
      let has_counts = layout_has_counts h (counts_but h T t) (fewer_counts_fit h T B K t r.tenant r.holds) in
      let few : length (moves_of h N (set T t 0)) ≤ 7 = rw (← in_order_length h (moves_of h N (set T t 0))) (rw r.outcome at few_moves) in
      let o : Outcome = released h T N t in
      rw r.outcome (record {
        settled = settled M T t out (node_beside_set T t 0) o (λ u ne. refl) few refl order occupies;
        sized = λ m. omega (arith, ap (λ (A : Nodes). sizes h A m) (fun_ext occupies), has_counts m, struck_sized r.holds r.tenant m);
        given_up = refl;
        a_node = r.holds;
        struck_out = moved_nothing M t out;
        movers_fill = subst (λ (A : Nodes). MoversFill A t T o.table) (sym (fun_ext occupies))
            (movers_fill M t T o.table out (node_beside_set T t 0) (λ u ne. refl)
            (fewer_sizes h T B K t r.tenant r.holds));
      })

-- a refused call gives nothing
accepted_if_gave : (h : ℕ) (T : List ℕ) (c : Call) → Gave h T c → (step h T c).answer ≡ 0
accepted_if_gave h T c gave = go (ℕ_discrete (step h T c).answer 0)
  where
    entry : List ℕ → Option ℕ
    entry S = in_table h S (tenant_of c)

    go : Dec ((step h T c).answer ≡ 0) → (step h T c).answer ≡ 0
    go (yes e) = e
    go (no ne) =
        let same = ap (λ (o : Outcome). gave_block (entry T) (entry o.table)) (step_refuses h T c ne) in
        absurd (false≢true (sym (same ∙ gave_none (entry T)) ∙ gave))

pub demand_2 : (h : ℕ) (T : List ℕ) (c : Call) → Demand2 h T c
demand_2 h T c = record {
  grant = λ l a g. granted_by l (given g).0 (given g).1 (asked l a (given g).0 (cased (given g).0));
  repetition = λ l a e not_given. repeated_by l e not_given (asked l a e (cased e));
  gives = λ g. ((given g).0, given_by (given g).0 (given g).1 (cased (given g).0));
  again = λ l a e. again_by l a e (names_its_node l e (asked l a e (cased e)));
  release = λ r e. released_by r e (cased e);
  growth = λ l g e. grown_by l g e (cased e);
}
  where
    cased : (step h T c).answer ≡ 0 → Case h T c
    cased e = case h T (sound_if_accepted h T c e) c

    -- an accepted call, to one that had nothing
    given : Gave h T c → ((step h T c).answer ≡ 0) × (node_at T (tenant_of c) ≡ 0)
    given g = let e = accepted_if_gave h T c g in (e, ((given_by_nodes h T c e).0 g).0)

    held_before : 0 < node_at T (tenant_of c) → node_at T (tenant_of c) ≡ 0 → ⊥
    held_before p z = omega arith

    refused_not : (n : ℕ) → (step h T c).answer ≡ 0 → step h T c ≡ refused (suc n) T → ⊥
    refused_not n e o = omega (arith, e, ap (λ (x : Outcome). x.answer) o)

    -- an accepted grant gives a block, or is a repeated one
    asked : (l : ℕ) → Asks h c l → (step h T c).answer ≡ 0 → Case h T c → Granted h T c l ⊎ Repeated h T c l
    asked l a e (by_grant k g) = inl (subst (Granted h T c) (one_level_asked h c k l g.asks a) g)
    asked l a e (by_repetition k r) = inr (subst (Repeated h T c) (one_level_asked h c k l r.asks a) r)
    asked l a e (by_release r) = absurd (grants_do_not_release h c l a r.asks)
    asked l a e (by_growth k g) = absurd (grants_do_not_grow h c l k a g.asks)
    asked l a e (by_refusal n o) = absurd (refused_not n e o)

    granted_by : (l : ℕ) → (step h T c).answer ≡ 0 → node_at T (tenant_of c) ≡ 0 → Granted h T c l ⊎ Repeated h T c l
        → AfterGrant h T (tenant_of c) l (step h T c)
    granted_by l e z (inl g) = after_grant h T c e l g
    granted_by l e z (inr r) = absurd (held_before r.holds z)

    repeated_by : (l : ℕ) → (step h T c).answer ≡ 0 → ¬ Gave h T c → Granted h T c l ⊎ Repeated h T c l
        → AfterRepetition h T (tenant_of c) l (step h T c)
    repeated_by l e not_given (inl g) =
        let p = (after_grant h T c e l g).placed in
        absurd (not_given ((given_by_nodes h T c e).1 (g.nothing, rw p.newcomer p.a_node)))
    repeated_by l e not_given (inr r) = record { had_one = r.holds; on_level = r.same; unchanged = repeated_unchanged r }

    given_by : (step h T c).answer ≡ 0 → node_at T (tenant_of c) ≡ 0 → Case h T c → (l : ℕ) × Asks h c l
    given_by e z (by_grant k g) = (k, g.asks)
    given_by e z (by_repetition k r) = (k, r.asks)
    given_by e z (by_release r) = absurd (held_before r.holds z)
    given_by e z (by_growth k g) = absurd (held_before g.holds z)
    given_by e z (by_refusal n o) = absurd (refused_not n e o)

    -- the table has the node that a grant names
    names_its_node : (l : ℕ) → (step h T c).answer ≡ 0 → Granted h T c l ⊎ Repeated h T c l
        → node_at (step h T c).table (tenant_of c) ≡ (step h T c).node
    names_its_node l e (inl g) = (after_grant h T c e l g).placed.newcomer
    names_its_node l e (inr r) =
        let u = repeated_unchanged r in
        ap (λ (S : List ℕ). node_at S (tenant_of c)) u.table ∙ sym u.node

    -- and the book has its level, so that the same grant is a repeated one
    again_by : (l : ℕ) → Asks h c l → (step h T c).answer ≡ 0 → node_at (step h T c).table (tenant_of c) ≡ (step h T c).node
        → step h (step h T c).table c ≡ repeated (step h T c).table (step h T c).node
    again_by l a e same =
        let t = tenant_of c in
        let T' = (step h T c).table in
        let B = in_table h T in
        let written : enter h c (step h T c).answer B t ≡ some l =
        ap (λ (n : ℕ). enter h c n B t) e ∙ ap (λ (b : Book). b t) (entered_grant h c l a B) ∙ rw (eq-eqb t t refl) in
        let u = holder_repeats h T' (enter h c (step h T c).answer B) (kept_by_call h T B (the_kept h T c e) c) c l a
        (valid_if_accepted h T c e) written in
        λ i. record { answer = u.answer i; node = (u.node ∙ same) i; moves = u.moves i; table = u.table i }

    released_by : Releases c → (step h T c).answer ≡ 0 → Case h T c → AfterRelease h T (tenant_of c) (step h T c)
    released_by r e (by_grant k g) = absurd (grants_do_not_release h c k g.asks r)
    released_by r e (by_repetition k g) = absurd (grants_do_not_release h c k g.asks r)
    released_by r e (by_release d) = after_release h T c e d
    released_by r e (by_growth k g) = absurd (releases_do_not_grow h c k r g.asks)
    released_by r e (by_refusal n o) = absurd (refused_not n e o)

    grown_by : (l : ℕ) → Grows c l → (step h T c).answer ≡ 0 → Case h T c → AfterGrowth h T (tenant_of c) l (step h T c)
    grown_by l g e (by_grant k d) = absurd (grants_do_not_grow h c k l d.asks g)
    grown_by l g e (by_repetition k d) = absurd (grants_do_not_grow h c k l d.asks g)
    grown_by l g e (by_release d) = absurd (releases_do_not_grow h c l d.asks g)
    grown_by l g e (by_growth k d) =
        subst (λ (j : ℕ). AfterGrowth h T (tenant_of c) j (step h T c)) (one_level_grown h c k l d.asks g) (after_growth h T c e k d)
    grown_by l g e (by_refusal n o) = absurd (refused_not n e o)
