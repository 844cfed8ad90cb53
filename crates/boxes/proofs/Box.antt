-- One box has everything that documents 01 and 02 promise of it after a history.
use mathlib.Core.Path.{◌≡◌, refl, sym, ap, subst, ◌∙◌}
use mathlib.Core.Bool.{Bool, true, false, false≢true}
use mathlib.Core.List.{[]}
use mathlib.Core.Logic.{◌⊎◌, inl, inr, ◌↔◌}
use mathlib.Core.Option.{some, none}
use Prim.Native.Nat.{ℕ, suc, ◌≤◌, ◌<◌}
use native.Mathlib.Nat.{le_antisymm}
use native.Mathlib.Omega.{arith}
use native.Mathlib.Decide.{dec_lt}
use borrow.Author.Tests.{eq-eqb, ne_eqb, lt-ltb}
use lib.ListN.{length}
use Rattle.table.specs.Table.{node_at}
use Rattle.line.specs.Line.{waiting_in}
use Rattle.line.specs.Order.{waits}
use Rattle.line.specs.Changes.{barred}
use Rattle.line.proofs.Ordered.{orderly_at}
use Rattle.line.proofs.Places.{seldom_unless_barred}
use Rattle.rules.specs.Call.{Call as Direct, tenant_of}
use Rattle.rules.specs.Step.{Outcome as TableOutcome, first, validity, step as table_step}
use Rattle.rules.specs.History.{enter as enter_holding, gave_block}
use Rattle.rules.specs.Demand.{Valid, Asks, Releases, Grows, NoPlacement, Unchanged, changed, Box as TableBox}
use Rattle.rules.proofs.Box.{box as table_box}
use Rattle.rules.proofs.Answers.{has_node, has_nothing, repeats_by_book}
use Rattle.rules.proofs.OneKind.{grants_do_not_release, grants_do_not_grow}
use Rattle.rules.proofs.Repeats.{never_repeats, gave_none}
use Rattle.admission.specs.Call.{State, direct, admit}
use Rattle.admission.specs.Step.{Outcome, on_table, refused, grant_holdings, step}
use Rattle.admission.proofs.Direct.{release_alone, growth_alone, grant_valid, grant_not_valid}
use Rattle.boxes.specs.History.{Book, reply, enter}
use Rattle.boxes.specs.Demand.{line_by, SomebodyAtEight, Box}
use Rattle.admission.proofs.Ways.{Way, turned_down, given, given_again, given_up, exchanged, way, Kind, a_grant, a_release, a_growth, kind}
use Rattle.admission.proofs.Demand.{demand_2}
use Rattle.admission.proofs.Numbers.{direct_answer, unbarred, admit_refused}
use Rattle.boxes.proofs.Choosing.{at_eight}
use Rattle.boxes.proofs.Kept.{Kept, sound_state}
use Rattle.admission.proofs.Admits.{place_in, chosen_in, grant_to, is_granted, admits_somebody, admits_nobody}
use Rattle.boxes.proofs.Waiting.{orderly, in_line, none_held, name, waiting}

module _ (h : ℕ) (S : State) (B : Book) (K : Kept h S B) where
  -- what holds of the table by itself
  pub of_table : TableBox h S.table B.holdings
  of_table = table_box h S.table B.holdings K.table

  -- a direct call goes as on a table without a line, or is refused
  as_table : (c : Direct) → (on_table (step h S (direct c)) ≡ table_step h S.table c) ⊎ ((n : ℕ) × (step h S (direct c) ≡ refused (suc n) S))
  as_table c = go (way h S (sound_state h S B K) c)
    where
      go : Way h S c → (on_table (step h S (direct c)) ≡ table_step h S.table c) ⊎ ((n : ℕ) × (step h S (direct c) ≡ refused (suc n) S))
      go (turned_down n e) = inr (n, e)
      go (given l g not_waiting nobody_at_eight e) = inl (ap on_table e)
      go (given_again l r e) = inl (ap on_table e)
      go (given_up r e) = inl (ap on_table e)
      go (exchanged l g e) = inl (ap on_table e)

  release_as_table : (c : Direct) → Releases c → on_table (step h S (direct c)) ≡ table_step h S.table c
  release_as_table c r = ap on_table (release_alone h S c r)

  pub growth_as_table : (c : Direct) (l : ℕ) → Grows c l → on_table (step h S (direct c)) ≡ table_step h S.table c
  growth_as_table c l g = ap on_table (growth_alone h S c l g)

  answer_as : {o o' : TableOutcome} → o ≡ o' → o.answer ≡ o'.answer
  answer_as e = ap (λ (x : TableOutcome). x.answer) e

  -- ---- what grants answer

  grant_answer : (c : Direct) (l : ℕ) → Asks h c l → Valid h c → (step h S (direct c)).answer ≡ first (grant_holdings h S (tenant_of c) l)
  grant_answer c l a v = direct_answer h S c ∙ grant_valid h S (sound_state h S B K) c l a v

  not_valid : (c : Direct) → ¬ Valid h c → (step h S (direct c)).answer ≡ first (validity h c)
  not_valid c v = go (kind h c)
    where
      go : Kind h c → (step h S (direct c)).answer ≡ first (validity h c)
      go (a_grant l a) = direct_answer h S c ∙ grant_not_valid h S (sound_state h S B K) c l a v
      go (a_release r) = answer_as (release_as_table c r) ∙ of_table.not_valid c v
      go (a_growth l g) = answer_as (growth_as_table c l g) ∙ of_table.not_valid c v

  holder_repeats : (c : Direct) (l : ℕ) → Asks h c l → Valid h c → B.holdings (tenant_of c) ≡ some l
      → Unchanged (tenant_of c) S.table (on_table (step h S (direct c))) × ((step h S (direct c)).state.line ≡ S.line)
  holder_repeats c l a v e = go (way h S (sound_state h S B K) c)
    where
      done : (step h S (direct c)).answer ≡ 0
      done =
          grant_answer c l a v
          ∙ rw (repeats_by_book h S.table B.holdings K.table (tenant_of c) l l e, eq-eqb l l refl)

      go : Way h S c → Unchanged (tenant_of c) S.table (on_table (step h S (direct c))) × ((step h S (direct c)).state.line ≡ S.line)
      go (turned_down n o) = absurd (omega (arith, done, ap (λ (x : Outcome). x.answer) o))
      go (given k g not_waiting nobody_at_eight o) =
          absurd (omega (arith, g.nothing, has_node h S.table B.holdings K.table (tenant_of c) l e))
      go (given_again k r o) = rw o (of_table.holder_repeats c l a v e, refl)
      go (given_up r o) = absurd (grants_do_not_release h c l a r.asks)
      go (exchanged k g o) = absurd (grants_do_not_grow h c l k a g.asks)

  holder_asks : (c : Direct) (l k : ℕ) → Asks h c l → Valid h c → B.holdings (tenant_of c) ≡ some k → ¬ (k ≡ l) → (step h S (direct c)).answer ≡ 8
  holder_asks c l k a v e other =
      let t = tenant_of c in
      grant_answer c l a v
      ∙ rw (
        repeats_by_book h S.table B.holdings K.table t l k e,
        ne_eqb k l other,
        lt-ltb 0 (node_at S.table t) (has_node h S.table B.holdings K.table t k e),
      )

  waiting_asks : (c : Direct) (l : ℕ) → Asks h c l → Valid h c → waits (tenant_of c) (line_by B) ≡ true → (step h S (direct c)).answer ≡ 18
  waiting_asks c l a v e =
      let t = tenant_of c in
      let none_there = none_held h S B K t e in
      grant_answer c l a v ∙ rw (never_repeats h S.table t l none_there, none_there, in_line h S B K t true e)

  -- ---- grants to one that neither holds nor waits

  pub unbarred_as_table : (c : Direct) (l : ℕ) → Asks h c l → waits (tenant_of c) (line_by B) ≡ false → barred (line_by B) ≡ false
      → on_table (step h S (direct c)) ≡ table_step h S.table c
  unbarred_as_table c l a out free =
      unbarred h S (sound_state h S B K) c l a (in_line h S B K (tenant_of c) false out) (ap barred K.says ∙ free)

  barred_asks : (c : Direct) (l : ℕ) → Asks h c l → Valid h c → B.holdings (tenant_of c) ≡ none → waits (tenant_of c) (line_by B) ≡ false
      → barred (line_by B) ≡ true → (step h S (direct c)).answer ≡ 10
  barred_asks c l a v e out bars =
      let t = tenant_of c in
      let none_there = has_nothing h S.table B.holdings K.table t e in
      grant_answer c l a v
      ∙ rw (never_repeats h S.table t l none_there, none_there, in_line h S B K t false out, ap barred K.says ∙ bars)

  -- the line is barred exactly if somebody was passed eight times
  somebody_bars : barred (line_by B) ≡ true → SomebodyAtEight (line_by B)
  somebody_bars bars =
      let e = at_eight (line_by B) (record { tenant = 0; level = 0; passed = 0 }) bars in
      (e.0, e.1, le_antisymm (orderly_at h S.table (orderly h S B K) e.0 _ e.1).passed e.2)

  pub nobody_bars : ¬ SomebodyAtEight (line_by B) → barred (line_by B) ≡ false
  nobody_bars none_there = grind (arith, none_there, somebody_bars)

  other_asks : (c : Direct) (l : ℕ) → Asks h c l → Valid h c → B.holdings (tenant_of c) ≡ none → waits (tenant_of c) (line_by B) ≡ false
      → (((step h S (direct c)).answer ≡ 10) ↔ (SomebodyAtEight (line_by B) ⊎ NoPlacement h B.holdings l))
      × (((step h S (direct c)).answer ≡ 10) ⊎ ((step h S (direct c)).answer ≡ 0))
  other_asks c l a v e out = go (barred (line_by B)) refl
    where
      go : (b : Bool) → barred (line_by B) ≡ b
          → (((step h S (direct c)).answer ≡ 10) ↔ (SomebodyAtEight (line_by B) ⊎ NoPlacement h B.holdings l))
          × (((step h S (direct c)).answer ≡ 10) ⊎ ((step h S (direct c)).answer ≡ 0))
      go true bars = let ten = barred_asks c l a v e out bars in ((λ _. inl (somebody_bars bars), λ _. ten), inl ten)
      go false free =
          let same = answer_as (unbarred_as_table c l a out free) in
          let on_its_own = of_table.other_asks c l a v e in
          ((λ ten. inr (on_its_own.0.0 (sym same ∙ ten)), back same on_its_own.0.1), either same on_its_own.1)
        where
          back : (step h S (direct c)).answer ≡ (table_step h S.table c).answer
              → (NoPlacement h B.holdings l → (table_step h S.table c).answer ≡ 10)
              → SomebodyAtEight (line_by B) ⊎ NoPlacement h B.holdings l → (step h S (direct c)).answer ≡ 10
          back same on_its_own (inl at) =
              absurd (omega (arith, at.2, seldom_unless_barred (line_by B) free at.0 (record { tenant = 0; level = 0; passed = 0 }) at.1))
          back same on_its_own (inr none_legal) = same ∙ on_its_own none_legal

          either : (step h S (direct c)).answer ≡ (table_step h S.table c).answer
              → ((table_step h S.table c).answer ≡ 10) ⊎ ((table_step h S.table c).answer ≡ 0)
              → ((step h S (direct c)).answer ≡ 10) ⊎ ((step h S (direct c)).answer ≡ 0)
          either same (inl ten) = inl (same ∙ ten)
          either same (inr done) = inr (same ∙ done)

  -- with nobody in line as on a table without one
  pub unlined_as_table : (c : Direct) (l : ℕ) → line_by B ≡ [] → Asks h c l → on_table (step h S (direct c)) ≡ table_step h S.table c
  unfolding waits barred
  unlined_as_table c l empty a = unbarred_as_table c l a (ap (waits (tenant_of c)) empty) (ap barred empty)

  nobody_in_line : (c : Direct) (l : ℕ) → line_by B ≡ [] → Asks h c l → Valid h c → B.holdings (tenant_of c) ≡ none
      → (((step h S (direct c)).answer ≡ 10) ↔ NoPlacement h B.holdings l)
      × (((step h S (direct c)).answer ≡ 10) ⊎ ((step h S (direct c)).answer ≡ 0))
  nobody_in_line c l empty a v e = rw (answer_as (unlined_as_table c l empty a)) (of_table.other_asks c l a v e)

  gave : (c : Direct)
      → (gave_block (B.holdings (tenant_of c)) (enter_holding h c (step h S (direct c)).answer B.holdings (tenant_of c)) ≡ true)
      ↔ ((node_at S.table (tenant_of c) ≡ 0) × (0 < node_at (step h S (direct c)).state.table (tenant_of c)))
  gave c = go (as_table c)
    where
      go : (on_table (step h S (direct c)) ≡ table_step h S.table c) ⊎ ((n : ℕ) × (step h S (direct c) ≡ refused (suc n) S))
          → (gave_block (B.holdings (tenant_of c)) (enter_holding h c (step h S (direct c)).answer B.holdings (tenant_of c)) ≡ true)
          ↔ ((node_at S.table (tenant_of c) ≡ 0) × (0 < node_at (step h S (direct c)).state.table (tenant_of c)))
      go (inl e) =
          subst (λ (o : TableOutcome). (gave_block (B.holdings (tenant_of c)) (enter_holding h c o.answer B.holdings (tenant_of c)) ≡ true)
          ↔ ((node_at S.table (tenant_of c) ≡ 0) × (0 < node_at o.table (tenant_of c)))) (sym e) (of_table.gave c)
      go (inr e) =
          rw e.1 (λ b. absurd (false≢true (sym (gave_none (B.holdings (tenant_of c))) ∙ b)), λ n. absurd (omega (arith, n.0, n.1)))

  admit_moves : (m t : ℕ) → (step h S (admit m)).named ≡ some t
      → (length (step h S (admit m)).moves ≡ changed t S.table (step h S (admit m)).state.table) × (length (step h S (admit m)).moves ≤ 3)
  admit_moves m t named = by_entries (dec_lt m 4)
    where
      nobody_named : (o : Outcome) → step h S (admit m) ≡ o → o.named ≡ none → ⊥
      nobody_named o e n = omega (arith, ap name (sym n ∙ sym (ap (λ (x : Outcome). x.named) e) ∙ named))

      by_place : 4 ≤ m → Dec (place_in h S < length (waiting_in S.line))
          → (length (step h S (admit m)).moves ≡ changed t S.table (step h S (admit m)).state.table) × (length (step h S (admit m)).moves ≤ 3)
      by_place enough (yes there) =
          let o = admits_somebody h S (sound_state h S B K) m enough there in
          let g = is_granted h S (sound_state h S B K) m enough there in
          let c = grant_to (chosen_in h S) m in
          let is : (chosen_in h S).tenant ≡ t = omega (arith, ap name (sym (ap (λ (x : Outcome). x.named) o) ∙ named)) in
          rw (o, ← is)
          (of_table.moves c, of_table.grant_moves c (chosen_in h S).level g.asks (ap (λ (x : TableOutcome). x.answer) g.outcome))
      by_place enough (no out) = absurd (nobody_named _ (admits_nobody h S (sound_state h S B K) m enough out) refl)

      by_entries : Dec (m < 4)
          → (length (step h S (admit m)).moves ≡ changed t S.table (step h S (admit m)).state.table) × (length (step h S (admit m)).moves ≤ 3)
      by_entries (yes few) = absurd (nobody_named _ (admit_refused h S (sound_state h S B K) m few) refl)
      by_entries (no enough) = by_place (omega arith) (dec_lt (place_in h S) (length (waiting_in S.line)))

  book_stays : (c : Direct) (l k : ℕ) → Asks h c l → Valid h c → B.holdings (tenant_of c) ≡ some k
      → ((u : ℕ) → (enter h (direct c) (reply (step h S (direct c))) B).holdings u ≡ B.holdings u)
      × ((enter h (direct c) (reply (step h S (direct c))) B).events ≡ B.events)
  book_stays c l k a v e = (λ u. go u (as_table c), rw e)
    where
      go : (u : ℕ) → (on_table (step h S (direct c)) ≡ table_step h S.table c) ⊎ ((n : ℕ) × (step h S (direct c) ≡ refused (suc n) S))
          → (enter h (direct c) (reply (step h S (direct c))) B).holdings u ≡ B.holdings u
      go u (inl same) =
          ap (λ (n : ℕ). enter_holding h c n B.holdings u) (answer_as same) ∙ of_table.book_stays c l k a v e u
      go u (inr o) = ap (λ (x : Outcome). enter_holding h c x.answer B.holdings u) o.1

  pub box : Box h S B
  box = record {
    agrees = of_table.agrees;
    within = of_table.within;
    legal = of_table.legal;
    safe = of_table.safe;
    sized = of_table.sized;
    only = of_table.only;
    line = waiting h S B K;
    not_valid = not_valid;
    holder_repeats = holder_repeats;
    holder_asks = holder_asks;
    book_stays = book_stays;
    waiting_asks = waiting_asks;
    other_asks = other_asks;
    nobody_in_line = nobody_in_line;
    holder_releases = λ c k r v e. answer_as (release_as_table c r) ∙ of_table.holder_releases c k r v e;
    other_releases = λ c r v e. answer_as (release_as_table c r) ∙ of_table.other_releases c r v e;
    other_grows = λ c l g v e. answer_as (growth_as_table c l g) ∙ of_table.other_grows c l g v e;
    same_level = λ c l g v e. subst (Unchanged (tenant_of c) S.table) (sym (growth_as_table c l g)) (of_table.same_level c l g v e);
    holder_grows = λ c l k g v e. rw (answer_as (growth_as_table c l g)) (of_table.holder_grows c l k g v e);
    releases_leave_line = λ c r. ap (λ (o : Outcome). o.state.line) (release_alone h S c r);
    growths_leave_line = λ c l g. ap (λ (o : Outcome). o.state.line) (growth_alone h S c l g);
    gave = gave;
    moves = (demand_2 h S).moves;
    grant_moves = λ c l a e. (demand_2 h S).grant_moves c l a;
    admit_moves = admit_moves;
    release_moves = λ c r e. (demand_2 h S).release_moves c r;
    growth_moves = λ c l g e. (demand_2 h S).growth_moves c l g;
  }
