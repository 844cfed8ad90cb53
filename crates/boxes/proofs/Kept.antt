-- What every history keeps up: the table is in order and agrees with the book, and so does the line.
use mathlib.Core.Path.{◌≡◌, refl, sym, ap, subst, ◌∙◌}
use mathlib.Core.Bool.{Bool, true, false, false≢true}
use mathlib.Core.List.{List, map}
use mathlib.Core.Option.{Option, some, none}
use Prim.Native.Nat.{ℕ, suc, ◌≤◌, ◌<◌}
use native.Mathlib.Omega.{arith}
use borrow.Author.Tests.{ne_eqb}
use lib.ListN.{length, length-map}
use Rattle.table.specs.Table.{node_at}
use Rattle.line.specs.Line.{Waiting, line_of, waiting_in}
use Rattle.line.specs.Order.{waits, Orderly, LineInOrder}
use Rattle.line.specs.Changes.{barred, once_more}
use Rattle.line.proofs.Numbers.{length_line, read_of_line}
use Rattle.line.proofs.Ordered.{decides_line, line_of_orderly}
use Rattle.std.proofs.lemmas.Bool.Decides.{nat_tests}
use Rattle.line.proofs.Places.{orderly_passed, orderly_over, waits_passed}
use Rattle.passes.specs.Events.{granted, waiting_after}
use Rattle.passes.proofs.Events.{after_grant}
use Rattle.rules.specs.Call.{Call as Direct, tenant_of}
use Rattle.rules.specs.Step.{Outcome as TableOutcome, step as table_step}
use Rattle.rules.specs.History.{Book as Holdings, write, enter as enter_holding, gave_block}
use Rattle.rules.proofs.Kept.{Kept as TableKept, sound}
use Rattle.rules.proofs.Box.{kept_by_call}
use Rattle.rules.proofs.Answers.{has_node, has_nothing}
use Rattle.rules.proofs.OneKind.{entered_grant, entered_release, entered_growth}
use Rattle.rules.proofs.Repeats.{gave_none}
use Rattle.rules.proofs.Cases.{Granted}
use Rattle.admission.specs.Call.{State, direct}
use Rattle.admission.specs.Step.{Outcome, refused, with_line, step}
use Rattle.admission.proofs.Direct.{SoundState}
use Rattle.boxes.specs.History.{Book, reply, happened, enter}
use Rattle.boxes.specs.Demand.{line_by}
use Rattle.admission.proofs.Standing.{waiting_holds_none}
use Rattle.admission.proofs.Ways.{Way, turned_down, given, given_again, given_up, exchanged, way}

pub record Kept (h : ℕ) (S : State) (B : Book) : Type 0 where
  pub table : TableKept h S.table B.holdings
  pub line : LineInOrder h S.table S.line
  pub says : waiting_in S.line ≡ line_by B

module _ (h : ℕ) (S : State) (B : Book) (K : Kept h S B) where
  pub sound_state : SoundState h S
  sound_state =
      let numbers : length S.line ≡ 193 = ap length K.line.numbers ∙ length_line (waiting_in S.line) K.line.few in
      record {
        table = sound h S.table B.holdings K.table;
        numbers = numbers;
        line = (decides_line h S.table S.line numbers).1 K.line;
      }

  -- one that waits has nothing in the book
  pub waiting_in_book : (t : ℕ) → waits t (waiting_in S.line) ≡ true → B.holdings t ≡ none
  waiting_in_book t e =
      grind (arith, has_node h S.table B.holdings K.table t, waiting_holds_none h S.table (waiting_in S.line) K.line.orderly t e)

-- the line W over a new table that agrees with a new book, if those who wait have nothing there
pub line_kept : (h : ℕ) (T T' : List ℕ) (H' : Holdings) (W : List Waiting) → TableKept h T' H' → length W ≤ 64 → Orderly h T W
    → ((t : ℕ) → waits t W ≡ true → H' t ≡ none) → LineInOrder h T' (line_of W)
line_kept h T T' H' W K few o out = line_of_orderly h T' W few (orderly_over h T T' W (λ t e z. has_nothing h T' H' K t (out t e)) o)

-- another tenant's entry
pub beside : (t u : ℕ) (x : Option ℕ) (H : Holdings) → ¬ (u ≡ t) → H u ≡ none → write t x H u ≡ none
beside t u x H other e = rw (ne_eqb u t other) e

module _ (h : ℕ) (S : State) (B : Book) (K : Kept h S B) (c : Direct) where
  -- the table and the holdings after a call that goes as without a line
  table_kept : TableKept h (table_step h S.table c).table (enter_holding h c (table_step h S.table c).answer B.holdings)
  table_kept = kept_by_call h S.table B.holdings K.table c

  -- where the line stays, and nobody was given a block
  line_stays : (S' : Outcome) → S' ≡ with_line (table_step h S.table c) none S.line
      → (H' : Holdings) → enter_holding h c (table_step h S.table c).answer B.holdings ≡ H'
      → gave_block (B.holdings (tenant_of c)) (H' (tenant_of c)) ≡ false
      → ((t : ℕ) → waits t (waiting_in S.line) ≡ true → H' t ≡ none)
      → Kept h S'.state (enter h (direct c) (reply S') B)
  line_stays S' e H' entered no_block out = rw (e, entered) (record {
    table = rw entered at table_kept;
    line = subst (LineInOrder h (table_step h S.table c).table) (sym K.line.numbers)
        (line_kept h S.table (table_step h S.table c).table H' (waiting_in S.line) (rw entered at table_kept) K.line.few
        K.line.orderly out);
    says = K.says ∙ sym (events_are false no_block);
  })
    where
      events_are : (b : Bool) → gave_block (B.holdings (tenant_of c)) (H' (tenant_of c)) ≡ b
          → waiting_after (happened (gave_block (B.holdings (tenant_of c)) (H' (tenant_of c))) granted B.events)
          ≡ waiting_after (happened b granted B.events)
      events_are b p = ap (λ (x : Bool). waiting_after (happened x granted B.events)) p

  -- a tenant that waits is not one that holds a block
  other_waits : (t : ℕ) → waits t (waiting_in S.line) ≡ true → 0 < node_at S.table (tenant_of c) → ¬ (t ≡ tenant_of c)
  other_waits t e holds is =
      omega (
        arith,
        holds,
        ap (λ (u : ℕ). node_at S.table u) is,
        waiting_holds_none h S.table (waiting_in S.line) K.line.orderly t e,
      )

  entered_done : (x : Option ℕ) → (table_step h S.table c).answer ≡ 0 → enter_holding h c 0 B.holdings ≡ write (tenant_of c) x B.holdings
      → enter_holding h c (table_step h S.table c).answer B.holdings ≡ write (tenant_of c) x B.holdings
  entered_done x done e = ap (λ (n : ℕ). enter_holding h c n B.holdings) done ∙ e

  -- a call of one that holds a block, by which its entry becomes x
  holder_kept : (x : Option ℕ) → 0 < node_at S.table (tenant_of c) → (table_step h S.table c).answer ≡ 0
      → enter_holding h c 0 B.holdings ≡ write (tenant_of c) x B.holdings
      → step h S (direct c) ≡ with_line (table_step h S.table c) none S.line
      → Kept h (step h S (direct c)).state (enter h (direct c) (reply (step h S (direct c))) B)
  holder_kept x holds done entered e =
      line_stays (step h S (direct c)) e (write (tenant_of c) x B.holdings) (entered_done x done entered) (had_one (B.holdings (tenant_of c)) refl)
      (λ t w. beside (tenant_of c) t x B.holdings (other_waits t w holds) (waiting_in_book h S B K t w))
    where
      had_one : (y : Option ℕ) → B.holdings (tenant_of c) ≡ y → gave_block y (write (tenant_of c) x B.holdings (tenant_of c)) ≡ false
      had_one y p = grind (arith, holds, has_nothing h S.table B.holdings K.table (tenant_of c))

  -- a block given passes everybody in line
  given_kept : (l : ℕ) → Granted h S.table c l → waits (tenant_of c) (waiting_in S.line) ≡ false → barred (waiting_in S.line) ≡ false
      → step h S (direct c) ≡ with_line (table_step h S.table c) none (line_of (map once_more (waiting_in S.line)))
      → Kept h (step h S (direct c)).state (enter h (direct c) (reply (step h S (direct c))) B)
  given_kept l g not_waiting nobody_at_eight e =
      let W = waiting_in S.line in
      let t = tenant_of c in
      let entered = entered_done (some l) (ap (λ (x : TableOutcome). x.answer) g.outcome) (entered_grant h c l g.asks B.holdings) in
      rw (e, entered) (record {
        table = rw entered at table_kept;
        line =
            line_kept h S.table (table_step h S.table c).table (write t (some l) B.holdings) (map once_more W) (rw entered at table_kept)
            (rw (length-map W once_more) K.line.few) (orderly_passed h S.table W nobody_at_eight K.line.orderly) still_none;
        says =
            read_of_line (map once_more W)
            ∙ ap (map once_more) K.says
            ∙ sym (after_grant B.events)
            ∙ ap (λ (x : Bool). waiting_after (happened x granted B.events)) (sym (had_none (B.holdings t) refl));
      })
    where
      had_none : (y : Option ℕ) → B.holdings (tenant_of c) ≡ y → gave_block y (write (tenant_of c) (some l) B.holdings (tenant_of c)) ≡ true
      had_none y p = grind (arith, nat_tests, g.nothing, has_node h S.table B.holdings K.table (tenant_of c))

      still_none : (u : ℕ) → waits u (map once_more (waiting_in S.line)) ≡ true → write (tenant_of c) (some l) B.holdings u ≡ none
      still_none u w =
          let in_line = sym (waits_passed u (waiting_in S.line)) ∙ w in
          beside (tenant_of c) u (some l) B.holdings
          (λ is. false≢true (sym not_waiting ∙ subst (λ (v : ℕ). waits v (waiting_in S.line) ≡ true) is in_line))
          (waiting_in_book h S B K u in_line)

  refused_kept : (n : ℕ) → step h S (direct c) ≡ refused (suc n) S
      → Kept h (step h S (direct c)).state (enter h (direct c) (reply (step h S (direct c))) B)
  refused_kept n e = rw (e, gave_none (B.holdings (tenant_of c))) K

  pub direct_kept : Kept h (step h S (direct c)).state (enter h (direct c) (reply (step h S (direct c))) B)
  direct_kept = go (way h S (sound_state h S B K) c)
    where
      answered : {o : TableOutcome} → table_step h S.table c ≡ o → (table_step h S.table c).answer ≡ o.answer
      answered e = ap (λ (x : TableOutcome). x.answer) e

      go : Way h S c → Kept h (step h S (direct c)).state (enter h (direct c) (reply (step h S (direct c))) B)
      go (turned_down n e) = refused_kept n e
      go (given l g not_waiting nobody_at_eight e) = given_kept l g not_waiting nobody_at_eight e
      go (given_again l r e) = holder_kept (some l) r.holds (answered r.outcome) (entered_grant h c l r.asks B.holdings) e
      go (given_up r e) = holder_kept none r.holds (answered r.outcome) (entered_release h c r.asks B.holdings) e
      go (exchanged l g e) = holder_kept (some l) g.holds (answered g.outcome) (entered_growth h c l g.asks B.holdings) e
