-- In no history do more than eight grants pass one who stays in line, counted over the calls.
use mathlib.Core.Path.{◌≡◌, refl, sym, ap, ap₂, subst, ◌∙◌}
use mathlib.Core.Bool.{Bool, true, false, cond, ◌||◌, and-true, and-false, false≢true}
use mathlib.Core.List.{List, [], ◌∷◌, ◌++◌, append-nil, append_assoc}
use mathlib.Core.Option.{Option, some, none}
use Prim.Native.Nat.{ℕ, zero, suc, ◌+◌, ◌≤◌}
use native.Mathlib.Omega.{arith}
use borrow.Author.Tests.{eq-eqb, ne_eqb}
use lib.Dec.{eqb}
use Rattle.std.proofs.lemmas.Bool.Decides.{nat_tests}
use Rattle.tree.specs.Node.{level}
use Rattle.tree.specs.Held.{one_if}
use Rattle.table.specs.Table.{node_at}
use Rattle.line.specs.Line.{Waiting}
use Rattle.line.specs.Order.{waits, Orderly, before}
use Rattle.rules.specs.Call.{Call as Direct, tenant_of}
use Rattle.rules.specs.History.{gave_block}
use Rattle.rules.specs.Demand.{Agrees}
use Rattle.admission.specs.Call.{State, Call, direct, join, admit, withdraw}
use Rattle.admission.specs.Step.{step}
use Rattle.passes.specs.Events.{Event, joins, withdraws, admitted, granted, left, passes, waiting_after}
use Rattle.boxes.specs.History.{reply, state_from, replies_from, state_after, Book, level_in, happened, enter, book_from, book_after}
use Rattle.boxes.specs.Demand.{line_by}
use Rattle.boxes.specs.Passed.{gave_to, goes_past, later_after, grants_past, leaves_by, Stays, SeldomPassed}
use Rattle.boxes.proofs.Kept.{Kept, waiting_in_book}
use Rattle.boxes.proofs.Histories.{call_kept, calls_kept, history_kept}
use Rattle.boxes.proofs.Waiting.{orderly, in_line, waiting}

-- ---- one call

-- the level that one in line waits for is a level
waits_for_some : (t : ℕ) (W : List Waiting) → waits t W ≡ true → gave_block none (level_in t W) ≡ true
unfolding waits
waits_for_some t [] e = absurd (false≢true e)
waits_for_some t (w ∷ W) e = grind (arith, waits_for_some t W)

-- what a table says of a tenant is what a book says that agrees with it
read_in_table : (h : ℕ) (x : Option ℕ) (n : ℕ) → Agrees h x n → cond (eqb n 0) none (some (level h n)) ≡ x
read_in_table h none n a = rw a
read_in_table h (some l) n a = grind (arith, nat_tests, a.0.above_zero, a.1)

-- what a call adds to the events: whom it passes, and who leaves by it
record Added (h : ℕ) (S : State) (B : Book) (c : Call) : Type 0 where
  new : List Event
  entered : (enter h c (reply (step h S c)) B).events ≡ B.events ++ new
  passed : (later : List ℕ) (es : List Event)
      → passes later (new ++ es) ≡ one_if (goes_past h S later c) + passes (later_after h S later c) es
  leaving : (t : ℕ) (es : List Event) → left t (new ++ es) ≡ leaves_by h S t c || left t es

module _ (h : ℕ) (S : State) (B : Book) (K : Kept h S B) where
  -- a call gave a tenant a block exactly if it did so by the book
  gave_by_book : (c : Call) (t : ℕ) → gave_to h S c t ≡ gave_block (B.holdings t) ((enter h c (reply (step h S c)) B).holdings t)
  gave_by_book c t =
      ap₂ gave_block (read_in_table h (B.holdings t) (node_at S.table t) (K.table.agrees t))
      (read_in_table h _ (node_at (step h S c).state.table t) ((call_kept h S B K c).table.agrees t))

  -- an admit gave a block to the one that it named
  admit_gave : (m u : ℕ) → (step h S (admit m)).named ≡ some u → gave_to h S (admit m) u ≡ true
  admit_gave m u named =
      let waited = ((waiting h S B K).names_waiting m u named).1 in
      gave_by_book (admit m) u
      ∙ rw (named, eq-eqb u u refl, waiting_in_book h S B K u (in_line h S B K u true waited)) (waits_for_some u (line_by B) waited)

  direct_added : (c : Direct) → Added h S B (direct c)
  unfolding goes_past later_after leaves_by passes left
  direct_added c = go (gave_to h S (direct c) (tenant_of c)) refl
    where
      events_are : (b : Bool) → gave_to h S (direct c) (tenant_of c) ≡ b
          → (enter h (direct c) (reply (step h S (direct c))) B).events ≡ happened b granted B.events
      events_are b p = ap (λ (x : Bool). happened x granted B.events) (sym (gave_by_book (direct c) (tenant_of c)) ∙ p)

      go : (b : Bool) → gave_to h S (direct c) (tenant_of c) ≡ b → Added h S B (direct c)
      go false p = record {
        new = [];
        entered = events_are false p ∙ sym (append-nil B.events);
        passed = λ later es. rw p (omega arith);
        leaving = λ t es. refl;
      }
      go true p = record {
        new = granted ∷ [];
        entered = events_are true p;
        passed = λ later es. rw p (omega arith);
        leaving = λ t es. refl;
      }

  join_added : (t l : ℕ) → Added h S B (join t l)
  unfolding goes_past later_after leaves_by passes left
  join_added t l = go (step h S (join t l)).answer refl
    where
      go : (a : ℕ) → (step h S (join t l)).answer ≡ a → Added h S B (join t l)
      go zero p = record {
        new = joins t l ∷ [];
        entered = rw p;
        passed = λ later es. rw p (omega arith);
        leaving = λ u es. refl;
      }
      go (suc n) p = record {
        new = [];
        entered = rw p (sym (append-nil B.events));
        passed = λ later es. rw p (omega arith);
        leaving = λ u es. refl;
      }

  admit_added : (m : ℕ) → Added h S B (admit m)
  unfolding goes_past later_after leaves_by passes left
  admit_added m = go (step h S (admit m)).named refl
    where
      go : (n : Option ℕ) → (step h S (admit m)).named ≡ n → Added h S B (admit m)
      go none p = record {
        new = [];
        entered = rw p (sym (append-nil B.events));
        passed = λ later es. rw p (omega arith);
        leaving = λ t es. rw p;
      }
      go (some u) p = record {
        new = admitted u ∷ [];
        entered = rw p;
        passed = λ later es. rw (p, admit_gave m u p) (omega arith);
        leaving = λ t es. rw p;
      }

  withdrawal_added : (t : ℕ) → Added h S B (withdraw t)
  unfolding goes_past later_after leaves_by passes left
  withdrawal_added t = go (step h S (withdraw t)).answer refl
    where
      go : (a : ℕ) → (step h S (withdraw t)).answer ≡ a → Added h S B (withdraw t)
      go zero p = record {
        new = withdraws t ∷ [];
        entered = rw p;
        passed = λ later es. omega arith;
        leaving = λ u es. rw (p, and-true (eqb t u));
      }
      go (suc n) p = record {
        new = [];
        entered = rw p (sym (append-nil B.events));
        passed = λ later es. omega arith;
        leaving = λ u es. rw (p, ne_eqb (suc n) 0 (λ z. omega arith), and-false (eqb t u));
      }

  added : (c : Call) → Added h S B c
  added (direct c) = direct_added c
  added (join t l) = join_added t l
  added (admit m) = admit_added m
  added (withdraw t) = withdrawal_added t

-- ---- some calls

-- what calls add to the events: how many pass one who waits, and that one who stays does not leave
record AllAdded (h : ℕ) (S : State) (B : Book) (cs : List Call) : Type 0 where
  new : List Event
  entered : (book_from h B cs (replies_from h S cs)).events ≡ B.events ++ new
  passed : (later : List ℕ) → passes later new ≡ grants_past h S later cs
  staying : (t : ℕ) → Stays h S t cs → left t new ≡ false

all_added : (h : ℕ) (S : State) (B : Book) → Kept h S B → (cs : List Call) → AllAdded h S B cs
unfolding book_from replies_from grants_past Stays passes left
all_added h S B K [] = record { new = []; entered = sym (append-nil B.events); passed = λ later. refl; staying = λ t s. refl }
all_added h S B K (c ∷ cs) =
    let first = added h S B K c in
    let rest = all_added h (step h S c).state (enter h c (reply (step h S c)) B) (call_kept h S B K c) cs in
    record {
      new = first.new ++ rest.new;
      entered = rest.entered ∙ ap (λ (es : List Event). es ++ rest.new) first.entered ∙ append_assoc B.events first.new rest.new;
      passed = λ later. first.passed later rest.new
          ∙ ap (λ (n : ℕ). one_if (goes_past h S later c) + n) (rest.passed (later_after h S later c));
      staying = λ t s. first.leaving t rest.new ∙ rw s.0 (rest.staying t s.1);
    }

-- ---- one who stays in line

-- those who joined later than the first are in order by themselves
orderly_behind : (h : ℕ) (T : List ℕ) (u k : ℕ) (es : List Event) → Orderly h T (waiting_after (joins u k ∷ es)) → Orderly h T (waiting_after es)
unfolding waiting_after
orderly_behind h T u k es = go (left u es)
  where
    go : (gone : Bool) → Orderly h T (cond gone (waiting_after es) (record { tenant = u; level = k; passed = passes [] es } ∷ waiting_after es))
        → Orderly h T (waiting_after es)
    go true o = o
    go false (before may once rest) = rest

-- one that joined and has not left since is in line, and so was passed at most eight times
in_line_seldom : (h : ℕ) (T : List ℕ) (t l : ℕ) (es : List Event) → left t es ≡ false
    → (sooner : List Event) → Orderly h T (waiting_after (sooner ++ joins t l ∷ es)) → passes [] es ≤ 8
unfolding waiting_after
in_line_seldom h T t l es stays [] o = first (rw stays at o)
  where
    first : {w : Waiting} {W : List Waiting} → Orderly h T (w ∷ W) → w.passed ≤ 8
    first (before may once rest) = may.passed
in_line_seldom h T t l es stays (joins u k ∷ sooner) o =
    in_line_seldom h T t l es stays sooner (orderly_behind h T u k (sooner ++ joins t l ∷ es) o)
in_line_seldom h T t l es stays (withdraws u ∷ sooner) o = in_line_seldom h T t l es stays sooner o
in_line_seldom h T t l es stays (admitted u ∷ sooner) o = in_line_seldom h T t l es stays sooner o
in_line_seldom h T t l es stays (granted ∷ sooner) o = in_line_seldom h T t l es stays sooner o

-- calls after a join that was done
seldom_from : (h : ℕ) (S : State) (B : Book) → Kept h S B → (t l : ℕ) → (step h S (join t l)).answer ≡ 0
    → (cs : List Call) → Stays h (step h S (join t l)).state t cs → grants_past h (step h S (join t l)).state [] cs ≤ 8
seldom_from h S B K t l done cs stays =
    let S₁ = (step h S (join t l)).state in
    let B₁ = enter h (join t l) (reply (step h S (join t l))) B in
    let K₁ = call_kept h S B K (join t l) in
    let since = all_added h S₁ B₁ K₁ cs in
    let S₂ = state_from h S₁ cs in
    let B₂ = book_from h B₁ cs (replies_from h S₁ cs) in
    let joined : B₁.events ≡ B.events ++ joins t l ∷ [] = rw done in
    let entered : B₂.events ≡ B.events ++ joins t l ∷ since.new =
    since.entered ∙ ap (λ (es : List Event). es ++ since.new) joined ∙ append_assoc B.events (joins t l ∷ []) since.new in
    rw (← since.passed [])
    (in_line_seldom h S₂.table t l since.new (since.staying t stays) B.events
    (subst (λ (es : List Event). Orderly h S₂.table (waiting_after es)) entered (orderly h S₂ B₂ (calls_kept h S₁ B₁ cs K₁))))

pub seldom_passed : SeldomPassed
seldom_passed h H = seldom_from h (state_after h H) (book_after h H) (history_kept h H)
