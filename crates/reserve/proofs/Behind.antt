-- From what a call does to a table and a line to what the door reports and leaves in the bytes.
use mathlib.Core.Path.{◌≡◌, refl, sym, ap, ap₂, ◌∙◌}
use mathlib.Core.Bool.{cond}
use mathlib.Core.List.{List, [], ◌++◌}
use mathlib.Core.Option.{none}
use Prim.Native.Nat.{ℕ, zero, suc, ◌*◌, ◌≤◌, ◌<◌}
use native.Mathlib.Omega.{arith}
use native.Mathlib.Decide.{ℕ_discrete}
use borrow.Author.Tests.{eq-eqb, ne_eqb}
use lib.Dec.{eqb}
use lib.ListN.{length, take, drop, replicate}
use Rattle.line.specs.Line.{triples, line_of}
use Rattle.rules.specs.Step.{first}
use Rattle.rules.specs.Call.{grant_level, grant_pages}
use Rattle.std.specs.Prelude.{Result}
use Rattle.refusal.specs.declared.Refusal.{Refusal}
use Rattle.refusal.specs.Number.{number_in}
use Rattle.admission.specs.Call.{State, Call, direct, join, admit, withdraw}
use Rattle.admission.specs.Step.{lent_checks, Outcome as StateOutcome, on_table, checks, accepted, unless, step, reserve_checks, open_reserve}
use Rattle.admission.specs.Value.{requested, lent, plan_in, admitted_of, GivesAdmitted}
use Rattle.admission.proofs.Handed.{handed_back}
use Rattle.admission.specs.declared.Admitted.{Admitted}
use Rattle.admission.proofs.Arguments.{Lengths, lengths_passed}
use Rattle.plans.proofs.PlanOf.{count_in_plan_of}
use Rattle.planner.proofs.Moves.{moves_few, moves_fit}
use Rattle.admission.specs.declared.Request.{Request}
use Rattle.image.proofs.Images.{lent_as_none, lent_as_all, numbers_length, image_of_zeros}
use Rattle.image.specs.Image.{image_of, lent_as, table_of, line_in, Decoded}
use Rattle.reserve.specs.Door.{bytes_after, state_in, entries_in, tenant_number, ReportedAdmission, LineCalled, OpenedOn, TakesLine}
use Rattle.reserve.specs.Door.{by_level, by_pages, an_admit}
use Rattle.reserve.specs.Values.{changing}
use Rattle.reserve.specs.declared.Admission.{Admission}
use Rattle.reserve.specs.declared.Change.{Change}
use Rattle.reserve.proofs.Reports.{Through, array_length, image_length_done, array_done, whole_bytes, front_table, same_report}

-- ---- what a call that is done has been lent

done_first : (h : ℕ) (S : State) (c : Call) → (step h S c).answer ≡ 0 → first (checks h S c) ≡ 0
unfolding step
done_first h S c = go (first (checks h S c))
  where
    go : (n : ℕ) → (unless n S (accepted h S c)).answer ≡ 0 → n ≡ 0
    go zero e = refl
    go (suc n) e = absurd (omega arith)

pub opening_lengths : (h : ℕ) (S : State) → (open_reserve h S).answer ≡ 0 → Lengths h (length S.table) (length S.line)
unfolding open_reserve
opening_lengths h S e = lengths_passed h (length S.table) (length S.line) [] (go (first (reserve_checks h S)) refl e)
  where
    done : StateOutcome
    done = record { answer = 0; node = 0; named = none; moves = []; state = record { table = replicate 4096 0; line = line_of [] } }

    go : (n : ℕ) → first (reserve_checks h S) ≡ n → (unless n S done).answer ≡ 0 → first (reserve_checks h S) ≡ 0
    go zero p e = p
    go (suc n) p e = absurd (omega arith)

-- a join, a withdrawal, or a request that takes a line
pub data Lined : Call → Type 0 where
  a_join : {t l : ℕ} → Lined (join t l)
  a_withdrawal : {t : ℕ} → Lined (withdraw t)
  a_request : (r : Request) (m : ℕ) → TakesLine r → Lined (requested r m)

-- what follows the checks of the lengths has passed too
rest_lengths : (h : ℕ) (S : State) (c : Call) → lent_checks h (length S.table) (length S.line) ++ drop 3 (checks h S c) ≡ checks h S c
    → (step h S c).answer ≡ 0 → Lengths h (length S.table) (length S.line)
rest_lengths h S c whole e =
    lengths_passed h (length S.table) (length S.line) (drop 3 (checks h S c)) (ap first whole ∙ done_first h S c e)

pub done_lengths : (h : ℕ) (S : State) (c : Call) → Lined c → (step h S c).answer ≡ 0 → Lengths h (length S.table) (length S.line)
done_lengths h S c (a_join {t = t} {l = l}) e = rest_lengths h S (join t l) refl e
done_lengths h S c (a_withdrawal {t = t}) e = rest_lengths h S (withdraw t) refl e
done_lengths h S c (a_request r m (by_level {t = t} {l = l})) e = rest_lengths h S (direct (grant_level t l m)) refl e
done_lengths h S c (a_request r m (by_pages {t = t} {p = p})) e = rest_lengths h S (direct (grant_pages t p m)) refl e
done_lengths h S c (a_request r m an_admit) e = rest_lengths h S (admit m) refl e

-- ---- numbers that were read into an array, changed, and written back

-- the table and the line in front of two arrays are those that the bytes stand for
pub state_read : (image line nodes numbers : List ℕ) (n k : ℕ) → length nodes ≡ 4096 → length numbers ≡ 193 → Decoded image nodes n
    → Decoded line numbers k → lent (take n nodes) (take k numbers) ≡ state_in image line
state_read image line nodes numbers n k long long' d d' =
    ap₂ lent (front_table long d) (d'.front ∙ ap (λ (m : ℕ). lent_as m line) long')

-- What a call that has answered leaves of N numbers, which the bytes are lent as: it has put `after` in the place of those read, and `result` is what
-- its definition leaves.
module _ (N answer : ℕ) (result bytes numbers after : List ℕ) (k : ℕ) (some_numbers : 0 < N) (long : length numbers ≡ N) (d : Decoded bytes numbers k)
    (kept : length after ≡ length (take k numbers)) (whole : answer ≡ 0 → length (lent_as N bytes) ≡ N) (left : after ≡ result) where
  through : Through N bytes numbers after k (answer ≡ 0)
  through = record { long = long; some_numbers = some_numbers; before = d; kept = kept; whole = whole }

  pub bytes_whole : answer ≡ 0 → length bytes ≡ 2 * length (after ++ drop k numbers)
  bytes_whole z = omega (arith, array_length through, image_length_done through z)

  pub numbers_done : answer ≡ 0 → after ++ drop k numbers ≡ result
  numbers_done z = array_done through z ∙ left

  pub bytes_done : answer ≡ 0 → (bytes' : List ℕ) → bytes' ≡ image_of (after ++ drop k numbers) → bytes' ≡ bytes_after answer result bytes
  bytes_done z bytes' e = rw (eq-eqb answer 0 z) (e ∙ ap image_of (numbers_done z))

-- ---- a call that changes the line

pub lined_change : (change : Change) → Lined (changing change)
lined_change (Change.Join t l) = a_join
lined_change (Change.Withdraw t) = a_withdrawal

-- What a join or a withdrawal that is done, on the fronts of two arrays, has left of the line.
module _ (h : ℕ) (change : Change) {image line nodes numbers after : List ℕ} {n k : ℕ} (long : length nodes ≡ 4096) (long' : length numbers ≡ 193)
    (d : Decoded image nodes n) (d' : Decoded line numbers k) (kept : length after ≡ length (take k numbers))
    (answered : 0 ≡ (step h (lent (take n nodes) (take k numbers)) (changing change)).answer)
    (changed : after ≡ (step h (lent (take n nodes) (take k numbers)) (changing change)).state.line) where
  abbrev changed_state : StateOutcome
  changed_state = step h (state_in image line) (changing change)

  on_bytes : lent (take n nodes) (take k numbers) ≡ state_in image line
  on_bytes = state_read image line nodes numbers n k long long' d d'

  done_on_bytes : 0 ≡ changed_state.answer
  done_on_bytes = answered ∙ ap (λ (S : State). (step h S (changing change)).answer) on_bytes

  line_left : after ≡ changed_state.state.line
  line_left = changed ∙ ap (λ (S : State). (step h S (changing change)).state.line) on_bytes

  numbers_lent : changed_state.answer ≡ 0 → length (line_in line) ≡ 193
  numbers_lent z = (done_lengths h (state_in image line) (changing change) (lined_change change) z).numbers

  pub line_whole : length line ≡ 2 * length (after ++ drop k numbers)
  line_whole =
      bytes_whole 193 changed_state.answer changed_state.state.line line numbers after k (omega arith) long' d' kept numbers_lent line_left
      (sym done_on_bytes)

  pub line_done : {line' : List ℕ} → line' ≡ image_of (after ++ drop k numbers) → LineCalled changed_state line 0 line'
  line_done {line'} e = record {
    answer = done_on_bytes;
    line_bytes =
        bytes_done 193 changed_state.answer changed_state.state.line line numbers after k (omega arith) long' d' kept numbers_lent line_left
        (sym done_on_bytes) line' e;
  }

-- ---- an opening, which only the lengths decide

-- how many numbers bytes are lent as
lent_length : (n : ℕ) (bytes : List ℕ) → length (lent_as n bytes) ≡ cond (eqb (length bytes) (2 * n)) n 0
lent_length n bytes = go (ℕ_discrete (length bytes) (2 * n))
  where
    go : Dec (length bytes ≡ 2 * n) → length (lent_as n bytes) ≡ cond (eqb (length bytes) (2 * n)) n 0
    go (yes e) = ap length (lent_as_all n bytes e) ∙ numbers_length n bytes e ∙ rw (eq-eqb (length bytes) (2 * n) e)
    go (no ne) = ap length (lent_as_none n bytes ne) ∙ rw (ne_eqb (length bytes) (2 * n) ne)

empty_line : line_of [] ≡ replicate 193 0
unfolding line_of triples
empty_line = refl

module _ (h : ℕ) (image line : List ℕ) {r n k : ℕ} (entries : n ≡ cond (eqb (length image) (2 * 4096)) 4096 0)
    (numbers : k ≡ cond (eqb (length line) (2 * 193)) 193 0) (answered : r ≡ first (lent_checks h n k)) where
  abbrev opening : StateOutcome
  opening = open_reserve h (state_in image line)

  first_met : r ≡ first (reserve_checks h (state_in image line))
  first_met =
      answered
      ∙ ap₂ (λ (i j : ℕ). first (lent_checks h i j)) (entries ∙ sym (lent_length 4096 image)) (numbers ∙ sym (lent_length 193 line))

  answer_met : r ≡ opening.answer
  unfolding open_reserve
  answer_met = go (first (reserve_checks h (state_in image line))) first_met
    where
      done : StateOutcome
      done = record { answer = 0; node = 0; named = none; moves = []; state = record { table = replicate 4096 0; line = line_of [] } }

      go : (m : ℕ) → r ≡ m → r ≡ (unless m (state_in image line) done).answer
      go zero e = e
      go (suc m) e = e

  pub open_refused : ¬ (r ≡ 0) → OpenedOn h image line r image line
  open_refused ne =
      let other = ne_eqb opening.answer 0 (λ z. ne (answer_met ∙ z)) in
      record { called = record { answer = answer_met; line_bytes = rw other }; table_bytes = rw other }

  opened_state : r ≡ 0 → opening.state ≡ record { table = replicate 4096 0; line = line_of [] }
  unfolding open_reserve
  opened_state z = ap (λ (m : ℕ). (unless m (state_in image line) done).state) (sym first_met ∙ z)
    where
      done : StateOutcome
      done = record { answer = 0; node = 0; named = none; moves = []; state = record { table = replicate 4096 0; line = line_of [] } }

  pub open_done : r ≡ 0 → {image' line' : List ℕ} → image' ≡ replicate (length image) 0 → line' ≡ replicate (length line) 0
      → OpenedOn h image line 0 image' line'
  open_done z e e' =
      let zero_answer : opening.answer ≡ 0 = sym answer_met ∙ z in
      let long = opening_lengths h (state_in image line) zero_answer in
      let done = eq-eqb opening.answer 0 zero_answer in
      record {
        called = record {
          answer = sym zero_answer;
          line_bytes = rw done (e' ∙ ap (λ (i : ℕ). replicate i 0) (whole_bytes 193 line (omega arith) long.numbers)
              ∙ sym (ap (λ (S : State). image_of S.line) (opened_state z) ∙ ap image_of empty_line ∙ image_of_zeros 193));
        };
        table_bytes = rw done (e ∙ ap (λ (i : ℕ). replicate i 0) (whole_bytes 4096 image (omega arith) long.entries)
            ∙ sym (ap (λ (S : State). image_of S.table) (opened_state z) ∙ image_of_zeros 4096));
      }

-- ---- a report of what is handed back

-- the same report of an outcome that differs, if at all, in the state of a refused call
pub same_admission : (p o : StateOutcome) {image line list : List ℕ} {r : Admission} {image' line' list' : List ℕ}
    → p.answer ≡ o.answer → p.node ≡ o.node → p.named ≡ o.named → p.moves ≡ o.moves → (p.answer ≡ 0 → p.state ≡ o.state)
    → ReportedAdmission p image line list r image' line' list' → ReportedAdmission o image line list r image' line' list'
same_admission p o {line = line} a n t m s q = record {
  behind = record {
    of_table = same_report (on_table p) (on_table o) a n m (λ z. ap (λ (S : State). S.table) (s z)) q.behind.of_table;
    line_bytes = q.behind.line_bytes ∙ go (ℕ_discrete p.answer 0);
  };
  tenant = q.tenant ∙ ap tenant_number t;
}
  where
    go : Dec (p.answer ≡ 0) → bytes_after p.answer p.state.line line ≡ bytes_after o.answer o.state.line line
    go (yes z) = rw (s z, a)
    go (no ne) = rw (← a, ne_eqb p.answer 0 ne)

-- the moves of a request go into a plan, and into the list that it was given
pub request_room : (h : ℕ) (S : State) (q : Request) (list : List ℕ) {done : Result Admitted Refusal} {T L : List ℕ}
    → GivesAdmitted (step h S (requested q (entries_in list))) done T L → ((plan_in done).n ≤ 7) × (8 * (plan_in done).n ≤ length list)
request_room h S q list {done} given =
    let m = entries_in list in
    let counted = count_in_plan_of (plan_in done) (step h S (requested q m)).moves given.plan in
    (omega (arith, counted, moves_few h S q m), omega (arith, counted, moves_fit h S q m))

-- a request that was asked of the fronts of two arrays
module _ (h : ℕ) (q : Request) (takes : TakesLine q) (m : ℕ) {done : Result Admitted Refusal} {image line nodes numbers T L : List ℕ} {n k : ℕ}
    (long : length nodes ≡ 4096) (long' : length numbers ≡ 193) (d : Decoded image nodes n) (d' : Decoded line numbers k)
    (kept : length T ≡ length (take n nodes)) (kept' : length L ≡ length (take k numbers))
    (given : GivesAdmitted (step h (lent (take n nodes) (take k numbers)) (requested q m)) done T L) where
  abbrev o : StateOutcome
  o = step h (state_in image line) (requested q m)

  met : admitted_of done T L ≡ o
  met =
      handed_back given
      ∙ ap (λ (S : State). step h S (requested q m)) (state_read image line nodes numbers n k long long' d d')

  lengths : o.answer ≡ 0 → Lengths h (length (table_of image)) (length (line_in line))
  lengths z = done_lengths h (state_in image line) (requested q m) (a_request q m takes) z

  request_answer : number_in done ≡ o.answer
  request_answer = ap (λ (x : StateOutcome). x.answer) met

  pub request_whole : number_in done ≡ 0
      → (length image ≡ 2 * length (T ++ drop n nodes)) × (length line ≡ 2 * length (L ++ drop k numbers))
  request_whole z =
      let zero = sym request_answer ∙ z in (
        bytes_whole 4096 o.answer T image nodes T n (omega arith) long d kept (λ w. (lengths w).entries) refl zero,
        bytes_whole 193 o.answer L line numbers L k (omega arith) long' d' kept' (λ w. (lengths w).numbers) refl zero,
      )

  pub request_reported : {list : List ℕ} {r : Admission} {image' line' list' : List ℕ}
      → ReportedAdmission (admitted_of done (T ++ drop n nodes) (L ++ drop k numbers)) image line list r image' line' list'
      → ReportedAdmission o image line list r image' line' list'
  request_reported p =
      same_admission (admitted_of done (T ++ drop n nodes) (L ++ drop k numbers)) o request_answer (ap (λ (x : StateOutcome). x.node) met)
      (ap (λ (x : StateOutcome). x.named) met) (ap (λ (x : StateOutcome). x.moves) met)
      (λ z. ap₂ lent (numbers_done 4096 o.answer T image nodes T n (omega arith) long d kept (λ w. (lengths w).entries) refl
      (sym request_answer ∙ z))
      (numbers_done 193 o.answer L line numbers L k (omega arith) long' d' kept' (λ w. (lengths w).numbers) refl (sym request_answer ∙ z))
      ∙ ap (λ (x : StateOutcome). x.state) met) p
