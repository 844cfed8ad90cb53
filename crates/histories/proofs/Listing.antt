-- The listing of a journal shows the history of its records.
use mathlib.Core.Path.{◌≡◌, refl, sym, ap, subst, ◌∙◌}
use mathlib.Core.Bool.{true, false}
use mathlib.Core.List.{List, [], ◌∷◌, ◌++◌, append_assoc}
use mathlib.Core.Option.{none}
use Prim.Native.Nat.{ℕ, suc, ◌+◌, ◌≤◌, ◌<◌}
use native.Mathlib.Decide.{dec_le}
use native.Mathlib.Omega.{arith}
use borrow.Author.Tests.{le-ltb, eq-eqb}
use lib.ListN.{length, length-replicate}
use Rattle.std.specs.Prelude.{Some, None, Ok, Err}
use Rattle.journal.specs.declared.Record.{Record}
use Rattle.journal.specs.Reader.{found_record, Read, read_at}
use Rattle.journal.specs.Format.{kind_of, who}
use Rattle.journal.specs.Journal.{CanStand, Reading}
use Rattle.journal.proofs.Theorems.{read_can_stand, open_at_start, next_offset}
use Rattle.line.specs.Line.{triples, line_of as numbers_of}
use Rattle.admission.specs.Call.{State as Reserve, Call}
use Rattle.admission.specs.Step.{Outcome, step, open_reserve}
use Rattle.lines.specs.Line.{stop_line}
use Rattle.replay.specs.Replay.{State, Turn, outcome_of, stopped, listed, turn_of, turn}
use Rattle.replay.specs.Listing.{vacant, start, listing, Lists, ends, goes_on}
use Rattle.replay.proofs.Heights.{answer_not_one, opening_too_high}
use Rattle.replay.proofs.Turns.{turn_at}
use Rattle.replay.proofs.Listing.{listing_whole, lists_once}
use Rattle.histories.specs.Listing.{calls_of, Opens, outcomes_from, reported, open_line, line_with, lines_after, last_line, Shows, ListingIsHistory}
use Rattle.histories.proofs.Calling.{Calling, calling, turn_of_record}

-- ---- one turn of a listing

lists_last : (journal : List ℕ) (s : State) (t : Turn) → turn journal s ≡ t → t.on ≡ false → Lists journal s t.text
lists_last journal s t e off = rw (← e) (ends (ap (λ (u : Turn). u.on) e ∙ off))

lists_line : (journal : List ℕ) (s : State) (t : Turn) (rest : List ℕ) → turn journal s ≡ t → t.on ≡ true → Lists journal t.state rest
    → Lists journal s (t.text ++ rest)
lists_line journal s t rest e on l = rw (← e) (goes_on {rest = rest} (ap (λ (u : Turn). u.on) e ∙ on) (rw e l))

-- ---- the records after the open

-- where a replay stands after the open
abbrev standing : ℕ → ℕ → Reserve → ℕ → State
standing at n S h = record { offset = at; ordinal = n; height = h; reserve = S }

module _ (journal : List ℕ) (h : ℕ) (low : h ≤ 12) where
  call_lists : (at next n : ℕ) (S : Reserve) (r : Record) (c : Call) (rest : List ℕ) → Calling r c
      → read_at journal at ≡ Ok (Some (found_record r next))
      → Lists journal (standing next (n + 1) (step h S c).state h) rest
      → Lists journal (standing at n S h) (line_with (n + 1) r (step h S c) ++ rest)
  call_lists at next n S r c rest k e l =
      let s = standing at n S h in
      let is_step : outcome_of h S r ≡ step h S c = k.outcome h S in
      let other : ¬ ((outcome_of h S r).answer ≡ 1) = λ z. answer_not_one h S c low (rw is_step at z) in
      let on = turn_of_record journal s r next e other ∙ ap (listed s r next) is_step in
      lists_line journal s (listed s r next (step h S c)) rest on refl (rw (k.height h) l)

  lists_records : {at : ℕ} {rs : List Record} {last : Read} → Reading journal at rs last → 0 < at → (n : ℕ) (S : Reserve)
      → Lists journal (standing at n S h) (lines_after n rs (outcomes_from h S (calls_of rs)) ++ last_line last)
  unfolding calls_of outcomes_from lines_after
  lists_records (Reading.ends {offset = at} e) q n S = lists_last journal (standing at n S h) _ (turn_at journal (standing at n S h) _ e) refl
  lists_records (Reading.refused {offset = at} e) q n S = lists_last journal (standing at n S h) _ (turn_at journal (standing at n S h) _ e) refl
  lists_records (Reading.record_then {offset = at} {next = next} {r = r} {rs = rs} e more) q n S =
      let (c, k) = calling r at q (read_can_stand journal at r next e) in
      let later : 0 < next = omega (arith, next_offset journal at r next e) in
      rw (k.calls, append_assoc) (call_lists at next n S r c _ k e (lists_records more later (n + 1) (step h S c).state))

-- none of them is an open
pub one_call_each : (journal : List ℕ) {at : ℕ} {rs : List Record} {last : Read} → Reading journal at rs last → 0 < at
    → length (calls_of rs) ≡ length rs
unfolding calls_of
one_call_each journal (Reading.ends e) q = refl
one_call_each journal (Reading.refused e) q = refl
one_call_each journal (Reading.record_then {offset = at} {next = next} {r = r} {rs = rs} e more) q =
    let (c, k) = calling r at q (read_can_stand journal at r next e) in
    let later : 0 < next = omega (arith, next_offset journal at r next e) in
    ap (λ (cs : List Call). length (cs ++ calls_of rs)) k.calls ∙ ap (λ (n : ℕ). suc n) (one_call_each journal more later)

-- ---- the open

numbers_of_nobody : length (numbers_of []) ≡ 193
unfolding numbers_of triples
numbers_of_nobody = refl

opening : (h : ℕ) (S : Reserve) → h ≤ 12 → length S.table ≡ 4096 → length S.line ≡ 193
    → open_reserve h S ≡ record { answer = 0; node = 0; named = none; moves = []; state = vacant }
unfolding open_reserve
opening h S low entries numbers = rw (le-ltb 12 h low, eq-eqb (length S.table) 4096 entries, eq-eqb (length S.line) 193 numbers)

opening_vacant : (h : ℕ) → h ≤ 12 → open_reserve h vacant ≡ record { answer = 0; node = 0; named = none; moves = []; state = vacant }
opening_vacant h low = opening h vacant low (length-replicate {A = ℕ} 4096 0) numbers_of_nobody

-- ---- the whole listing

listing_is : (journal bytes : List ℕ) → Lists journal start bytes → listing journal ≡ bytes
listing_is journal bytes l = lists_once journal (listing_whole journal) l

shows_nothing_read : (journal : List ℕ) (last : Read) → read_at journal 0 ≡ last → (turn_of start last).on ≡ false
    → (turn_of start last).text ≡ last_line last → Shows journal [] last
shows_nothing_read journal last e off t =
    Shows.nothing_read (listing_is journal _ (lists_last journal start (turn_of start last) (turn_at journal start last e) off) ∙ t)

module _ (journal : List ℕ) (h next : ℕ) (rs : List Record) (last : Read) (e : read_at journal 0 ≡ Ok (Some (found_record (Record.Open h) next)))
    (more : Reading journal next rs last) where
  stops_at_open : 12 < h → turn journal start ≡ stopped start 0 1
  stops_at_open high = turn_at journal start (Ok (Some (found_record (Record.Open h) next))) e ∙ rw (opening_too_high h vacant high)

  shows_too_high : 12 < h → Shows journal (Record.Open h ∷ rs) last
  shows_too_high high =
      Shows.too_high high (listing_is journal (stop_line 0 1) (lists_last journal start (stopped start 0 1) (stops_at_open high) refl))

  pub after_open : 0 < next
  after_open = omega (arith, next_offset journal 0 (Record.Open h) next e)

  module _ (low : h ≤ 12) where
    pub listing_of_history : (accepted : Opens h)
        → listing journal ≡ open_line h ++ lines_after 1 rs (reported h accepted rs) ++ last_line last
    listing_of_history accepted =
        let done = opening_vacant h low in
        let other : ¬ ((open_reserve h vacant).answer ≡ 1) = λ z. omega arith in
        let on = turn_of_record journal start (Record.Open h) next e other ∙ ap (listed start (Record.Open h) next) done in
        let calls = lists_records journal h low more after_open 1 vacant in
        let lists = lists_line journal start (listed start (Record.Open h) next _) _ on refl calls in
        rw (ap (λ (o : Outcome). o.state) done, append_assoc) (listing_is journal _ lists)

    shows_history : Shows journal (Record.Open h ∷ rs) last
    shows_history =
        let accepted : Opens h = ap (λ (o : Outcome). o.answer) (opening_vacant h low) in
        Shows.history low accepted (one_call_each journal more after_open) (listing_of_history accepted)

  shows_open : Dec (h ≤ 12) → Shows journal (Record.Open h ∷ rs) last
  shows_open (yes low) = shows_history low
  shows_open (no high) = shows_too_high (omega arith)

shows_first : (journal : List ℕ) (r : Record) (next : ℕ) (rs : List Record) (last : Read) → read_at journal 0 ≡ Ok (Some (found_record r next))
    → CanStand (kind_of r) 0 → Reading journal next rs last → Shows journal (r ∷ rs) last
shows_first journal r next rs last e s more =
    let is = open_at_start r s in
    let found = subst (λ (x : Record). read_at journal 0 ≡ Ok (Some (found_record x next))) is e in
    subst (λ (x : Record). Shows journal (x ∷ rs) last) (sym is) (shows_open journal (who r) next rs last found more (dec_le (who r) 12))

pub listing_is_history : ListingIsHistory
listing_is_history journal rs last (Reading.ends e) = shows_nothing_read journal (Ok None) e refl refl
listing_is_history journal rs last (Reading.refused {refusal = r} e) = shows_nothing_read journal (Err r) e refl refl
listing_is_history journal rs last (Reading.record_then {next = next} {r = r} {rs = rs'} e more) =
    shows_first journal r next rs' last e (read_can_stand journal 0 r next e) more
