-- A conversion is answered as the old journal was before the meaning of 0 pages changed, but for repeated grants.
use mathlib.Core.Path.{◌≡◌, refl, sym, ap, subst, ◌∙◌}
use mathlib.Core.Bool.{Bool, true, false, cond}
use mathlib.Core.List.{List, [], ◌∷◌, ◌++◌, map, append_assoc, append-nil}
use mathlib.Core.Option.{Option, none}
use Prim.Native.Nat.{ℕ, zero, suc, ◌+◌, ◌^◌, ◌<◌}
use native.Mathlib.Omega.{arith}
use native.Mathlib.Decide.{dec_le, ℕ_discrete}
use borrow.Author.Tests.{ltb-false, lt-ltb, le-ltb, lt-leb}
use lib.Dec.{ltb}
use lib.Pow.{pow_pos}
use lib.ListN.{length}
use Rattle.tree.specs.Node.{level}
use Rattle.layout.specs.Set.{layout_set}
use Rattle.layout.specs.Change.{one_block_more}
use Rattle.table.specs.Table.{node_at, counts_of}
use Rattle.table.specs.declared.Move.{Move}
use Rattle.std.specs.Prelude.{None, Ok}
use Rattle.journal.specs.declared.Record.{Record}
use Rattle.journal.specs.Journal.{Reading}
use Rattle.journal.proofs.Theorems.{next_offset}
use Rattle.sizes.specs.Level.{least_level, level_for}
use Rattle.line.specs.Line.{line_of as numbers_of, waiting_in}
use Rattle.line.specs.Changes.{once_more}
use Rattle.rules.specs.Call.{Call as Direct, grant_level, grant_pages, release, grow, tenant_of}
use Rattle.rules.specs.Step.{Check, first, level_check, pages_check, repeats, granted, repeated, block_for}
use Rattle.rules.specs.Demand.{Asks, by_level, by_pages}
use Rattle.rules.proofs.Checks.{Numbered, first_after_none, first_stands}
use Rattle.rules.proofs.Repeats.{repeats_holds}
use Rattle.admission.specs.Call.{State, Call, direct, join, admit, withdraw}
use Rattle.admission.specs.Step.{Outcome, refused, grant_holdings, with_line, line_behind, unless, step, open_reserve}
use Rattle.lines.specs.Ascii.{byte, bytes}
use Rattle.lines.specs.Decimal.{decimal}
use Rattle.lines.specs.Line.{spaced, letter, who_field, size, node_field, move_fields, line_of}
use Rattle.replay.specs.Listing.{vacant, listing}
use Rattle.conversion.specs.Conversion.{converted, Contents, contents, converted_journal}
use Rattle.conversion.specs.Promises.{Becomes}
use Rattle.conversion.proofs.Records.{becomes}
use Rattle.conversion.proofs.Promises.{conversion_promise}
use Rattle.histories.specs.Listing.{calls_of, Opens, outcomes_from, reported, open_line, line_with, lines_after, Shows}
use Rattle.histories.proofs.Listing.{one_call_each, listing_is_history}
use Rattle.histories.proofs.Points.{opens_low}
use Rattle.old_journals.specs.Former.{former_level, before_8, from_8, former_block, former_grant, former_step}
use Rattle.old_journals.specs.Former.{former_from, former_reports, former_listing}
use Rattle.old_journals.specs.Promises.{AnsweredSince, AllAnsweredSince, LineAlike, LinesAlike, AnsweredAsBefore}

-- ---- one call

refused_unless : (k : ℕ) (S : State) (o : Outcome) → ¬ (k ≡ 0) → unless k S o ≡ refused k S
refused_unless zero S o ne = absurd (ne refl)
refused_unless (suc k) S o ne = refl

-- what a grant of level l does now, with 5 or 6 as the check of its size
abbrev now : ℕ → State → ℕ → ℕ → ℕ → Check → Outcome
now h S t l m size =
    unless (first (before_8 h S t m size ++ grant_holdings h S t l)) S
    (with_line (block_for h S.table t l) none (line_behind (repeats h S.table t l) S.line))

module _ (h : ℕ) (S : State) (c : Direct) (l m : ℕ) (size : Check) (asks : Asks h c l) (numbered : 0 < size.number) where
  abbrev its_node : ℕ
  its_node = node_at S.table (tenant_of c)

  abbrev earlier : List Check
  earlier = before_8 h S (tenant_of c) m size

  abbrev later : List Check
  later = from_8 h S (tenant_of c) l

  abbrev block : Outcome
  block = former_block h S (tenant_of c) l

  abbrev again : Outcome
  again = with_line (repeated S.table its_node) none S.line

  earlier_numbered : Numbered earlier
  earlier_numbered = (omega arith, (omega arith, (omega arith, (omega arith, (omega arith, (numbered, (omega arith, tt)))))))

  -- a repeated grant: what came before 8 still refuses it, and else 8 did
  if_repeated : 0 < its_node → level h its_node ≡ l → Dec (first earlier ≡ 0)
      → AnsweredSince h (direct c) (unless (first (earlier ++ later)) S block) (unless (first (earlier ++ [])) S again)
  if_repeated holds same (yes passed) =
      let eight : first (earlier ++ later) ≡ 8 = first_after_none earlier later earlier_numbered passed ∙ rw (lt-ltb 0 its_node holds) in
      let none_applies : first (earlier ++ []) ≡ 0 = first_after_none earlier [] earlier_numbered passed in
      AnsweredSince.repeated_now S c l refl asks holds same (ap (λ (n : ℕ). unless n S block) eight) (ap (λ (n : ℕ). unless n S again) none_applies)
  if_repeated holds same (no applies) =
      AnsweredSince.as_then
      (ap (λ (n : ℕ). unless n S again) (first_stands earlier [] applies)
      ∙ refused_unless (first earlier) S again applies
      ∙ sym (refused_unless (first earlier) S block applies)
      ∙ ap (λ (n : ℕ). unless n S block) (sym (first_stands earlier later applies)))

  grant_since : AnsweredSince h (direct c) (former_grant h S (tenant_of c) l m size) (now h S (tenant_of c) l m size)
  unfolding former_grant
  grant_since = go (repeats h S.table (tenant_of c) l) refl
    where
      passed : List ℕ
      passed = numbers_of (map once_more (waiting_in S.line))

      go : (b : Bool) → repeats h S.table (tenant_of c) l ≡ b
          → AnsweredSince h (direct c) (unless (first (earlier ++ later)) S block)
          (unless (first (earlier ++ cond b [] later)) S
          (with_line
          (cond b (repeated S.table its_node) (granted h S.table (layout_set h (one_block_more (counts_of h S.table) l)) (tenant_of c) l))
          none (cond b S.line passed)))
      go true r = let held = repeats_holds h S.table (tenant_of c) l r in if_repeated held.0 held.1 (ℕ_discrete (first earlier) 0)
      go false r = AnsweredSince.as_then refl

level_since : (h : ℕ) (S : State) (t l m : ℕ)
    → AnsweredSince h (direct (grant_level t l m)) (former_step h S (direct (grant_level t l m))) (step h S (direct (grant_level t l m)))
unfolding step former_step
level_since h S t l m = grant_since h S (grant_level t l m) l m (level_check h l) by_level (omega arith)

-- a number of pages above 0 takes the level that it took
named_since : (h : ℕ) (S : State) (t p m : ℕ)
    → AnsweredSince h (direct (grant_pages t (suc p) m)) (former_step h S (direct (grant_pages t (suc p) m)))
    (step h S (direct (grant_pages t (suc p) m)))
unfolding step level_for former_step former_level
named_since h S t p m = grant_since h S (grant_pages t (suc p) m) (least_level (suc p + 1)) m (pages_check h (suc p)) by_pages (omega arith)

-- 0 pages were answered as level 0 was: neither 5 nor 6 applied
none_was_level_0 : (h : ℕ) (S : State) (t m : ℕ) → former_step h S (direct (grant_level t 0 m)) ≡ former_step h S (direct (grant_pages t 0 m))
unfolding former_step former_grant former_level
none_was_level_0 h S t m = rw (le-ltb h 0 (omega arith), lt-leb (2 ^ h) 0 (pow_pos h))

none_since : (h : ℕ) (S : State) (t m : ℕ)
    → AnsweredSince h (direct (grant_level t 0 m)) (former_step h S (direct (grant_pages t 0 m))) (step h S (direct (grant_level t 0 m)))
none_since h S t m =
    let c = direct (grant_level t 0 m) in
    subst (λ (o : Outcome). AnsweredSince h c o (step h S c)) (none_was_level_0 h S t m) (level_since h S t 0 m)

-- either way the table and the line are the same
same_state : {h : ℕ} {c : Call} {old new : Outcome} → AnsweredSince h c old new → new.state ≡ old.state
same_state (AnsweredSince.as_then e) = ap (λ (o : Outcome). o.state) e
same_state (AnsweredSince.repeated_now S d l is a p q old new) = ap (λ (o : Outcome). o.state) new ∙ sym (ap (λ (o : Outcome). o.state) old)

-- ---- all calls of a journal

no_call : (h : ℕ) (S : State) → AllAnsweredSince h [] (former_from h S []) (outcomes_from h S [])
unfolding outcomes_from former_from
no_call h S = AllAnsweredSince.no_more

call_more : (h : ℕ) (S : State) (c d : Call) (cs ds : List Call) → AnsweredSince h c (former_step h S d) (step h S c)
    → AllAnsweredSince h cs (former_from h (step h S c).state ds) (outcomes_from h (step h S c).state cs)
    → AllAnsweredSince h (c ∷ cs) (former_from h S (d ∷ ds)) (outcomes_from h S (c ∷ cs))
unfolding outcomes_from former_from
call_more h S c d cs ds s more =
    AllAnsweredSince.one_more s
    (subst (λ (R : State). AllAnsweredSince h cs (former_from h R ds) (outcomes_from h (step h S c).state cs)) (same_state s) more)

all_since : (h : ℕ) (S : State) (rs : List Record)
    → AllAnsweredSince h (calls_of (map converted rs)) (former_from h S (calls_of rs)) (outcomes_from h S (calls_of (map converted rs)))
unfolding calls_of former_step
all_since h S [] = no_call h S
all_since h S (Record.Open height ∷ rs) = all_since h S rs
all_since h S (Record.GrantLevel t l ∷ rs) =
    let c = direct (grant_level t l 4) in call_more h S c c _ _ (level_since h S t l 4) (all_since h (step h S c).state rs)
all_since h S (Record.GrantPages t zero ∷ rs) =
    let c = direct (grant_level t 0 4) in call_more h S c (direct (grant_pages t 0 4)) _ _ (none_since h S t 4) (all_since h (step h S c).state rs)
all_since h S (Record.GrantPages t (suc p) ∷ rs) =
    let c = direct (grant_pages t (suc p) 4) in call_more h S c c _ _ (named_since h S t p 4) (all_since h (step h S c).state rs)
all_since h S (Record.Release t ∷ rs) =
    let c = direct (release t 4) in call_more h S c c _ _ (AnsweredSince.as_then refl) (all_since h (step h S c).state rs)
all_since h S (Record.Grow t l ∷ rs) =
    let c = direct (grow t l 7) in call_more h S c c _ _ (AnsweredSince.as_then refl) (all_since h (step h S c).state rs)
all_since h S (Record.Join t l ∷ rs) =
    let c = join t l in call_more h S c c _ _ (AnsweredSince.as_then refl) (all_since h (step h S c).state rs)
all_since h S (Record.Admit ∷ rs) =
    let c = admit 4 in call_more h S c c _ _ (AnsweredSince.as_then refl) (all_since h (step h S c).state rs)
all_since h S (Record.Withdraw t ∷ rs) =
    let c = withdraw t in call_more h S c c _ _ (AnsweredSince.as_then refl) (all_since h (step h S c).state rs)

-- ---- lines

-- what follows the letter; a grant of 0 pages and one of level 0 both have the size 0
abbrev rest_of : Record → ℕ → ℕ → Option ℕ → List Move → List ℕ
rest_of r answer node named moves = spaced (who_field r named ∷ size r ∷ decimal answer ∷ node_field r answer node ∷ move_fields moves) ++ bytes "\n"

line_parts : (n : ℕ) (r : Record) (answer node : ℕ) (named : Option ℕ) (moves : List Move)
    → line_of n r answer node named moves ≡ decimal n ++ byte " " ∷ letter r ∷ rest_of r answer node named moves
unfolding line_of spaced
line_parts n r answer node named moves = append_assoc (decimal n) _ (bytes "\n")

line_alike : (n : ℕ) (r s : Record) (answer node : ℕ) (named : Option ℕ) (moves : List Move) → Becomes r s
    → LineAlike r (line_of n r answer node named moves) (line_of n s answer node named moves)
line_alike n r s answer node named moves (Becomes.turned_over {tenant = tenant}) =
    rw (line_parts n (Record.GrantPages tenant 0) answer node named moves, line_parts n (Record.GrantLevel tenant 0) answer node named moves) letters
  where
    letters : LineAlike (Record.GrantPages tenant 0) (decimal n ++ byte " " ∷ byte "P" ∷ rest_of (Record.GrantPages tenant 0) answer node named moves)
        (decimal n ++ byte " " ∷ byte "G" ∷ rest_of (Record.GrantLevel tenant 0) answer node named moves)
    letters = LineAlike.other_letter n (rest_of (Record.GrantLevel tenant 0) answer node named moves)
line_alike n r s answer node named moves (Becomes.copied other) = LineAlike.same_line (line_of n r answer node named moves) other

-- a record with what it was answered, and its conversion with what that is
line_since : {h : ℕ} {c : Call} {old new : Outcome} (n : ℕ) (r : Record) → AnsweredSince h c old new
    → LineAlike r (line_with n r old) (line_with n (converted r) new)
line_since {old = old} n r (AnsweredSince.as_then e) =
    rw e (line_alike n r (converted r) old.answer old.node old.named old.moves (becomes r))
line_since n r (AnsweredSince.repeated_now S d l is a p q old new) = rw (old, new) (LineAlike.repeated_line n (node_at S.table (tenant_of d)) p)

-- with a report for each record
lines_alike : {h : ℕ} {cs : List Call} {olds news : List Outcome} (n : ℕ) (rs : List Record) → AllAnsweredSince h cs olds news
    → length olds ≡ length rs → LinesAlike rs (lines_after n rs olds) (lines_after n (map converted rs) news)
unfolding lines_after
lines_alike n [] all e = LinesAlike.no_more
lines_alike n (r ∷ rs) AllAnsweredSince.no_more e = absurd (omega arith)
lines_alike n (r ∷ rs) (AllAnsweredSince.one_more {old = old} {new = new} since all) e =
    LinesAlike.line_more (line_with (n + 1) r old) (line_with (n + 1) (converted r) new) (line_since (n + 1) r since)
    (lines_alike (n + 1) rs all (omega arith))

former_length : (h : ℕ) (S : State) (cs : List Call) → length (former_from h S cs) ≡ length cs
unfolding former_from
former_length h S [] = refl
former_length h S (c ∷ cs) = ap (λ (n : ℕ). suc n) (former_length h (former_step h S c).state cs)

-- ---- the whole journal

low_of_accepted : (h : ℕ) → Opens h → ltb 12 h ≡ false
low_of_accepted h accepted = le-ltb 12 h (opens_low h accepted (dec_le h 12))

module _ (j : List ℕ) (h : ℕ) (accepted : Opens h) (rs : List Record) (reading : Reading j 0 (Record.Open h ∷ rs) (Ok None)) where
  is_good : contents j ≡ record { records = Record.Open h ∷ rs; last = Ok None }
  is_good = (conversion_promise j).as_read (Record.Open h ∷ rs) (Ok None) reading ∙ rw (low_of_accepted h accepted)

  reads : Reading (converted_journal j) 0 (Record.Open h ∷ map converted rs) (Ok None)
  reads = rw is_good at ((conversion_promise j).reads_back (ap (λ (c : Contents). c.last) is_good))

  reports : AllAnsweredSince h (calls_of (map converted rs)) (former_reports h rs) (reported h accepted (map converted rs))
  reports = all_since h (open_reserve h vacant).state rs

  shown : Shows (converted_journal j) (Record.Open h ∷ map converted rs) (Ok None)
      → listing (converted_journal j) ≡ open_line h ++ lines_after 1 (map converted rs) (reported h accepted (map converted rs))
  shown (Shows.too_high high is) = absurd (omega (arith, ltb-false 12 h (low_of_accepted h accepted)))
  shown (Shows.history low opened calls is) = is ∙ rw append-nil

  lists : listing (converted_journal j) ≡ open_line h ++ lines_after 1 (map converted rs) (reported h accepted (map converted rs))
  lists = shown (listing_is_history (converted_journal j) (Record.Open h ∷ map converted rs) (Ok None) reads)

  one_report_each : length (former_reports h rs) ≡ length rs
  one_report_each = go reading
    where
      go : Reading j 0 (Record.Open h ∷ rs) (Ok None) → length (former_reports h rs) ≡ length rs
      go (Reading.record_then {next = next} e more) =
          former_length h (open_reserve h vacant).state (calls_of rs)
          ∙ one_call_each j more (omega (arith, next_offset j 0 (Record.Open h) next e))

  alike : LinesAlike (Record.Open h ∷ rs) (former_listing h rs) (listing (converted_journal j))
  alike = rw lists
      (LinesAlike.line_more (open_line h) (open_line h) (line_alike 1 (Record.Open h) (Record.Open h) 0 0 none [] (becomes (Record.Open h)))
      (lines_alike 1 rs reports one_report_each))

pub answered_as_before : AnsweredAsBefore
answered_as_before j h accepted rs reading = record {
  reads = reads j h accepted rs reading;
  reports = reports j h accepted rs reading;
  lists = lists j h accepted rs reading;
  alike = alike j h accepted rs reading;
}
