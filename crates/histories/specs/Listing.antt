-- A listing shows a history: the answers, nodes, named tenants and moves in its lines are those of `step` along the calls of its records.
use Rattle.std.specs.Prelude.{◌≡◌, List, [], ◌∷◌, ◌++◌, map, Ok, Err, ℕ, ◌+◌, ◌≤◌, ◌<◌, length}
use Rattle.std.proofs.Math.Option.{none}
use Rattle.refusal.specs.Number.{number_of}
use Rattle.journal.specs.declared.Record.{Record}
use Rattle.journal.specs.Reader.{Read}
use Rattle.journal.specs.Journal.{Reading}
use Rattle.rules.specs.Call.{grant_level, grant_pages, release, grow}
use Rattle.admission.specs.Call.{State, Call, direct, join, admit, withdraw}
use Rattle.admission.specs.Step.{Outcome, step, open_reserve}
use Rattle.boxes.specs.History.{History, Reply, reply, state_after, Book, book_from}
use Rattle.boxes.specs.Demand.{Box, Boxes}
use Rattle.lines.specs.Line.{line_of, stop_line}
use Rattle.replay.specs.Listing.{vacant, listing}

-- ---- the history of a journal

-- the call that a record stands for, with four move entries lent, or seven for a growth; an open stands for none
abbrev pub call_of : Record → List Call
call_of (Record.Open height) = []
call_of (Record.GrantLevel tenant level) = direct (grant_level tenant level 4) ∷ []
call_of (Record.GrantPages tenant pages) = direct (grant_pages tenant pages 4) ∷ []
call_of (Record.Release tenant) = direct (release tenant 4) ∷ []
call_of (Record.Grow tenant level) = direct (grow tenant level 7) ∷ []
call_of (Record.Join tenant level) = join tenant level ∷ []
call_of Record.Admit = admit 4 ∷ []
call_of (Record.Withdraw tenant) = withdraw tenant ∷ []

-- the calls that records stand for
unfoldable pub calls_of : List Record → List Call
calls_of [] = []
calls_of (r ∷ rs) = call_of r ++ calls_of rs

-- the opening of an empty table and an empty line at height h is accepted
abbrev pub Opens : ℕ → Type 0
Opens h = (open_reserve h vacant).answer ≡ 0

-- the history of an open and the records after it
abbrev pub history_of : (h : ℕ) → Opens h → List Record → History h
history_of h accepted rs = record { lent = vacant; opened = accepted; calls = calls_of rs }

-- what calls report, each on the table and the line that the last one left
unfoldable pub outcomes_from : ℕ → State → List Call → List Outcome
outcomes_from h S [] = []
outcomes_from h S (c ∷ cs) = step h S c ∷ outcomes_from h (step h S c).state cs

-- what the calls of a whole history report
abbrev pub outcomes_of : (h : ℕ) → History h → List Outcome
outcomes_of h H = outcomes_from h (open_reserve h H.lent).state H.calls

-- the same for the history of records
abbrev pub reported : (h : ℕ) → Opens h → List Record → List Outcome
reported h accepted rs = outcomes_of h (history_of h accepted rs)

-- ---- its lines

-- the open's line
abbrev pub open_line : ℕ → List ℕ
open_line h = line_of 1 (Record.Open h) 0 0 none []

-- the line of a record with what its call reported
abbrev pub line_with : ℕ → Record → Outcome → List ℕ
line_with n r o = line_of n r o.answer o.node o.named o.moves

-- the lines of records with what their calls reported, after n others
unfoldable pub lines_after : ℕ → List Record → List Outcome → List ℕ
lines_after n [] os = []
lines_after n (r ∷ rs) [] = []
lines_after n (r ∷ rs) (o ∷ os) = line_with (n + 1) r o ++ lines_after (n + 1) rs os

-- what follows them: nothing at the end of the journal, else the line of the refusal; a reading does not end with a record
abbrev pub last_line : Read → List ℕ
last_line (Ok read) = []
last_line (Err e) = stop_line e.offset (number_of e.refusal)

-- what the listing of a journal is, by the records read in it and the answer that ends them
pub data Shows (journal : List ℕ) : List Record → Read → Type 0 where
  -- no record is read
  nothing_read : {last : Read} → listing journal ≡ last_line last → Shows journal [] last
  -- the open is refused for its height, which ends the listing
  too_high : {h : ℕ} {rs : List Record} {last : Read} → 12 < h → listing journal ≡ stop_line 0 1 → Shows journal (Record.Open h ∷ rs) last
  -- every record after the open is a call, and their lines show what the calls of the history report
  history : {h : ℕ} {rs : List Record} {last : Read} → h ≤ 12 → (accepted : Opens h) → length (calls_of rs) ≡ length rs
      → listing journal ≡ open_line h ++ lines_after 1 rs (reported h accepted rs) ++ last_line last
      → Shows journal (Record.Open h ∷ rs) last

-- what the listing is, by how the journal reads; that every journal reads in some way is `reading_ends` in journal/proofs/Whole.antt
abbrev pub ListingIsHistory : Type 0
ListingIsHistory = (journal : List ℕ) (rs : List Record) (last : Read) → Reading journal 0 rs last → Shows journal rs last

-- ---- the promises at every point of a listing

-- the table and the line after an open of height h and the records so far
abbrev pub state_at : (h : ℕ) → Opens h → List Record → State
state_at h accepted rs = state_after h (history_of h accepted rs)

-- the book of calls after an opening at height h: from their arguments, the numbers that they answered and the tenants that they named alone
abbrev pub book_of : ℕ → List Call → List Reply → Book
book_of h calls replies = book_from h (record { holdings = λ t. none; events = [] }) calls replies

-- the book then: from the records' arguments, and the answers and the named tenants in their lines
abbrev pub book_at : (h : ℕ) → Opens h → List Record → Book
book_at h accepted rs = book_of h (calls_of rs) (map reply (reported h accepted rs))

-- The lines of records tell the book of their calls: whatever calls have reported, equal lines come from equal records, and have one book. (That
-- every record after the open stands for a call is said in `Shows`.)
abbrev pub LinesTellBook : Type 0
LinesTellBook = (h n : ℕ) (rs rs' : List Record) (os os' : List Outcome) → length os ≡ length rs → length os' ≡ length rs'
    → length (calls_of rs) ≡ length rs → lines_after n rs os ≡ lines_after n rs' os'
    → (rs ≡ rs') × (book_of h (calls_of rs) (map reply os) ≡ book_of h (calls_of rs') (map reply os'))

-- a point of a listing: the lines so far and those to come, and what holds of the table, the line and the book there
pub record Point (journal : List ℕ) (h : ℕ) (accepted : Opens h) (before after : List Record) (last : Read) : Type 0 where
  pub lines : listing journal
      ≡ open_line h ++ lines_after 1 before (reported h accepted before)
      ++ lines_after (1 + length before) after (outcomes_from h (state_at h accepted before) (calls_of after)) ++ last_line last
  pub box : Box h (state_at h accepted before) (book_at h accepted before)

-- the promises of a history hold after every line of a listing
abbrev pub PromisesOfListing : Type 0
PromisesOfListing = (journal : List ℕ) (h : ℕ) (accepted : Opens h) (before after : List Record) (last : Read)
    → Reading journal 0 (Record.Open h ∷ before ++ after) last → Point journal h accepted before after last

-- demand 3 for any two points of listings at one height
abbrev pub ListingsDemand3 : Type 0
ListingsDemand3 = (h : ℕ) (accepted : Opens h) (before₁ before₂ : List Record)
    → Boxes h (state_at h accepted before₁) (state_at h accepted before₂) (book_at h accepted before₁) (book_at h accepted before₂)
