-- When an old journal is converted, and what its conversion is answered. Document 02, L4, with the repeated grant of L6.
use Rattle.std.specs.Prelude.{◌≡◌, List, [], ◌∷◌, ◌++◌, map, None, Result, Ok, Err, ℕ, ◌<◌, length}
use Rattle.std.proofs.Math.Option.{none}
use Rattle.refusal.specs.Number.{number_of}
use Rattle.journal.specs.declared.Record.{Record}
use Rattle.journal.specs.declared.RefusedAt.{RefusedAt}
use Rattle.journal.specs.Journal.{Reading}
use Rattle.lines.specs.Ascii.{byte}
use Rattle.lines.specs.Decimal.{decimal}
use Rattle.lines.specs.Line.{line_of, stop_line}
use Rattle.replay.specs.Listing.{listing}
use Rattle.conversion.specs.Conversion.{converted, converted_journal, judged}
use Rattle.tree.specs.Node.{level}
use Rattle.table.specs.Table.{node_at}
use Rattle.rules.specs.Call.{Call as Direct, tenant_of}
use Rattle.rules.specs.Step.{repeated}
use Rattle.rules.specs.Demand.{Asks}
use Rattle.admission.specs.Call.{State, Call, direct}
use Rattle.admission.specs.Step.{Outcome, refused, with_line}
use Rattle.histories.specs.Listing.{calls_of, Opens, reported, open_line, lines_after}
use Rattle.old_journals.specs.Former.{former_reports, former_listing}

-- ---- when

-- no byte is `!`
abbrev pub Unmarked : List ℕ → Type 0
Unmarked [] = Unit {0}
Unmarked (b ∷ bs) = ¬ (b ≡ byte "!") × Unmarked bs

-- what becomes of a journal, by how its listing ends: without a `!`, or with the one line of a refusal that begins with it
pub data AsListed (journal : List ℕ) : Result ℕ RefusedAt → Type 0 where
  without_mark : Unmarked (listing journal) → AsListed journal (Ok (length (converted_journal journal)))
  with_mark : {r : RefusedAt} (lines : List ℕ) → Unmarked lines → listing journal ≡ lines ++ stop_line r.offset (number_of r.refusal)
      → AsListed journal (Err r)

-- a journal is refused exactly if its listing ends with `!`, and with the number and the offset in that line
abbrev pub RefusedAsListed : Type 0
RefusedAsListed = (journal : List ℕ) → AsListed journal (judged journal)

-- ---- what the conversion is answered

-- what the call c of a converted record is answered, beside what the old record was
pub data AnsweredSince (h : ℕ) (c : Call) (old new : Outcome) : Type 0 where
  -- the same answer, node, named tenant, moves, table and line
  as_then : new ≡ old → AnsweredSince h c old new
  -- or c is a repeated grant (document 02, L6), to a tenant that holds a block of just its level in the state S: it was refused with 8, and is
  -- answered 0 and the tenant's node; nobody moves, nobody in line is passed, and table and line stay, as then
  repeated_now : (S : State) (d : Direct) (l : ℕ) → c ≡ direct d → Asks h d l → 0 < node_at S.table (tenant_of d)
      → level h (node_at S.table (tenant_of d)) ≡ l → old ≡ refused 8 S
      → new ≡ with_line (repeated S.table (node_at S.table (tenant_of d))) none S.line → AnsweredSince h c old new

-- all calls of converted records, one by one
pub data AllAnsweredSince (h : ℕ) : List Call → List Outcome → List Outcome → Type 0 where
  no_more : AllAnsweredSince h [] [] []
  one_more : {c : Call} {cs : List Call} {old new : Outcome} {olds news : List Outcome} → AnsweredSince h c old new
      → AllAnsweredSince h cs olds news → AllAnsweredSince h (c ∷ cs) (old ∷ olds) (new ∷ news)

-- the old line of a record, and the line of what becomes of it
pub data LineAlike : Record → List ℕ → List ℕ → Type 0 where
  -- a grant of 0 pages has the letter G for P, behind the ordinal and a space, and nothing else is another
  other_letter : {tenant : ℕ} (ordinal : ℕ) (rest : List ℕ)
      → LineAlike (Record.GrantPages tenant 0) (decimal ordinal ++ byte " " ∷ byte "P" ∷ rest) (decimal ordinal ++ byte " " ∷ byte "G" ∷ rest)
  -- every other record has the same line
  same_line : {r : Record} (line : List ℕ) → ((tenant : ℕ) → ¬ (r ≡ Record.GrantPages tenant 0)) → LineAlike r line line
  -- but a repeated grant has 0 and a node for 8
  repeated_line : {r : Record} (ordinal node : ℕ) → 0 < node
      → LineAlike r (line_of ordinal r 8 0 none []) (line_of ordinal (converted r) 0 node none [])

-- the lines of records, one by one
pub data LinesAlike : List Record → List ℕ → List ℕ → Type 0 where
  no_more : LinesAlike [] [] []
  line_more : {r : Record} {rs : List Record} (old new : List ℕ) {olds news : List ℕ} → LineAlike r old new → LinesAlike rs olds news
      → LinesAlike (r ∷ rs) (old ++ olds) (new ++ news)

-- a good journal, which reads as an open of height h and the records rs
pub record AnsweredAlike (journal : List ℕ) (h : ℕ) (accepted : Opens h) (rs : List Record) : Type 0 where
  -- the converted journal reads as the converted records
  pub reads : Reading (converted_journal journal) 0 (Record.Open h ∷ map converted rs) (Ok None)
  -- they are answered as the old ones were, record by record, but for repeated grants
  pub reports : AllAnsweredSince h (calls_of (map converted rs)) (former_reports h rs) (reported h accepted (map converted rs))
  -- the listing shows that
  pub lists : listing (converted_journal journal) ≡ open_line h ++ lines_after 1 (map converted rs) (reported h accepted (map converted rs))
  -- so it has the old listing's lines, but for repeated grants, and for the letter of the converted ones: their size is 0 before and after
  pub alike : LinesAlike (Record.Open h ∷ rs) (former_listing h rs) (listing (converted_journal journal))

-- the promise for every journal
abbrev pub AnsweredAsBefore : Type 0
AnsweredAsBefore = (journal : List ℕ) (h : ℕ) (accepted : Opens h) (rs : List Record) → Reading journal 0 (Record.Open h ∷ rs) (Ok None)
    → AnsweredAlike journal h accepted rs
