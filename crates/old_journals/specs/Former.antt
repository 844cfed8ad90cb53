-- The rules before document 02, L4, by which old journals were answered: 0 pages took level 0, and every grant to a tenant that holds a block was
-- refused with 8, a repeated one too (document 02, L6). All else was as it is. Old journals have no growths, joins, admits and withdrawals: those,
-- and a grant behind a line, are answered as they are now.
use Rattle.std.specs.Prelude.{◌||◌, List, [], ◌∷◌, ◌++◌, map, ℕ, zero, suc, ◌+◌, ltb}
use Rattle.std.proofs.Math.Option.{none}
use Rattle.layout.specs.Set.{layout_set}
use Rattle.layout.specs.Change.{one_block_more}
use Rattle.table.specs.Table.{node_at, counts_of}
use Rattle.line.specs.Line.{line_of, waiting_in}
use Rattle.line.specs.Order.{waits}
use Rattle.line.specs.Changes.{barred, once_more}
use Rattle.journal.specs.declared.Record.{Record}
use Rattle.sizes.specs.Level.{least_level}
use Rattle.rules.specs.Call.{grant_level, grant_pages, release, grow}
use Rattle.rules.specs.Step.{Check, check, first, list_checks, level_check, pages_check, granted}
use Rattle.admission.specs.Call.{State, Call, direct, join, admit, withdraw}
use Rattle.admission.specs.Step.{Outcome, reserve_checks, order_check, no_room, with_line, unless, step, open_reserve}
use Rattle.replay.specs.Listing.{vacant}
use Rattle.histories.specs.Listing.{calls_of, open_line, lines_after}

-- the level that a grant by pages took: 0 names no size and took level 0; any other number took what it takes now (document 02, L1)
unfoldable pub former_level : ℕ → ℕ
former_level zero = 0
former_level (suc p) = least_level (suc p + 1)

-- what came before 8, for a grant with 5 or 6 as the check of its size
abbrev pub before_8 : ℕ → State → ℕ → ℕ → Check → List Check
before_8 h S t m size = reserve_checks h S ++ list_checks 4 t m ++ size ∷ order_check h S ∷ []

-- 8 for every holder, and the others from there on
abbrev pub from_8 : ℕ → State → ℕ → ℕ → List Check
from_8 h S t l =
    check 8 (ltb 0 (node_at S.table t))
    ∷ check 18 (waits t (waiting_in S.line))
    ∷ check 10 (barred (waiting_in S.line) || no_room h S.table l)
    ∷ []

-- a block of level l for tenant t, which passes everybody in line
abbrev pub former_block : ℕ → State → ℕ → ℕ → Outcome
former_block h S t l =
    with_line (granted h S.table (layout_set h (one_block_more (counts_of h S.table) l)) t l) none (line_of (map once_more (waiting_in S.line)))

-- what a grant of level l did
unfoldable pub former_grant : ℕ → State → ℕ → ℕ → ℕ → Check → Outcome
former_grant h S t l m size = unless (first (before_8 h S t m size ++ from_8 h S t l)) S (former_block h S t l)

-- what a call did: the others did what they do
unfoldable pub former_step : ℕ → State → Call → Outcome
former_step h S (direct (grant_level t l m)) = former_grant h S t l m (level_check h l)
former_step h S (direct (grant_pages t p m)) = former_grant h S t (former_level p) m (pages_check h p)
former_step h S (direct (release t m)) = step h S (direct (release t m))
former_step h S (direct (grow t l m)) = step h S (direct (grow t l m))
former_step h S (join t l) = step h S (join t l)
former_step h S (admit m) = step h S (admit m)
former_step h S (withdraw t) = step h S (withdraw t)

-- what calls reported, each on the table and the line that the last one left
unfoldable pub former_from : ℕ → State → List Call → List Outcome
former_from h S [] = []
former_from h S (c ∷ cs) = former_step h S c ∷ former_from h (former_step h S c).state cs

-- what the calls of a journal reported, that has an open of height h and then these records
abbrev pub former_reports : (h : ℕ) → List Record → List Outcome
former_reports h rs = former_from h (open_reserve h vacant).state (calls_of rs)

-- and its listing
abbrev pub former_listing : (h : ℕ) → List Record → List ℕ
former_listing h rs = open_line h ++ lines_after 1 rs (former_reports h rs)
