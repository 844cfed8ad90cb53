-- What each call answers and what it leaves in the table and in the line, for every height, table, line and argument. Document 02, L7, with document
-- 01's "Refusals by place".
use Rattle.std.specs.Prelude.{Bool, not, cond, ◌&&◌, ◌||◌, List, [], ◌∷◌, ◌++◌, map, ℕ, zero, suc, ◌+◌, ◌^◌, eqb, ltb, leb, length, replicate}
use Rattle.std.proofs.Math.Option.{Option, some, none}
use Rattle.layout.specs.Layout.{pages}
use Rattle.table.specs.Table.{node_at, counts_of, in_order?}
use Rattle.table.specs.declared.Move.{Move}
use Rattle.sizes.specs.Level.{level_for}
use Rattle.line.specs.Line.{Waiting, line_of, waiting_in}
use Rattle.line.specs.Order.{waits, line_in_order?}
use Rattle.line.specs.Changes.{barred, joined, once_more, leave, choose}
use Rattle.rules.specs.Call.{Call as Direct, grant_level, grant_pages, release, grow}
use Rattle.rules.specs.Step.{Outcome as TableOutcome, Check, check, first, level_check, validity, repeats}
use Rattle.rules.specs.Step.{length_checks, checks as table_checks, accepted as table_accepted, step as table_step}
use Rattle.admission.specs.Call.{State, Call, direct, join, admit, withdraw}

-- what a call reports, and the state afterwards; an admit that granted somebody names the tenant
pub record Outcome : Type 0 where
  pub answer : ℕ
  pub node : ℕ
  pub named : Option ℕ
  pub moves : List Move
  pub state : State

-- what an outcome says of the table alone
abbrev pub on_table : Outcome → TableOutcome
on_table o = record { answer = o.answer; node = o.node; moves = o.moves; table = o.state.table }

-- a refusal: its number, node 0, nobody, no moves, and the state as it was
abbrev pub refused : ℕ → State → Outcome
refused number S = record { answer = number; node = 0; named = none; moves = []; state = S }

-- ---- the conditions, in order

-- 1, and 2 of a table with n entries and a line with k numbers
abbrev pub lent_checks : ℕ → ℕ → ℕ → List Check
lent_checks h n k = length_checks h n ++ check 2 (not (eqb k 193)) ∷ []

abbrev pub reserve_checks : ℕ → State → List Check
reserve_checks h S = lent_checks h (length S.table) (length S.line)

-- 7 of table and line
abbrev pub order_check : ℕ → State → Check
order_check h S = check 7 (not (in_order? h S.table && line_in_order? h S.table S.line))

-- the pages held and a block of level l are more than the reserve has
abbrev pub no_room : ℕ → List ℕ → ℕ → Bool
no_room h T l = ltb (2 ^ h) (pages (counts_of h T) + 2 ^ l)

-- 8, 18 and 10 of a direct grant of level l to tenant t, who counts as last in line; none of them applies to a repeated one
abbrev pub grant_holdings : ℕ → State → ℕ → ℕ → List Check
grant_holdings h S t l =
    cond (repeats h S.table t l) []
    (check 8 (ltb 0 (node_at S.table t))
    ∷ check 18 (waits t (waiting_in S.line))
    ∷ check 10 (barred (waiting_in S.line) || no_room h S.table l)
    ∷ [])

abbrev pub grant_checks : ℕ → State → Direct → ℕ → ℕ → List Check
grant_checks h S c t l = reserve_checks h S ++ validity h c ++ order_check h S ∷ grant_holdings h S t l

-- all of them, place by place; a release and a growth take no line
abbrev pub checks : ℕ → State → Call → List Check
checks h S (direct (grant_level t l m)) = grant_checks h S (grant_level t l m) t l
checks h S (direct (grant_pages t p m)) = grant_checks h S (grant_pages t p m) t (level_for h p)
checks h S (direct (release t m)) = table_checks h S.table (release t m)
checks h S (direct (grow t l m)) = table_checks h S.table (grow t l m)
checks h S (join t l) =
    reserve_checks h S
    ++ check 4 (ltb 4095 t)
    ∷ level_check h l
    ∷ order_check h S
    ∷ check 8 (ltb 0 (node_at S.table t))
    ∷ check 18 (waits t (waiting_in S.line))
    ∷ check 17 (leb 64 (length (waiting_in S.line)))
    ∷ []
checks h S (admit m) = reserve_checks h S ++ check 3 (ltb m 4) ∷ order_check h S ∷ []
checks h S (withdraw t) =
    reserve_checks h S ++ check 4 (ltb 4095 t) ∷ order_check h S ∷ check 9 (not (waits t (waiting_in S.line))) ∷ []

-- ---- the accepted calls

-- what a call does to the table, with a line that it leaves
abbrev pub with_line : TableOutcome → Option ℕ → List ℕ → Outcome
with_line o t L = record { answer = o.answer; node = o.node; named = t; moves = o.moves; state = record { table = o.table; line = L } }

-- a direct grant that gives a block passes everybody in line; a repeated one nobody
abbrev pub line_behind : Bool → List ℕ → List ℕ
line_behind repeated L = cond repeated L (line_of (map once_more (waiting_in L)))

abbrev pub line_after : ℕ → State → Direct → List ℕ
line_after h S (grant_level t l m) = line_behind (repeats h S.table t l) S.line
line_after h S (grant_pages t p m) = line_behind (repeats h S.table t (level_for h p)) S.line
line_after h S (release t m) = S.line
line_after h S (grow t l m) = S.line

-- level l fits: the pages held and a block of it are no more than the reserve has
abbrev pub fits : ℕ → List ℕ → ℕ → Bool
fits h T l = leb (pages (counts_of h T) + 2 ^ l) (2 ^ h)

-- Who is chosen is granted its level as by a direct grant, leaves the line, and those in front of it are passed once more; where nobody is, nothing
-- changes.
abbrev pub admission : ℕ → State → ℕ → Option Waiting → Outcome
admission h S m none = record { answer = 0; node = 0; named = none; moves = []; state = S }
admission h S m (some w) =
    with_line (table_step h S.table (grant_level w.tenant w.level m)) (some w.tenant)
    (line_of (leave once_more w.tenant (waiting_in S.line)))

-- a call that changes the line alone
abbrev pub line_changed : State → List Waiting → Outcome
line_changed S W = record { answer = 0; node = 0; named = none; moves = []; state = record { table = S.table; line = line_of W } }

abbrev pub accepted : ℕ → State → Call → Outcome
accepted h S (direct c) = with_line (table_accepted h S.table c) none (line_after h S c)
accepted h S (join t l) = line_changed S (joined t l (waiting_in S.line))
accepted h S (admit m) = admission h S m (choose (fits h S.table) (waiting_in S.line))
accepted h S (withdraw t) = line_changed S (leave (λ w. w) t (waiting_in S.line))

-- the refusal with this number, or what is done where it is 0
abbrev pub unless : ℕ → State → Outcome → Outcome
unless zero S done = done
unless (suc n) S done = refused (suc n) S

-- a call at height h on the state S
unfoldable pub step : ℕ → State → Call → Outcome
step h S c = unless (first (checks h S c)) S (accepted h S c)

-- opening at height h on a lent table and a lent line: every entry 0, and nobody waits
unfoldable pub open_reserve : ℕ → State → Outcome
open_reserve h S =
    unless (first (reserve_checks h S)) S
    (record { answer = 0; node = 0; named = none; moves = []; state = record { table = replicate 4096 0; line = line_of [] } })
