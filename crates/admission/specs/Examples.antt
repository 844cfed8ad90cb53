-- Worked examples, row by row: a call, what it reports, and what it leaves. `proofs/Examples.antt` shows that each row is what `step` does, so a rule
-- that is wrong in a definition and in the statement about it is noticed here.
use Rattle.std.specs.Prelude.{◌≡◌, List, [], ◌∷◌, ◌++◌, map, ℕ, ◌-◌, length, replicate}
use Rattle.std.proofs.Math.Option.{Option, some, none}
use Rattle.layout.specs.Rows.{up_from}
use Rattle.table.specs.declared.Move.{Move}
use Rattle.carrying.specs.Samples.{move}
use Rattle.line.specs.Line.{Waiting, line_of}
use Rattle.line.specs.Samples.{one}
use Rattle.rules.specs.Call.{grant_level, grant_pages, release, grow}
use Rattle.admission.specs.Call.{State, Call, direct, join, admit, withdraw}
use Rattle.admission.specs.Step.{Outcome, step}

-- a call, what it reports, and afterwards the nodes of the first tenants, who are the only ones with a block, and who waits
pub record Row : Type 0 where
  pub call : Call
  pub answer : ℕ
  pub node : ℕ
  pub named : Option ℕ
  pub moves : List Move
  pub nodes : List ℕ
  pub waiting : List Waiting

-- calls at one height, from a table and a line that are given in the same way
pub record Example : Type 0 where
  pub height : ℕ
  pub nodes : List ℕ
  pub waiting : List Waiting
  pub rows : List Row

-- the table in which the first tenants have these nodes and the others nothing, and the line of these
abbrev pub state_with : List ℕ → List Waiting → State
state_with ns W = record { table = ns ++ replicate (4096 - length ns) 0; line = line_of W }

-- what a row says of its call
abbrev pub outcome_of : Row → Outcome
outcome_of r = record {
  answer = r.answer;
  node = r.node;
  named = r.named;
  moves = r.moves;
  state = state_with r.nodes r.waiting;
}

-- ---- how a row is written

-- a call that was done: node and moves, and what it left
abbrev pub done : Call → ℕ → List Move → List ℕ → List Waiting → Row
done c n ms ns W = record { call = c; answer = 0; node = n; named = none; moves = ms; nodes = ns; waiting = W }

-- an admit that named a tenant
abbrev pub admits_one : ℕ → ℕ → List Move → List ℕ → List Waiting → Row
admits_one t n ms ns W = record { call = admit 4; answer = 0; node = n; named = some t; moves = ms; nodes = ns; waiting = W }

-- a call that was refused with a number
abbrev pub refusing : Call → ℕ → List ℕ → List Waiting → Row
refusing c number ns W = record { call = c; answer = number; node = 0; named = none; moves = []; nodes = ns; waiting = W }

-- calls at height h, from a table with these nodes and nobody in line
abbrev pub from_nodes : ℕ → List ℕ → List Row → Example
from_nodes h ns rs = record { height = h; nodes = ns; waiting = []; rows = rs }

-- ---- the examples

-- document 01's listing, with line 4 as document 02, L2, has it; then tenant 0 grows to the level that it has (L5), and tenant 2 is started again
-- (L6)
abbrev pub document_01 : Example
document_01 =
    from_nodes 2 (0 ∷ 0 ∷ 0 ∷ 0 ∷ [])
    (done (direct (grant_level 0 1 4)) 2 [] (2 ∷ 0 ∷ 0 ∷ 0 ∷ []) []
    ∷ done (direct (grant_level 1 0 4)) 6 [] (2 ∷ 6 ∷ 0 ∷ 0 ∷ []) []
    ∷ done (direct (grant_level 2 0 4)) 5 (move 0 2 3 0 ∷ move 1 6 4 1 ∷ []) (3 ∷ 4 ∷ 5 ∷ 0 ∷ []) []
    ∷ refusing (direct (release 7 4)) 9 (3 ∷ 4 ∷ 5 ∷ 0 ∷ []) []
    ∷ refusing (direct (grant_pages 3 1 4)) 10 (3 ∷ 4 ∷ 5 ∷ 0 ∷ []) []
    ∷ done (direct (grow 0 1 7)) 3 [] (3 ∷ 4 ∷ 5 ∷ 0 ∷ []) []
    ∷ done (direct (grant_level 2 0 4)) 5 [] (3 ∷ 4 ∷ 5 ∷ 0 ∷ []) []
    ∷ refusing (direct (grant_level 2 1 4)) 8 (3 ∷ 4 ∷ 5 ∷ 0 ∷ []) []
    ∷ [])

-- document 01's grant at height 5 and the release after it; its nodes are held by the tenants from 0 on
abbrev pub height_5 : Example
height_5 =
    from_nodes 5 (16 ∷ 34 ∷ 9 ∷ 12 ∷ 5 ∷ 0 ∷ [])
    (done (direct (grant_level 5 1 4)) 17 (move 4 5 6 0 ∷ move 1 34 44 0 ∷ move 3 12 10 1 ∷ []) (16 ∷ 44 ∷ 9 ∷ 10 ∷ 6 ∷ 17 ∷ []) []
    ∷ done (direct (release 0 4)) 16 (move 5 17 16 0 ∷ move 1 44 34 0 ∷ move 4 6 5 0 ∷ move 3 10 12 1 ∷ []) (0 ∷ 34 ∷ 9 ∷ 12 ∷ 5 ∷ 16 ∷ []) []
    ∷ [])

-- a growth that moves seven others (L5): 3, 3, 3, 1, 3, 1, 1 and 2 blocks on the levels from 0 to 7, and tenant 3 grows from level 1 to level 5
abbrev pub seven : Example
seven =
    from_nodes 9 (512 ∷ 513 ∷ 532 ∷ 257 ∷ 258 ∷ 259 ∷ 130 ∷ 131 ∷ 132 ∷ 67 ∷ 34 ∷ 35 ∷ 38 ∷ 18 ∷ 14 ∷ 5 ∷ 6 ∷ [])
    (done (direct (grow 3 5 7)) 19
    (move 5 259 257 0
    ∷ move 2 532 518 0
    ∷ move 9 67 66 0
    ∷ move 15 5 7 0
    ∷ move 12 38 44 0
    ∷ move 8 132 134 1
    ∷ move 14 14 10 1
    ∷ [])
    (512 ∷ 513 ∷ 518 ∷ 19 ∷ 258 ∷ 257 ∷ 130 ∷ 131 ∷ 134 ∷ 66 ∷ 34 ∷ 35 ∷ 44 ∷ 18 ∷ 10 ∷ 7 ∷ 6 ∷ []) []
    ∷ [])

-- L7: tenants 1 and 2 wait. Growths pass nobody, a direct grant both, and made again nobody. The admit of tenant 2 passes tenant 1, who is in
-- front of it; a withdrawal passes nobody. Tenant 1 withdraws and joins again, behind tenant 4 and not passed yet, so that the admit of tenant 4
-- passes nobody.
abbrev pub passing : Example
passing =
    from_nodes 2 (0 ∷ 0 ∷ 0 ∷ 0 ∷ 0 ∷ [])
    (done (direct (grant_level 0 1 4)) 2 [] (2 ∷ 0 ∷ 0 ∷ 0 ∷ 0 ∷ []) []
    ∷ done (join 1 2) 0 [] (2 ∷ 0 ∷ 0 ∷ 0 ∷ 0 ∷ []) (one 1 2 0 ∷ [])
    ∷ done (direct (grow 0 0 7)) 4 [] (4 ∷ 0 ∷ 0 ∷ 0 ∷ 0 ∷ []) (one 1 2 0 ∷ [])
    ∷ done (direct (grow 0 1 7)) 2 [] (2 ∷ 0 ∷ 0 ∷ 0 ∷ 0 ∷ []) (one 1 2 0 ∷ [])
    ∷ done (join 2 0) 0 [] (2 ∷ 0 ∷ 0 ∷ 0 ∷ 0 ∷ []) (one 1 2 0 ∷ one 2 0 0 ∷ [])
    ∷ done (direct (grant_level 3 0 4)) 6 [] (2 ∷ 0 ∷ 0 ∷ 6 ∷ 0 ∷ []) (one 1 2 1 ∷ one 2 0 1 ∷ [])
    ∷ done (direct (grant_level 3 0 4)) 6 [] (2 ∷ 0 ∷ 0 ∷ 6 ∷ 0 ∷ []) (one 1 2 1 ∷ one 2 0 1 ∷ [])
    ∷ admits_one 2 5 (move 0 2 3 0 ∷ move 3 6 4 1 ∷ []) (3 ∷ 0 ∷ 5 ∷ 4 ∷ 0 ∷ []) (one 1 2 2 ∷ [])
    ∷ done (join 4 0) 0 [] (3 ∷ 0 ∷ 5 ∷ 4 ∷ 0 ∷ []) (one 1 2 2 ∷ one 4 0 0 ∷ [])
    ∷ done (withdraw 4) 0 [] (3 ∷ 0 ∷ 5 ∷ 4 ∷ 0 ∷ []) (one 1 2 2 ∷ [])
    ∷ done (join 4 0) 0 [] (3 ∷ 0 ∷ 5 ∷ 4 ∷ 0 ∷ []) (one 1 2 2 ∷ one 4 0 0 ∷ [])
    ∷ done (withdraw 1) 0 [] (3 ∷ 0 ∷ 5 ∷ 4 ∷ 0 ∷ []) (one 4 0 0 ∷ [])
    ∷ done (join 1 2) 0 [] (3 ∷ 0 ∷ 5 ∷ 4 ∷ 0 ∷ []) (one 4 0 0 ∷ one 1 2 0 ∷ [])
    ∷ done (admit 4) 0 [] (3 ∷ 0 ∷ 5 ∷ 4 ∷ 0 ∷ []) (one 4 0 0 ∷ one 1 2 0 ∷ [])
    ∷ done (direct (release 3 4)) 4 (move 0 3 2 0 ∷ move 2 5 6 1 ∷ []) (2 ∷ 0 ∷ 6 ∷ 0 ∷ 0 ∷ []) (one 4 0 0 ∷ one 1 2 0 ∷ [])
    ∷ admits_one 4 5 (move 0 2 3 0 ∷ move 2 6 4 1 ∷ []) (3 ∷ 0 ∷ 4 ∷ 0 ∷ 5 ∷ []) (one 1 2 0 ∷ [])
    ∷ [])

-- L7: tenant 1, passed for the eighth time, bars a direct grant and the admit of tenant 2 though a page is free; it is granted itself when it fits
abbrev pub barring : Example
barring =
    record {
      height = 2;
      nodes = 2 ∷ 0 ∷ 0 ∷ 0 ∷ 0 ∷ [];
      waiting = one 1 2 7 ∷ one 2 0 0 ∷ [];
      rows =
          done (direct (grant_level 3 0 4)) 6 [] (2 ∷ 0 ∷ 0 ∷ 6 ∷ 0 ∷ []) (one 1 2 8 ∷ one 2 0 1 ∷ [])
          ∷ refusing (direct (grant_level 4 0 4)) 10 (2 ∷ 0 ∷ 0 ∷ 6 ∷ 0 ∷ []) (one 1 2 8 ∷ one 2 0 1 ∷ [])
          ∷ done (admit 4) 0 [] (2 ∷ 0 ∷ 0 ∷ 6 ∷ 0 ∷ []) (one 1 2 8 ∷ one 2 0 1 ∷ [])
          ∷ done (direct (release 0 4)) 2 (move 3 6 4 0 ∷ []) (0 ∷ 0 ∷ 0 ∷ 4 ∷ 0 ∷ []) (one 1 2 8 ∷ one 2 0 1 ∷ [])
          ∷ done (direct (release 3 4)) 4 [] (0 ∷ 0 ∷ 0 ∷ 0 ∷ 0 ∷ []) (one 1 2 8 ∷ one 2 0 1 ∷ [])
          ∷ admits_one 1 1 [] (0 ∷ 1 ∷ 0 ∷ 0 ∷ 0 ∷ []) (one 2 0 1 ∷ [])
          ∷ [];
    }

-- the refusals by the arguments, at document 01's edges: three entries, and six for a growth; tenant 4,096; level h + 1; 2^h pages, with the guard
-- page (L1)
abbrev pub arguments : Example
arguments =
    from_nodes 3 (0 ∷ 0 ∷ [])
    (refusing (direct (grant_level 4096 4 3)) 3 (0 ∷ 0 ∷ []) []
    ∷ refusing (direct (grow 0 4 6)) 3 (0 ∷ 0 ∷ []) []
    ∷ refusing (admit 3) 3 (0 ∷ 0 ∷ []) []
    ∷ refusing (direct (release 4096 4)) 4 (0 ∷ 0 ∷ []) []
    ∷ refusing (join 4096 4) 4 (0 ∷ 0 ∷ []) []
    ∷ refusing (withdraw 4096) 4 (0 ∷ 0 ∷ []) []
    ∷ refusing (direct (grant_level 4095 4 4)) 5 (0 ∷ 0 ∷ []) []
    ∷ refusing (direct (grow 0 4 7)) 5 (0 ∷ 0 ∷ []) []
    ∷ refusing (join 0 4) 5 (0 ∷ 0 ∷ []) []
    ∷ refusing (direct (grant_pages 0 8 4)) 6 (0 ∷ 0 ∷ []) []
    ∷ [])

-- the refusals by who holds and who waits, and for want of pages; a grant by pages passes as one by level does
abbrev pub holders : Example
holders =
    from_nodes 3 (0 ∷ 0 ∷ [])
    (refusing (direct (grow 0 3 7)) 9 (0 ∷ 0 ∷ []) []
    ∷ refusing (withdraw 0) 9 (0 ∷ 0 ∷ []) []
    ∷ done (direct (grant_pages 0 3 4)) 2 [] (2 ∷ 0 ∷ []) []
    ∷ refusing (direct (grant_pages 1 7 4)) 10 (2 ∷ 0 ∷ []) []
    ∷ refusing (direct (grant_pages 1 0 4)) 10 (2 ∷ 0 ∷ []) []
    ∷ refusing (join 0 0) 8 (2 ∷ 0 ∷ []) []
    ∷ done (join 1 3) 0 [] (2 ∷ 0 ∷ []) (one 1 3 0 ∷ [])
    ∷ refusing (join 1 0) 18 (2 ∷ 0 ∷ []) (one 1 3 0 ∷ [])
    ∷ refusing (direct (grant_level 1 0 4)) 18 (2 ∷ 0 ∷ []) (one 1 3 0 ∷ [])
    ∷ done (direct (release 0 4)) 2 [] (0 ∷ 0 ∷ []) (one 1 3 0 ∷ [])
    ∷ done (direct (grant_pages 0 3 4)) 2 [] (2 ∷ 0 ∷ []) (one 1 3 1 ∷ [])
    ∷ done (direct (release 0 4)) 2 [] (0 ∷ 0 ∷ []) (one 1 3 1 ∷ [])
    ∷ admits_one 1 1 [] (0 ∷ 1 ∷ []) []
    ∷ [])

-- height 13, and a table and a line that are not in order: node 4 lies under node 2, and a tenant was passed nine times
abbrev pub out_of_order : List Example
out_of_order =
    from_nodes 13 [] (refusing (admit 3) 1 [] [] ∷ refusing (direct (release 0 3)) 1 [] [] ∷ [])
    ∷ from_nodes 2 (2 ∷ 4 ∷ [])
    (refusing (direct (release 0 4)) 7 (2 ∷ 4 ∷ []) [] ∷ refusing (join 2 0) 7 (2 ∷ 4 ∷ []) [] ∷ refusing (admit 4) 7 (2 ∷ 4 ∷ []) [] ∷ [])
    ∷ record {
      height = 2;
      nodes = 2 ∷ 0 ∷ [];
      waiting = one 1 0 9 ∷ [];
      rows =
          refusing (direct (grant_level 0 1 4)) 7 (2 ∷ 0 ∷ []) (one 1 0 9 ∷ [])
          ∷ done (direct (release 0 4)) 2 [] (0 ∷ 0 ∷ []) (one 1 0 9 ∷ [])
          ∷ [];
    }
    ∷ []

-- L7: 64 wait
abbrev pub waiters : List Waiting
waiters = map (λ t. one t 0 0) (up_from 0 64)

abbrev pub line_of_64 : Example
line_of_64 = record { height = 0; nodes = []; waiting = waiters; rows = refusing (join 64 0) 17 [] waiters ∷ refusing (join 63 0) 18 [] waiters ∷ [] }

abbrev pub examples : List Example
examples = document_01 ∷ height_5 ∷ seven ∷ passing ∷ barring ∷ arguments ∷ holders ∷ line_of_64 ∷ out_of_order

-- ---- what is said of them

-- each row is what `step` does on what the row before it left
unfoldable pub AsWritten : ℕ → List ℕ → List Waiting → List Row → Type 0
AsWritten h ns W [] = Unit {0}
AsWritten h ns W (r ∷ rs) = (step h (state_with ns W) r.call ≡ outcome_of r) × AsWritten h r.nodes r.waiting rs

unfoldable pub AllAsWritten : List Example → Type 0
AllAsWritten [] = Unit {0}
AllAsWritten (e ∷ es) = AsWritten e.height e.nodes e.waiting e.rows × AllAsWritten es
