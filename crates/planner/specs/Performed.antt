-- What a call reports, and what it leaves in the lent table, the lent line and the lent list.
use Rattle.std.specs.Prelude.{◌≡◌, List, ◌++◌, ℕ, length, drop, Result, Ok, Err}
use Rattle.std.proofs.Math.Option.{Option, none}
use Rattle.refusal.specs.declared.Refusal.{Refusal}
use Rattle.refusal.specs.Number.{number_in}
use Rattle.table.specs.declared.Move.{Move}
use Rattle.line.specs.Line.{tenant_in}
use Rattle.admission.specs.Step.{Outcome, step}
use Rattle.admission.specs.Value.{requested, lent}
use Rattle.admission.specs.declared.Request.{Request}
use Rattle.planner.specs.declared.Report.{Report}

-- the node reported; 0 where refused
abbrev pub node_in : Result Report Refusal → ℕ
node_in (Ok r) = r.node
node_in (Err e) = 0

-- the tenant named; none where refused
abbrev pub named_in : Result Report Refusal → Option ℕ
named_in (Ok r) = tenant_in r.tenant
named_in (Err e) = none

-- the number of moves reported; none where refused
abbrev pub count_in : Result Report Refusal → ℕ
count_in (Ok r) = r.moves
count_in (Err e) = 0

-- r is the report of o, T' the table and L' the line afterwards, and M' the list: the moves from the top, and the entries after them as they were
-- in M. A refusal has no moves, so it leaves every entry.
pub record Listed (o : Outcome) (M : List Move) (r : Result Report Refusal) (T' L' : List ℕ) (M' : List Move) : Type 0 where
  pub answer : number_in r ≡ o.answer
  pub node : node_in r ≡ o.node
  pub named : named_in r ≡ o.named
  pub count : count_in r ≡ length o.moves
  pub state : lent T' L' ≡ o.state
  pub moves : M' ≡ o.moves ++ drop (length o.moves) M

-- r, T', L' and M' are what the call at height h makes of the table T, the line L and the list M
abbrev pub Performed : ℕ → Request → List ℕ → List ℕ → List Move → Result Report Refusal → List ℕ → List ℕ → List Move → Type 0
Performed h q T L M r T' L' M' = Listed (step h (lent T L) (requested q (length M))) M r T' L' M'
