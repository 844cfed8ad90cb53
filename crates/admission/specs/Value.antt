-- What the functions' answers stand for.
use Rattle.std.specs.Prelude.{◌≡◌, List, [], ℕ, Result, Ok, Err}
use Rattle.std.proofs.Math.Option.{Option, none}
use Rattle.refusal.specs.declared.Refusal.{Refusal}
use Rattle.refusal.specs.Number.{number_in}
use Rattle.plans.specs.Plan.{moves_in, plan_of}
use Rattle.plans.specs.declared.Plan.{Plan}
use Rattle.line.specs.Line.{tenant_in}
use Rattle.rules.specs.Call.{least_entries as least_of}
use Rattle.rules.specs.Value.{call_of, node_in as node_done, plan_in as plan_done}
use Rattle.rules.specs.declared.Done.{Done}
use Rattle.admission.specs.Call.{State, Call, direct, admit}
use Rattle.admission.specs.Step.{Outcome}
use Rattle.admission.specs.declared.Admitted.{Admitted}
use Rattle.admission.specs.declared.Request.{Request}
use Rattle.admission.specs.declared.Request.TheVariants.{Direct, Admit}

-- a table and a line as they are lent
abbrev pub lent : List ℕ → List ℕ → State
lent T L = record { table = T; line = L }

-- the call, given the number of entries lent
abbrev pub requested : Request → ℕ → Call
requested (Direct c) m = direct (call_of c m)
requested Admit m = admit m

-- the fewest entries that it takes
abbrev pub least_entries : Request → ℕ
least_entries (Direct c) = least_of (call_of c 0)
least_entries Admit = 4

-- the node reported; 0 where refused
abbrev pub node_in : Result Admitted Refusal → ℕ
node_in (Ok a) = a.node
node_in (Err e) = 0

-- the tenant named; none where refused
abbrev pub named_in : Result Admitted Refusal → Option ℕ
named_in (Ok a) = tenant_in a.tenant
named_in (Err e) = none

-- the plan reported; no moves where refused
abbrev pub plan_in : Result Admitted Refusal → Plan
plan_in (Ok a) = a.plan
plan_in (Err e) = plan_of []

-- an answer with the moves of its plan and the tenant named, and the table and the line afterwards
abbrev pub admitted_of : Result Admitted Refusal → List ℕ → List ℕ → Outcome
admitted_of r T L = record {
  answer = number_in r;
  node = node_in r;
  named = named_in r;
  moves = moves_in (plan_in r);
  state = lent T L;
}

-- r, and the table T and the line L afterwards, are what the outcome o says, the plan's entries after its moves included
pub record Gives (o : Outcome) (r : Result Done Refusal) (T L : List ℕ) : Type 0 where
  pub answer : number_in r ≡ o.answer
  pub node : node_done r ≡ o.node
  pub plan : plan_done r ≡ plan_of o.moves
  pub state : lent T L ≡ o.state

-- the same of an admit, which names a tenant too
pub record GivesAdmitted (o : Outcome) (r : Result Admitted Refusal) (T L : List ℕ) : Type 0 where
  pub answer : number_in r ≡ o.answer
  pub node : node_in r ≡ o.node
  pub named : named_in r ≡ o.named
  pub plan : plan_in r ≡ plan_of o.moves
  pub state : lent T L ≡ o.state
