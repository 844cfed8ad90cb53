-- What the functions' answers stand for: document 01's numbers and values.
use Rattle.std.specs.Prelude.{◌≡◌, List, [], ℕ, ◌≤◌, ◌<◌, length, get_or, Result, Ok, Err}
use Rattle.refusal.specs.declared.Refusal.{Refusal}
use Rattle.refusal.specs.Number.{number_in}
use Rattle.plans.specs.declared.Plan.{Plan}
use Rattle.rules.specs.Call.{Call, grant_level, grant_pages, release, grow}
use Rattle.rules.specs.Step.{Outcome}
use Rattle.plans.specs.Plan.{moves_in, no_move, plan_of}
use Rattle.rules.specs.declared.Call.{Call as Arguments}
use Rattle.rules.specs.declared.Call.TheVariants.{GrantLevel, GrantPages, Release, Grow}
use Rattle.rules.specs.declared.Done.{Done}

-- the call, given the number of entries lent
abbrev pub call_of : Arguments → ℕ → Call
call_of (GrantLevel t l) m = grant_level t l m
call_of (GrantPages t p) m = grant_pages t p m
call_of (Release t) m = release t m
call_of (Grow t l) m = grow t l m

-- the node reported; 0 where refused
abbrev pub node_in : Result Done Refusal → ℕ
node_in (Ok d) = d.node
node_in (Err e) = 0

-- the plan reported; no moves where refused
abbrev pub plan_in : Result Done Refusal → Plan
plan_in (Ok d) = d.plan
plan_in (Err e) = plan_of []

-- r, and the table T afterwards, are what the outcome o says, the plan's entries after its moves included
pub record Gives (o : Outcome) (r : Result Done Refusal) (T : List ℕ) : Type 0 where
  pub answer : number_in r ≡ o.answer
  pub node : node_in r ≡ o.node
  pub plan : plan_in r ≡ plan_of o.moves
  pub table : T ≡ o.table

-- an answer with the moves of its plan, and the table afterwards
abbrev pub value_of : Result Done Refusal → List ℕ → Outcome
value_of r T = record { answer = number_in r; node = node_in r; moves = moves_in (plan_in r); table = T }

-- a plan of at most seven moves, of tenants that the table has
pub record TenantsIn (T : List ℕ) (p : Plan) : Type 0 where
  pub few : p.n ≤ 7
  pub tenants : (i : ℕ) → i < p.n → (get_or p.moves i no_move).tenant < length T
