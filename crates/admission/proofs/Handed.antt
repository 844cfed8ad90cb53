-- From what a call hands back to its number, node, tenant, moves and state.
use mathlib.Core.Path.{◌≡◌, refl}
use mathlib.Core.List.{List}
use Prim.Native.Nat.{ℕ, zero, suc}
use Rattle.std.specs.Prelude.{Result}
use Rattle.refusal.specs.declared.Refusal.{Refusal}
use Rattle.plans.proofs.PlanOf.{moves_in_plan_of}
use Rattle.rules.specs.Step.{first}
use Rattle.admission.specs.Call.{State}
use Rattle.admission.specs.Step.{Outcome, reserve_checks, unless, open_reserve}
use Rattle.admission.specs.Value.{plan_in, admitted_of, GivesAdmitted}
use Rattle.admission.specs.declared.Admitted.{Admitted}

pub handed_back : {o : Outcome} {r : Result Admitted Refusal} {T L : List ℕ} → GivesAdmitted o r T L → admitted_of r T L ≡ o
handed_back {o} {r} {T} {L} g = λ i. record {
  answer = g.answer i;
  node = g.node i;
  named = g.named i;
  moves = moves i;
  state = g.state i;
}
  where
    moves : (admitted_of r T L).moves ≡ o.moves
    moves = moves_in_plan_of (plan_in r) o.moves g.plan

-- ---- a refused opening names no node

unless_no_node : (k : ℕ) (S : State) (o : Outcome) → o.node ≡ 0 → (unless k S o).node ≡ 0
unless_no_node zero S o p = p
unless_no_node (suc k) S o p = refl

pub opening_no_node : (h : ℕ) (S : State) → ¬ ((open_reserve h S).answer ≡ 0) → (open_reserve h S).node ≡ 0
unfolding open_reserve
opening_no_node h S q = unless_no_node (first (reserve_checks h S)) S _ refl
