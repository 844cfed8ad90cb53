-- From an outcome to what a call hands back, and from there to its number, node and moves.
use mathlib.Core.Path.{◌≡◌, refl, sym, subst}
use mathlib.Core.List.{List, []}
use Prim.Native.Nat.{ℕ, zero, suc}
use Rattle.std.specs.Prelude.{Result, Err}
use Rattle.refusal.specs.declared.Refusal.{Refusal}
use Rattle.refusal.specs.Number.{number_of, number_in}
use Rattle.plans.proofs.PlanOf.{moves_in_plan_of}
use Rattle.sizes.specs.Level.{level_for}
use Rattle.rules.specs.Call.{Call, grant_level, grant_pages, release, grow}
use Rattle.rules.specs.Step.{Outcome, refused, first, reserve_checks, checks, accepted, unless, step, open_reserve}
use Rattle.rules.specs.Value.{plan_in, Gives, value_of}
use Rattle.rules.specs.declared.Done.{Done}
use Rattle.rules.proofs.Repeats.{block_answer}

-- ---- the same outcome by another name

pub gives_same : {o o' : Outcome} {r : Result Done Refusal} {T : List ℕ} → Gives o r T → o ≡ o' → Gives o' r T
gives_same {r = r} {T = T} g e = subst (λ (p : Outcome). Gives p r T) e g

-- ---- number, node and moves

pub value_given : {o : Outcome} {r : Result Done Refusal} {T : List ℕ} → Gives o r T → value_of r T ≡ o
value_given {o} {r} {T} g = λ i. record { answer = g.answer i; node = g.node i; moves = moves i; table = g.table i }
  where
    moves : (value_of r T).moves ≡ o.moves
    moves = moves_in_plan_of (plan_in r) o.moves g.plan

-- a refusal names no node, has no moves and leaves the table
pub refusal_given : (e : Refusal) (T : List ℕ) → Gives (refused (number_of e) T) (Err e) T
refusal_given e T = record { answer = refl; node = refl; plan = refl; table = refl }

pub unless_refuses : (k : ℕ) (T : List ℕ) (o : Outcome) → o.answer ≡ 0 → ¬ ((unless k T o).answer ≡ 0) → unless k T o ≡ refused k T
unless_refuses zero T o e ne = absurd (ne e)
unless_refuses (suc k) T o e ne = refl

pub accepted_answer : (h : ℕ) (T : List ℕ) (c : Call) → (accepted h T c).answer ≡ 0
accepted_answer h T (grant_level t l m) = block_answer h T t l
accepted_answer h T (grant_pages t p m) = block_answer h T t (level_for h p)
accepted_answer h T (release t m) = refl
accepted_answer h T (grow t l m) = refl

pub step_refuses : (h : ℕ) (T : List ℕ) (c : Call) → ¬ ((step h T c).answer ≡ 0) → step h T c ≡ refused (first (checks h T c)) T
unfolding step
step_refuses h T c = unless_refuses (first (checks h T c)) T (accepted h T c) (accepted_answer h T c)

-- ---- openings

opening_node : (k : ℕ) (T : List ℕ) (o : Outcome) → o.node ≡ 0 → o.moves ≡ [] → ((unless k T o).node ≡ 0) × ((unless k T o).moves ≡ [])
opening_node zero T o n m = (n, m)
opening_node (suc k) T o n m = (refl, refl)

-- the number and the table of an opening are its whole outcome: it names no node and moves nobody
pub value_of_opening : (h : ℕ) (T : List ℕ) (a : Result Unit Refusal) (T' : List ℕ) → number_in a ≡ (open_reserve h T).answer
    → T' ≡ (open_reserve h T).table → ◌≡◌ {A = Outcome} (record { answer = number_in a; node = 0; moves = []; table = T' }) (open_reserve h T)
unfolding open_reserve
value_of_opening h T a T' e t = λ i. record { answer = e i; node = sym none.0 i; moves = sym none.1 i; table = t i }
  where
    none : ((open_reserve h T).node ≡ 0) × ((open_reserve h T).moves ≡ [])
    none = opening_node (first (reserve_checks h T)) T _ refl refl
