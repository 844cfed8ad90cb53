-- From the number that a call's checks give to what the call does, and from there to what the functions hand back.
use mathlib.Core.Path.{◌≡◌, refl, sym, ap, subst, ◌∙◌}
use mathlib.Core.List.{List, []}
use mathlib.Core.Option.{none}
use Prim.Native.Nat.{ℕ, zero, suc}
use lib.ListN.{length, replicate}
use Rattle.std.specs.Prelude.{Result}
use Rattle.refusal.specs.declared.Refusal.{Refusal}
use Rattle.refusal.specs.Number.{number_of}
use Rattle.refusal.proofs.Numbers.{not_zero}
use Rattle.line.specs.Line.{triples, line_of}
use Rattle.rules.specs.Step.{first}
use Rattle.admission.specs.Call.{State, Call}
use Rattle.admission.specs.Step.{Outcome, refused, reserve_checks, checks, accepted, unless, step, open_reserve}
use Rattle.admission.specs.Value.{lent, GivesAdmitted}
use Rattle.admission.specs.declared.Admitted.{Admitted}
use Rattle.admission.proofs.Arguments.{lengths_passed}

unless_refused : (k : ℕ) (S : State) (o : Outcome) → ¬ (k ≡ 0) → refused k S ≡ unless k S o
unless_refused zero S o found = absurd (found refl)
unless_refused (suc k) S o found = refl

-- what is done where k is the number that the checks give, if e has that number
refused_by : (e : Refusal) (k : ℕ) (S : State) (o : Outcome) → number_of e ≡ k → refused (number_of e) S ≡ unless k S o
refused_by e k S o is = ap (λ (n : ℕ). refused n S) is ∙ unless_refused k S o (not_zero e k is)

module _ (h : ℕ) (S : State) (c : Call) where
  pub step_refused : (e : Refusal) → number_of e ≡ first (checks h S c) → refused (number_of e) S ≡ step h S c
  unfolding step
  step_refused e = refused_by e (first (checks h S c)) S (accepted h S c)

  pub step_accepted : 0 ≡ first (checks h S c) → accepted h S c ≡ step h S c
  unfolding step
  step_accepted passed = ap (λ (n : ℕ). unless n S (accepted h S c)) passed

-- the same of an outcome that is equal
pub admitted_same : {o o' : Outcome} {r : Result Admitted Refusal} {T L : List ℕ} → GivesAdmitted o r T L → o ≡ o' → GivesAdmitted o' r T L
admitted_same {r = r} {T = T} {L = L} g e = subst (λ (p : Outcome). GivesAdmitted p r T L) e g

-- ---- an opening

-- a line in which nobody waits
line_of_nobody : replicate 193 0 ≡ line_of []
unfolding line_of triples
line_of_nobody = refl

abbrev opened : List ℕ → List ℕ → Outcome
opened T L = record { answer = 0; node = 0; named = none; moves = []; state = lent T L }

module _ (h : ℕ) (T L : List ℕ) where
  pub opening_refused : (e : Refusal) → number_of e ≡ first (reserve_checks h (lent T L))
      → refused (number_of e) (lent T L) ≡ open_reserve h (lent T L)
  unfolding open_reserve
  opening_refused e = refused_by e (first (reserve_checks h (lent T L))) (lent T L) (opened (replicate 4096 0) (line_of []))

  pub opening_done : 0 ≡ first (reserve_checks h (lent T L))
      → opened (replicate (length T) 0) (replicate (length L) 0) ≡ open_reserve h (lent T L)
  unfolding open_reserve
  opening_done passed =
      let l = lengths_passed h (length T) (length L) [] (sym passed) in
      rw (sym passed, l.entries, l.numbers) (ap (opened (replicate 4096 0)) line_of_nobody)
