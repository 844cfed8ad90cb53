-- A request: what its arguments and the survey of its table decide.
use mathlib.Core.Path.{◌≡◌, refl, sym, subst, ◌∙◌}
use mathlib.Core.Bool.{true, false, not}
use mathlib.Core.List.{List}
use Prim.Native.Nat.{ℕ}
use borrow.Author.Tests.{not-true, not-false}
use lib.ListN.{length}
use Rattle.std.specs.Prelude.{Err}
use Rattle.refusal.specs.declared.Refusal.{Refusal}
use Rattle.refusal.specs.declared.Refusal.TheVariants.{NotInOrder}
use Rattle.refusal.specs.Number.{number_of}
use Rattle.refusal.proofs.Numbers.{not_zero}
use Rattle.survey.specs.Survey.{finding_of, owners_found}
use Rattle.survey.specs.declared.Finding.{Finding}
use Rattle.survey.proofs.Surveyed.{Surveyed, surveyed}
use Rattle.rules.specs.Step.{Check, first}
use Rattle.calls.specs.declared.change.Look.{Look}
use Rattle.calls.proofs.Changing.{looked}
use Rattle.admission.specs.Step.{checks, step}
use Rattle.admission.specs.Value.{requested, lent, GivesAdmitted}
use Rattle.admission.specs.Inner.{argument_checks}
use Rattle.admission.specs.declared.Request.{Request}
use Rattle.admission.proofs.Answering.{step_refused, admitted_same}
use Rattle.admission.proofs.Requests.{first_of_request, disorder_of_request, passed_lengths, passed_with_seven}
use Rattle.granting.specs.Inner.{Prepared}

module _ (h : ℕ) (T L : List ℕ) (q : Request) (m : ℕ) where
  abbrev numbers : List Check
  numbers = argument_checks h (length T) (length L) q m

  refused_with : (e : Refusal) → number_of e ≡ first (checks h (lent T L) (requested q m))
      → GivesAdmitted (step h (lent T L) (requested q m)) (Err e) T L
  refused_with e is =
      admitted_same (record { answer = refl; node = refl; named = refl; plan = refl; state = refl })
      (step_refused h (lent T L) (requested q m) e is)

  -- 1 to 6
  pub arguments_refused : (e : Refusal) → number_of e ≡ first numbers → GivesAdmitted (step h (lent T L) (requested q m)) (Err e) T L
  arguments_refused e is = refused_with e (first_of_request h (lent T L) m q (number_of e) is (not_zero e (number_of e) refl))

  -- past them, the survey tells of the table
  module _ (passed : first numbers ≡ 0) (owners : List ℕ) (found : Finding)
      (finding : found ≡ finding_of h T) (stored : owners ≡ owners_found h T) where
    shown : Surveyed h T owners found
    shown = let l = passed_lengths h (length T) (length L) m q passed in surveyed h T l.0 l.1 owners found finding stored

    pub table_refused : not found.in_order ≡ true → GivesAdmitted (step h (lent T L) (requested q m)) (Err NotInOrder) T L
    table_refused out =
        refused_with NotInOrder (disorder_of_request h (lent T L) m q passed (sym shown.order_tested ∙ not-true found.in_order out))

    pub prepared : not found.in_order ≡ false → (r : Request) → q ≡ r → {k : Look} → found.counts ≡ k.counts → owners ≡ k.owners.now
        → Prepared h (lent T L) r k
    prepared e r is {k} counted owned =
        subst (λ (r : Request). Prepared h (lent T L) r k) is (record {
          arguments = passed_with_seven h (length T) (length L) m q passed;
          looked = looked (subst (λ (o : List ℕ). Surveyed h T o found) owned shown) counted (not-false found.in_order e);
        })
