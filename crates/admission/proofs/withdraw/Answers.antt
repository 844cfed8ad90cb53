-- `admission::withdraw` meets its contract: the checks decide, and a tenant that passes them has a place to leave.
use mathlib.Core.Path.{sym, ap, ◌∙◌}
use Prim.Native.Nat.{ℕ}
use native.Mathlib.Omega.{arith}
use Rattle.std.proofs.lemmas.Result.{err_from_is_err_and}
use Rattle.line.specs.Line.{line_of, waiting_in}
use Rattle.line.specs.Changes.{without}
use Rattle.line.proofs.Ordered.{in_form}
use Rattle.admission.specs.Call.{withdraw}
use Rattle.admission.specs.Step.{Outcome}
use Rattle.admission.specs.Value.{lent}
use Rattle.admission.proofs.Answering.{step_refused, step_accepted}
use Rattle.admission.proofs.Joining.{line_to_leave, place_to_leave, place_left}
use Rattle.admission.proofs.withdraw.Goals as goal

pub returns-in_err-withdraw_refusal : goal.returns-in_err-withdraw_refusal
returns-in_err-withdraw_refusal c =
    let p = err_from_is_err_and c.from_residual.result c.from_residual.ensures.1 in
    let a = c.args in
    let refused = step_refused a.height (lent a.table.now a.line.now) (withdraw a.tenant) _ c.in_err-withdraw_refusal.ensures in
    rw (p.1, p.2) (record { answer = ap (λ (o : Outcome). o.answer) refused; line = ap (λ (o : Outcome). o.state.line) refused })

pub place_of-place-requires : goal.place_of-place-requires
place_of-place-requires c =
    let a = c.args in
    in_form _ _ _ (line_to_leave a.height (lent a.table.now a.line.now) a.tenant (sym c.in_ok-withdraw_refusal.ensures))

pub take_out-requires : goal.take_out-requires
take_out-requires c =
    let a = c.args in
    let S = lent a.table.now a.line.now in
    let passed = sym c.in_ok-withdraw_refusal.ensures in
    let inside = place_to_leave a.height S a.tenant passed in
    (in_form _ _ _ (line_to_leave a.height S a.tenant passed), omega (arith, c.place_of-place.ensures))

pub returns : goal.returns
returns c =
    let a = c.args in
    let S = lent a.table.now a.line.now in
    let done = step_accepted a.height S (withdraw a.tenant) c.in_ok-withdraw_refusal.ensures in
    record {
      answer = ap (λ (o : Outcome). o.answer) done;
      line = c.take_out.ensures
          ∙ ap (λ (k : ℕ). line_of (without k (waiting_in a.line.now))) c.place_of-place.ensures
          ∙ place_left a.height S a.tenant (sym c.in_ok-withdraw_refusal.ensures)
          ∙ ap (λ (o : Outcome). o.state.line) done;
    }
