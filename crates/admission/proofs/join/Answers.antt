-- `admission::join` meets its contract: the checks decide, and a line that passes them has a place for the tenant.
use mathlib.Core.Path.{sym, ap, ◌∙◌}
use Rattle.std.proofs.lemmas.Result.{err_from_is_err_and}
use Rattle.line.proofs.Ordered.{in_form}
use Rattle.admission.specs.Call.{join}
use Rattle.admission.specs.Step.{Outcome}
use Rattle.admission.specs.Value.{lent}
use Rattle.admission.proofs.Answering.{step_refused, step_accepted}
use Rattle.admission.proofs.Joining.{line_to_join, place_to_join}
use Rattle.admission.proofs.join.Goals as goal

pub returns-in_err-join_refusal : goal.returns-in_err-join_refusal
returns-in_err-join_refusal c =
    let p = err_from_is_err_and c.from_residual.result c.from_residual.ensures.1 in
    let a = c.args in
    let refused = step_refused a.height (lent a.table.now a.line.now) (join a.tenant a.level) _ c.in_err-join_refusal.ensures in
    rw (p.1, p.2) (record { answer = ap (λ (o : Outcome). o.answer) refused; line = ap (λ (o : Outcome). o.state.line) refused })

pub join-requires : goal.join-requires
join-requires c =
    let a = c.args in
    let S = lent a.table.now a.line.now in
    let none = sym c.in_ok-join_refusal.ensures in
    (in_form _ _ _ (line_to_join a.height S a.tenant a.level none), place_to_join a.height S a.tenant a.level none)

pub returns : goal.returns
returns c =
    let a = c.args in
    let done = step_accepted a.height (lent a.table.now a.line.now) (join a.tenant a.level) c.in_ok-join_refusal.ensures in
    record { answer = ap (λ (o : Outcome). o.answer) done; line = c.join.ensures ∙ ap (λ (o : Outcome). o.state.line) done }
