-- `granting::grant::grant` meets its contract: what the line refuses, and else what the table does.
use mathlib.Core.Path.{refl, sym, ap, ◌∙◌}
use Rattle.std.proofs.lemmas.Result.{err_from_is_err_and}
use Rattle.refusal.specs.declared.Refusal.TheVariants.{NotInOrder}
use Rattle.refusal.proofs.Numbers.{not_zero}
use Rattle.rules.specs.Value.{call_of}
use Rattle.calls.proofs.Calling.{same_tenant}
use Rattle.admission.specs.Call.{direct}
use Rattle.admission.specs.Value.{lent}
use Rattle.granting.specs.Inner.{line_number}
use Rattle.admission.proofs.Arguments.{disorder_of_line}
use Rattle.granting.proofs.Behind.{refusal_given, form_of_line, first_of_disorder, first_of_line}
use Rattle.granting.proofs.grant.grant.Goals as goal

pub returns-then-not-in_order : goal.returns-then-not-in_order
returns-then-not-in_order c =
    let a = c.args in
    let S = lent a.table.now a.line.now in
    let out = disorder_of_line a.height S (sym c.in_order.ensures ∙ c.if-not-in_order.true) in
    let number = first_of_disorder a.height S (call_of a.call 7) c.requires.asks c.requires.arguments out in
    refusal_given a.height S (direct (call_of a.call 7)) NotInOrder number

pub line_refusal-requires-clause-form : goal.line_refusal-requires-clause-form
line_refusal-requires-clause-form c =
    form_of_line _ _ (call_of c.args.call 7) c.requires.arguments (sym c.in_order.ensures ∙ c.if-not-in_order.false)

pub returns-in_err-line_refusal : goal.returns-in_err-line_refusal
returns-in_err-line_refusal c =
    let p = err_from_is_err_and c.from_residual.result c.from_residual.ensures.1 in
    let a = c.args in
    let r = c.requires in
    let S = lent a.table.now a.line.now in
    let e = c.in_err-line_refusal.field-0.0 in
    let by_line = c.in_err-line_refusal.ensures
    ∙ ap (line_number S) (c.tenant.ensures ∙ sym (same_tenant a.height a.table.now 7 a.call)) in
    let number = first_of_line a.height S (call_of a.call 7) r.asks r.arguments (sym c.in_order.ensures ∙ c.if-not-in_order.false)
    r.looked.in_order _ by_line (not_zero e _ refl) in
    rw (p.1, p.2) (refusal_given a.height S (direct (call_of a.call 7)) e number)
