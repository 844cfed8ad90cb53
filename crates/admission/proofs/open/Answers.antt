-- `admission::open` meets its contract: the checks decide, and a table and a line of the right lengths are cleared.
use mathlib.Core.Path.{ap, ap₂, ◌∙◌}
use Rattle.std.proofs.lemmas.Result.{err_from_is_err_and}
use Rattle.admission.specs.Step.{Outcome}
use Rattle.admission.specs.Value.{lent}
use Rattle.admission.proofs.Answering.{opening_refused, opening_done}
use Rattle.admission.proofs.open.Goals as goal

pub returns-in_err-reserve_refusal : goal.returns-in_err-reserve_refusal
returns-in_err-reserve_refusal c =
    let p = err_from_is_err_and c.from_residual.result c.from_residual.ensures.1 in
    let refused = opening_refused c.args.height c.args.table.now c.args.line.now _ c.in_err-reserve_refusal.ensures in
    rw (p.1, p.2) (record { answer = ap (λ (o : Outcome). o.answer) refused; state = ap (λ (o : Outcome). o.state) refused })

pub returns : goal.returns
returns c =
    let done = opening_done c.args.height c.args.table.now c.args.line.now c.in_ok-reserve_refusal.ensures in
    let cleared = ap₂ lent (c.fill.ensures.after (λ y is. is)) (c.fill-2.ensures.after (λ y is. is)) in
    record { answer = ap (λ (o : Outcome). o.answer) done; state = cleared ∙ ap (λ (o : Outcome). o.state) done }
