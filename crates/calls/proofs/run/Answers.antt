-- `calls::run` meets its contract: what the arguments refuse, and else what the table decides.
use mathlib.Core.Path.{sym}
use Rattle.std.proofs.lemmas.Result.{err_from_is_err_and}
use Rattle.rules.specs.Value.{call_of}
use Rattle.rules.proofs.Given.{gives_same, refusal_given}
use Rattle.calls.proofs.Calling.{call_refused, ready_to_change, sized_to_change, changes}
use Rattle.calls.proofs.run.Goals as goal

pub returns-in_err-call_refusal : goal.returns-in_err-call_refusal
returns-in_err-call_refusal c =
    let p = err_from_is_err_and c.from_residual.result c.from_residual.ensures.1 in
    let a = c.args in
    let T = a.table.now in
    let e = c.in_err-call_refusal.field-0.0 in
    rw (p.1, p.2)
    (gives_same (refusal_given e T) (call_refused a.height T (call_of a.call a.entries) e c.in_err-call_refusal.ensures))

pub change-requires : goal.change-requires
change-requires c =
    let a = c.args in
    let T = a.table.now in
    let passed = sym c.in_ok-call_refusal.ensures in
    record { ready = ready_to_change a.height T a.call a.entries passed; size = sized_to_change a.height T a.call a.entries passed }

pub returns : goal.returns
returns c =
    let a = c.args in
    gives_same c.change.ensures (changes a.height a.table.now a.call a.entries (sym c.in_ok-call_refusal.ensures))
