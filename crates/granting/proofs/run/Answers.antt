-- `granting::run` meets its contract: what the arguments refuse, what the survey shows, and else what the request does.
use mathlib.Core.Path.{refl, sym}
use Rattle.std.proofs.lemmas.Result.{err_from_is_err_and}
use Rattle.admission.proofs.Requests.{passed_enough, direct_given, admit_given}
use Rattle.granting.proofs.Running.{arguments_refused, table_refused, prepared}
use Rattle.granting.proofs.run.Goals as goal

pub returns-in_err-refusal : goal.returns-in_err-refusal
returns-in_err-refusal c =
    let p = err_from_is_err_and c.from_residual.result c.from_residual.ensures.1 in
    let a = c.args in
    rw (p.1, p.2) (arguments_refused a.height a.table.now a.line.now a.request a.entries _ c.in_err-refusal.ensures)

pub returns-then-not-found : goal.returns-then-not-found
returns-then-not-found c =
    let a = c.args in
    let s = c.survey-found in
    table_refused a.height a.table.now a.line.now a.request a.entries (sym c.in_ok-refusal.ensures) s.new.owner s.result s.ensures.finding
    s.ensures.owners c.if-not-found.true

pub run_direct-requires : goal.run_direct-requires
run_direct-requires c =
    let a = c.args in
    let s = c.survey-found in
    prepared a.height a.table.now a.line.now a.request a.entries (sym c.in_ok-refusal.ensures) s.new.owner s.result s.ensures.finding
    s.ensures.owners c.if-not-found.false _ c.in-Direct.is refl refl

pub returns-in_err-done-in-Direct : goal.returns-in_err-done-in-Direct
returns-in_err-done-in-Direct c =
    let r = c.from_residual-in_err-done-in-Direct in
    let p = err_from_is_err_and r.result r.ensures.1 in
    let enough = passed_enough _ _ _ _ c.args.request (sym c.in_ok-refusal.ensures) in
    rw (p.1, p.2) (direct_given _ _ _ _ enough _ _ c.in-Direct.is c.in_err-done-in-Direct.ensures)

pub returns-in_ok-done-in-Direct : goal.returns-in_ok-done-in-Direct
returns-in_ok-done-in-Direct c =
    let enough = passed_enough _ _ _ _ c.args.request (sym c.in_ok-refusal.ensures) in
    direct_given _ _ _ _ enough _ _ c.in-Direct.is c.in_ok-done-in-Direct.ensures

pub admit-requires : goal.admit-requires
admit-requires c =
    let a = c.args in
    let s = c.survey-found in
    prepared a.height a.table.now a.line.now a.request a.entries (sym c.in_ok-refusal.ensures) s.new.owner s.result s.ensures.finding
    s.ensures.owners c.if-not-found.false _ c.in-Admit.is refl refl

pub returns-in-Admit : goal.returns-in-Admit
returns-in-Admit c =
    let enough = passed_enough _ _ _ _ c.args.request (sym c.in_ok-refusal.ensures) in
    admit_given _ _ _ _ enough c.in-Admit.is c.admit.ensures
