-- `calls::change::change` meets its contract: a table that is not in order is refused, and on any other the call goes on with what the survey shows.
use mathlib.Core.Path.{refl, sym, ◌∙◌}
use borrow.Author.Tests.{not-true, not-false}
use Rattle.survey.proofs.Surveyed.{surveyed}
use Rattle.rules.specs.Value.{call_of}
use Rattle.refusal.specs.declared.Refusal.TheVariants.{NotInOrder}
use Rattle.rules.proofs.Given.{gives_same, refusal_given}
use Rattle.calls.proofs.Changing.{looked, change_disordered}
use Rattle.calls.proofs.change.change.Goals as goal

pub returns-then-not-found : goal.returns-then-not-found
returns-then-not-found c =
    let a = c.args in
    let r = c.requires.ready in
    let found = c.survey-found.ensures in
    let shown = surveyed a.height a.table.now r.height r.entries _ _ found.finding found.owners in
    let disordered = sym shown.order_tested ∙ not-true _ c.if-not-found.true in
    gives_same (refusal_given NotInOrder _) (change_disordered a.height a.table.now (call_of a.call 0) disordered)

pub settle-requires-clause-looked : goal.settle-requires-clause-looked
settle-requires-clause-looked c =
    let a = c.args in
    let r = c.requires.ready in
    let found = c.survey-found.ensures in
    let shown = surveyed a.height a.table.now r.height r.entries _ _ found.finding found.owners in
    looked shown refl (not-false _ c.if-not-found.false)
