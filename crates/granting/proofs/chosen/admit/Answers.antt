-- `granting::chosen::admit` meets its contract: the order of the line decides, and then the first in line that fits, if there is one.
use mathlib.Core.Path.{sym, ◌∙◌}
use Rattle.line.proofs.Ordered.{in_form}
use Rattle.granting.proofs.Admitting.{disorder_given, pages_fit, line_to_admit, nobody_given, fits_there, one_given}
use Rattle.granting.proofs.chosen.admit.Goals as goal

pub returns-then-not-in_order : goal.returns-then-not-in_order
returns-then-not-in_order c = disorder_given _ _ _ c.requires (sym c.in_order.ensures ∙ c.if-not-in_order.true)

pub levels_that_fit-requires : goal.levels_that_fit-requires
levels_that_fit-requires c = pages_fit _ _ _ c.requires

pub choose-place-requires : goal.choose-place-requires
choose-place-requires c = in_form _ _ _ (line_to_admit _ _ _ c.requires (sym c.in_order.ensures ∙ c.if-not-in_order.false))

pub returns-then-line-place : goal.returns-then-line-place
returns-then-line-place c =
    nobody_given _ _ _ c.requires (sym c.in_order.ensures ∙ c.if-not-in_order.false) _ c.levels_that_fit.ensures _ c.choose-place.ensures
    c.if-line-place.true c.none.ensures

pub admit_at-requires-clause-place : goal.admit_at-requires-clause-place
admit_at-requires-clause-place c =
    (line_to_admit _ _ _ c.requires (sym c.in_order.ensures ∙ c.if-not-in_order.false), c.if-line-place.false)

pub admit_at-requires-clause-fits : goal.admit_at-requires-clause-fits
admit_at-requires-clause-fits c =
    fits_there _ _ _ c.requires (sym c.in_order.ensures ∙ c.if-not-in_order.false) _ c.levels_that_fit.ensures _ c.choose-place.ensures
    c.if-line-place.false

pub returns : goal.returns
returns c =
    one_given _ _ _ c.requires (sym c.in_order.ensures ∙ c.if-not-in_order.false) _ c.levels_that_fit.ensures _ c.choose-place.ensures
    c.if-line-place.false c.admit_at.ensures
