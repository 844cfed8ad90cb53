-- `text::Text::moved` meets its contract: the field goes on with each part of the move.
use Rattle.lines.specs.Line.{move_field}
use Rattle.lines.proofs.Texts.{grown_on}
use Rattle.lines.proofs.text.Text.moved.Goals as goal

pub returns : goal.returns
unfolding move_field
returns c =
    let old = grown_on _ (grown_on _ c.number-tenant.ensures c.push.ensures) c.short_decimal-old.ensures in
    let separated = rw c.separator_of.ensures at c.push-2.ensures in
    grown_on _ (grown_on _ old separated) c.short_decimal.ensures
