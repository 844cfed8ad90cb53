-- `text::Text::number` meets its contract: a field is a space and its bytes.
use Rattle.lines.proofs.Texts.{grown_field}
use Rattle.lines.proofs.text.Text.number.Goals as goal

pub returns : goal.returns
returns c = grown_field c.push.ensures c.short_decimal.ensures
