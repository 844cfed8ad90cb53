-- `text::Text::short_decimal` meets its contract: a number of 16 bits has at most 5 digits.
use Rattle.std.proofs.Common.{arith}
use Rattle.lines.proofs.Decimal.{decimal_length}
use Rattle.lines.proofs.Texts.{grown_within}
use Rattle.lines.proofs.text.Text.short_decimal.Goals as goal

pub decimal-requires : goal.decimal-requires
decimal-requires c = omega (arith, decimal_length 4 c.args.number (omega arith))

pub returns : goal.returns
returns c = grown_within 5 (decimal_length 4 c.args.number (omega arith)) c.decimal.ensures
