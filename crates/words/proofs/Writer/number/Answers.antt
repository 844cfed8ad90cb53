-- `Writer::number` meets its contract: the number, of at most 20 digits, is put behind what it is.
use Rattle.std.proofs.Common.{arith, rules}
use Rattle.lines.proofs.Decimal.{decimal_length}
use Rattle.words.proofs.Messages.{adds_more}
use Rattle.words.proofs.Writer.number.Goals as goal

pub decimal-digits-requires : goal.decimal-digits-requires
decimal-digits-requires c = omega (arith, c.empty.ensures.size, decimal_length 19 c.args.number (omega arith))

pub returns : goal.returns
returns c = adds_more c.append.ensures (search rules)
