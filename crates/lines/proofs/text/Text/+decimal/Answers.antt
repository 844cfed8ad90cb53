-- `text::Text::decimal` meets its contract: a number below 10 is its digit, another has the digits of its tenth and one more.
use Rattle.std.proofs.Common.{sym, length-append, arith}
use Rattle.lines.proofs.Decimal.{decimal_one, decimal_more, decimal_length}
use Rattle.lines.proofs.Texts.{grown_twice, grown_as, grown_within}
use Rattle.lines.proofs.text.Text.+decimal.Goals as goal

pub push-requires : goal.push-requires
push-requires t c = rw (decimal_one _ c.if-number-lt10.true) at c.requires

-- a number of 64 bits has at most 20 digits
pub returns-then-number-lt10 : goal.returns-then-number-lt10
returns-then-number-lt10 t c =
    grown_within 20 (decimal_length 19 c.args.number (omega arith)) (grown_as _ (sym (decimal_one _ c.if-number-lt10.true)) c.push.ensures)

pub decimal-requires : goal.decimal-requires
decimal-requires t c =
    let longer = rw (decimal_more _ c.if-number-lt10.false, length-append) at c.requires in
    (omega (arith, c.decreases), omega (arith, longer))

pub push-requires-2 : goal.push-requires-2
push-requires-2 t c =
    let longer = rw (decimal_more _ c.if-number-lt10.false, length-append) at c.requires in
    omega (arith, longer, c.decimal.ensures.size)

pub returns : goal.returns
returns t c =
    let both = grown_twice c.decimal.ensures c.push-2.ensures in
    grown_within 20 (decimal_length 19 c.args.number (omega arith)) (grown_as _ (sym (decimal_more _ c.if-number-lt10.false)) both)
