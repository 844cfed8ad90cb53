-- `change_line` meets its contract, by what `changed` does to the line that the bytes stand for.
use Rattle.reserve.proofs.Behind.{line_whole, line_done}
use Rattle.reserve.proofs.change_line.Goals as goal

pub encode-requires : goal.encode-requires
encode-requires c =
    line_whole c.args.height c.args.change c.decode-n.auto.numbers c.decode-k.auto.numbers c.decode-n.ensures.front c.decode-k.ensures.front
    c.changed.auto.line c.in_default.ensures.answer c.in_default.ensures.line

pub returns : goal.returns
returns c =
    line_done c.args.height c.args.change c.decode-n.auto.numbers c.decode-k.auto.numbers c.decode-n.ensures.front c.decode-k.ensures.front
    c.changed.auto.line c.in_default.ensures.answer c.in_default.ensures.line c.encode.ensures
