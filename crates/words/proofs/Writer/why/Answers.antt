-- `Writer::why` meets its contract: each part is put to the end of those before it.
use Rattle.words.proofs.Messages.{adds_more}
use Rattle.words.proofs.Writer.why.Goals as goal

pub returns : goal.returns
returns c =
    let words = adds_more c.append.ensures (rw c.reason.ensures at c.append-2.ensures) in
    let number = rw c.from.ensures at c.number.ensures in
    adds_more words (adds_more (adds_more number c.number-2.ensures) c.append-3.ensures)
