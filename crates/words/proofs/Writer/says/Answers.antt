-- `Writer::says` meets its contract: each part is put to the end of those before it.
use Rattle.words.proofs.Messages.{adds_more}
use Rattle.words.proofs.Writer.says.Goals as goal

pub returns : goal.returns
returns c = adds_more (adds_more c.append.ensures c.append-2.ensures) c.append-3.ensures
