-- `objection` meets its contract: the word is put behind what is wrong with it.
use Rattle.std.proofs.Common.{refl, rules}
use Rattle.words.proofs.Messages.{adds_more, begins}
use Rattle.words.proofs.objection.Goals as goal

pub returns : goal.returns
returns c =
    let word = adds_more (adds_more c.says.ensures c.append.ensures) c.append-2.ensures in
    begins (adds_more word c.append-3.ensures) refl (search rules)
