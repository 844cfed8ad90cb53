-- `part_name` meets its contract: the ending is put to the end of the name.
use Rattle.std.proofs.Common.{refl, rules}
use Rattle.words.proofs.Messages.{adds_more, begins}
use Rattle.words.proofs.part_name.Goals as goal

pub returns : goal.returns
returns c = begins (adds_more c.append.ensures c.append-2.ensures) refl (search rules)
