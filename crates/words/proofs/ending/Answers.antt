-- `ending` meets its contract: the reason is put behind the name.
use Rattle.std.proofs.Common.{refl, rules}
use Rattle.words.proofs.Messages.{adds_more, begins}
use Rattle.words.proofs.ending.Goals as goal

pub returns : goal.returns
returns c = begins (adds_more c.says.ensures c.why.ensures) refl (search rules)
