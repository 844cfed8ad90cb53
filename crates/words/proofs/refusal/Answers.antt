-- `refusal` meets its contract: the reason is put behind what could not be done.
use Rattle.std.proofs.Common.{refl, rules}
use Rattle.words.proofs.Messages.{adds_more, begins}
use Rattle.words.proofs.refusal.Goals as goal

pub returns : goal.returns
returns c = begins (adds_more c.cannot.ensures c.why.ensures) refl (search rules)
