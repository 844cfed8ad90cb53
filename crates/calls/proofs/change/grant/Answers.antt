-- `calls::change::grant` meets its contract: a holder is answered without a change, and any other comes as a newcomer.
use Rattle.calls.proofs.Changing.{grant_to_holder, grant_places}
use Rattle.std.proofs.Math.Nat.{pos_of_ne-zero}
use Rattle.rules.proofs.Given.{gives_same}
use Rattle.calls.proofs.change.grant.Goals as goal

pub returns-then-node-ne0 : goal.returns-then-node-ne0
returns-then-node-ne0 c =
    let a = c.args in
    let T = a.table.now in
    gives_same (c.answer_holder.ensures T) (grant_to_holder a.height T a.tenant a.level (pos_of_ne-zero c.if-node-ne0.true))

pub returns : goal.returns
returns c =
    let a = c.args in
    gives_same c.place.ensures (grant_places a.height a.table.now a.tenant a.level c.if-node-ne0.false)
