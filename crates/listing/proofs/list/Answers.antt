-- By `filling_forward`, a block that more follows leaves less of the journal.
use Rattle.std.proofs.Common.{arith}
use borrow.Author.Tests.{not-false}
use Rattle.replay.proofs.Filling.{filling_forward}
use Rattle.listing.proofs.list.Goals as goal

pub loop-block-smaller : goal.loop-block-smaller
loop-block-smaller c =
    let long = c.loop-block.invariant.0 in
    omega (arith, filling_forward _ _ _ _ _ _ c.fill-filled.ensures.lines (not-false _ c.if-not-filled.false) (omega arith))
