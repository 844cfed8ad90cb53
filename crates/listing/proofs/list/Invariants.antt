-- The lines are counted as the bytes of the journal go by. Each block that more follows leaves less of the journal to list.
use Rattle.std.proofs.Common.{◌≡◌, ◌-◌, length}
use Rattle.replay.specs.Value.{Counted}
use Rattle.listing.proofs.list.Given as goal

abbrev pub invariant-loop-block : goal.invariant-loop-block
invariant-loop-block l = (length l.block ≡ 65536) × Counted l.state

abbrev pub decreases-loop-block : goal.decreases-loop-block
decreases-loop-block l = length l.journal - l.state.offset
