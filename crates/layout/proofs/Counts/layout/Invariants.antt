-- `layout::Counts::layout` meets its contract: before each level the rows of the levels below are written, and the machine's state is the
-- one from which it finds the rest.
use Rattle.layout.specs.Climb.{state_of}
use Rattle.layout.proofs.Turn.{Climbed}
use Rattle.layout.proofs.Counts.layout.Given as goal

abbrev pub invariant-loop-level : goal.invariant-loop-level
invariant-loop-level l = Climbed l.count-items l.start l.run l.lone (state_of l.s) l.level
