-- Each record leaves less of the journal to read.
use Rattle.std.proofs.Common.{length, ◌-◌}
use Rattle.journal_check.proofs.list.Given as goal

abbrev pub decreases-loop-found : goal.decreases-loop-found
decreases-loop-found l = length l.journal - l.offset
