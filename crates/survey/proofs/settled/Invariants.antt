-- `survey::settled` meets its contract. The loop's invariant: the levels above `level` have owners on all their rows, so that what is left
-- to test is the whole, and `first` is the first node of `level`.
use Prim.Native.Nat.{suc}
use Rattle.survey.proofs.Looked.{Looked}
use Rattle.survey.proofs.settled.Given as goal

abbrev pub invariant-loop-level : goal.invariant-loop-level
invariant-loop-level l = Looked l.height l.rows l.owner (suc l.level) l.first
