-- `line::pass` meets its contract. The loop's invariant: those at the first i places are passed once more.
use mathlib.Core.Path.{◌≡◌}
use Rattle.line.specs.Line.{line_of, waiting_in}
use Rattle.line.specs.Changes.{once_more, front}
use Rattle.line.proofs.pass.Given as goal

abbrev pub invariant-loop-i : goal.invariant-loop-i
invariant-loop-i l = l.line ≡ line_of (front once_more l.i (waiting_in l.initial.line))
