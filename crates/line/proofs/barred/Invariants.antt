-- `line::barred` meets its contract. The loop's invariant: somebody from place i on was passed eight times exactly if anybody was.
use mathlib.Core.Path.{◌≡◌}
use Rattle.line.specs.Line.{waiting_in}
use Rattle.line.specs.Changes.{barred}
use Rattle.line.proofs.Scans.{from_place}
use Rattle.line.proofs.barred.Given as goal

abbrev pub invariant-loop-i : goal.invariant-loop-i
invariant-loop-i l = barred (from_place l.line l.n l.i) ≡ barred (waiting_in l.line)
