-- `line::orderly` meets its contract. The loop's invariant: those from place i on are orderly exactly if all are.
use mathlib.Core.Path.{◌≡◌}
use Rattle.line.specs.Line.{standing}
use Rattle.line.specs.Order.{orderly?}
use Rattle.line.proofs.Scans.{from_place}
use Rattle.line.proofs.orderly.Given as goal

abbrev pub invariant-loop-i : goal.invariant-loop-i
invariant-loop-i l = orderly? l.height l.table (from_place l.line l.n l.i) ≡ orderly? l.height l.table (standing l.line 0 l.n)
