-- `line::place_from` meets its contract. The loop's invariant: the place from i on is the place from `from` on.
use mathlib.Core.Path.{◌≡◌}
use Prim.Native.Nat.{◌+◌}
use Rattle.line.specs.Changes.{place_of}
use Rattle.line.proofs.Scans.{from_place}
use Rattle.line.proofs.place_from.Given as goal

abbrev pub invariant-loop-i : goal.invariant-loop-i
invariant-loop-i l = l.i + place_of l.tenant (from_place l.line l.n l.i) ≡ l.from + place_of l.tenant (from_place l.line l.n l.from)
