-- `line::choose` meets its contract. The loop's invariant: the place chosen from place i on is the place chosen.
use mathlib.Core.Path.{◌≡◌}
use mathlib.Core.Bool.{Bool}
use Prim.Native.Nat.{ℕ, ◌+◌}
use lib.Dec.{ltb}
use Rattle.line.specs.Line.{waiting_in}
use Rattle.line.specs.Changes.{place_chosen}
use Rattle.line.proofs.Scans.{from_place}
use Rattle.line.proofs.choose.Given as goal

-- a level is one of the lowest so many
abbrev pub lowest : ℕ → ℕ → Bool
lowest n l = ltb l n

abbrev pub invariant-loop-place : goal.invariant-loop-place
invariant-loop-place l =
    l.place + place_chosen (lowest l.levels) (from_place l.line l.n l.place) ≡ place_chosen (lowest l.levels) (waiting_in l.line)
