-- What happened to a line, and who waits by that: the passes counted over all that happened. Document 02, L7.
use Rattle.std.specs.Prelude.{Bool, false, cond, ◌||◌, List, [], ◌∷◌, ℕ, suc, ◌+◌, eqb}
use Rattle.tree.specs.Held.{one_if}
use Rattle.line.specs.Line.{Waiting}

-- a tenant joined for a level, withdrew, or was granted its level by an admit; or a direct grant gave a block
pub data Event : Type 0 where
  joins : ℕ → ℕ → Event
  withdraws : ℕ → Event
  admitted : ℕ → Event
  granted : Event

-- tenant t left the line in the course of these events, the oldest first
unfoldable pub left : ℕ → List Event → Bool
left t [] = false
left t (joins u l ∷ es) = left t es
left t (withdraws u ∷ es) = eqb u t || left t es
left t (admitted u ∷ es) = eqb u t || left t es
left t (granted ∷ es) = left t es

-- tenant t is one of these
unfoldable pub among : ℕ → List ℕ → Bool
among t [] = false
among t (u ∷ us) = eqb u t || among t us

-- How often one in line is passed in the course of these events: by each direct grant that gave a block, and by each admit of a younger one.
-- Younger are those given, and those that join in the course of the events.
unfoldable pub passes : List ℕ → List Event → ℕ
passes younger [] = 0
passes younger (joins u l ∷ es) = passes (u ∷ younger) es
passes younger (withdraws u ∷ es) = passes younger es
passes younger (admitted u ∷ es) = one_if (among u younger) + passes younger es
passes younger (granted ∷ es) = suc (passes younger es)

-- who waits after these events, in the order of joining: each that joined and has not left since, with the level that it joined for and the passes
-- since then
unfoldable pub waiting_after : List Event → List Waiting
waiting_after [] = []
waiting_after (joins t l ∷ es) = cond (left t es) (waiting_after es) (record { tenant = t; level = l; passed = passes [] es } ∷ waiting_after es)
waiting_after (withdraws t ∷ es) = waiting_after es
waiting_after (admitted t ∷ es) = waiting_after es
waiting_after (granted ∷ es) = waiting_after es
