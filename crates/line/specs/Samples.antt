-- Whom an admit grants (document 02, L7): the oldest who fits, but nobody behind one who was passed eight times. The levels below a number fit.
use Rattle.std.specs.Prelude.{◌≡◌, List, [], ◌∷◌, ℕ, ltb}
use Rattle.std.proofs.Math.Option.{Option, some, none}
use Rattle.line.specs.Line.{Waiting}
use Rattle.line.specs.Changes.{choose}

pub record Sample : Type 0 where
  pub levels : ℕ
  pub line : List Waiting
  pub granted : Option Waiting

abbrev pub sample : ℕ → List Waiting → Option Waiting → Sample
sample n W w = record { levels = n; line = W; granted = w }

-- one who waits: tenant, level, passed count
abbrev pub one : ℕ → ℕ → ℕ → Waiting
one t l p = record { tenant = t; level = l; passed = p }

abbrev pub samples : List Sample
samples =
    -- the oldest of two who fit
    sample 1 (one 5 0 2 ∷ one 3 0 0 ∷ []) (some (one 5 0 2))
    -- a younger one, where the older does not fit
    ∷ sample 1 (one 5 1 7 ∷ one 3 0 0 ∷ []) (some (one 3 0 0))
    -- nobody behind one who was passed eight times
    ∷ sample 1 (one 5 1 8 ∷ one 3 0 0 ∷ []) none
    -- but that one itself
    ∷ sample 1 (one 5 1 7 ∷ one 3 0 8 ∷ one 4 0 0 ∷ []) (some (one 3 0 8))
    -- nobody who does not fit
    ∷ sample 0 (one 5 0 0 ∷ []) none
    ∷ []

-- whom `choose` finds in each is the one written beside it
unfoldable pub AllAsWritten : List Sample → Type 0
AllAsWritten [] = Unit {0}
AllAsWritten (s ∷ ss) = (choose (λ l. ltb l s.levels) s.line ≡ s.granted) × AllAsWritten ss
