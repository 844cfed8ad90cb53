-- Worked examples: what happened, and who waits by that. Document 02, L7.
use Rattle.std.specs.Prelude.{◌≡◌, [], ◌∷◌}
use Rattle.line.specs.Samples.{one}
use Rattle.passes.specs.Events.{joins, withdraws, admitted, granted, waiting_after}

pub record EventsAsWritten : Type 0 where
  -- a direct grant passes both that wait
  pub direct : waiting_after (joins 1 2 ∷ joins 2 0 ∷ granted ∷ []) ≡ one 1 2 1 ∷ one 2 0 1 ∷ []
  -- an admit of the younger one passes the older one, and the other way round it passes nobody
  pub behind : waiting_after (joins 1 2 ∷ joins 2 0 ∷ admitted 2 ∷ []) ≡ one 1 2 1 ∷ []
  pub in_front : waiting_after (joins 1 2 ∷ joins 2 0 ∷ admitted 1 ∷ []) ≡ one 2 0 0 ∷ []
  -- who withdraws and joins again stands last, and was not passed yet
  pub again : waiting_after (joins 1 2 ∷ joins 2 0 ∷ granted ∷ withdraws 1 ∷ joins 1 2 ∷ granted ∷ []) ≡ one 2 0 2 ∷ one 1 2 1 ∷ []
