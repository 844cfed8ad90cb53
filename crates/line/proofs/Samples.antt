-- Whom `choose` finds in the samples.
use mathlib.Core.Path.{refl}
use Rattle.line.specs.Changes.{choose}
use Rattle.line.specs.Samples.{samples, AllAsWritten}

pub chosen_as_written : AllAsWritten samples
unfolding AllAsWritten choose
chosen_as_written = (refl, (refl, (refl, (refl, (refl, tt)))))
