-- The worked examples are what the definitions give.
use mathlib.Core.Path.{refl}
use Rattle.passes.specs.Events.{left, among, passes, waiting_after}
use Rattle.passes.specs.Samples.{EventsAsWritten}

pub events_as_written : EventsAsWritten
unfolding left among passes waiting_after
events_as_written = record { direct = refl; behind = refl; in_front = refl; again = refl }
