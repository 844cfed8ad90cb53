-- `layout::Counts::total` meets its contract: at each level the sum and the pages from there on make all of them.
use mathlib.Core.Path.{refl}
use native.Mathlib.Omega.{arith}
use Rattle.layout.specs.Layout.{pages}
use Rattle.layout.proofs.Counts.total.Goals as goal

pub loop-count-init : goal.loop-count-init
unfolding pages
loop-count-init c = record { inside = omega arith; size_is = refl; rest = omega arith; bound = omega arith }
