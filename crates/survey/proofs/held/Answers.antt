-- `survey::held` meets its contract: before each level the sum is that of the levels below, each with at most 65,535 blocks.
use mathlib.Core.Path.{◌≡◌, refl}
use native.Mathlib.Numerals.{add-one}
use native.Mathlib.Omega.{arith}
use Rattle.tree.specs.Pages.{sum}
use Rattle.survey.proofs.held.Goals as goal

pub loop-n-init : goal.loop-n-init
unfolding sum
loop-n-init c = (refl, omega arith)

pub overflow_add-sum : goal.overflow_add-sum
overflow_add-sum c = omega (arith, c.from-sum.ensures, c.loop-n-test.element_fits)

pub loop-n-preserved : goal.loop-n-preserved
unfolding sum
loop-n-preserved c =
    rw (add-one c.loop-n.n-index) (omega (arith, c.from-sum.ensures), omega (arith, c.from-sum.ensures, c.loop-n-test.element_fits))

pub returns : goal.returns
returns c = let all : c.loop-n.n-index ≡ 13 = omega arith in rw all at c.loop-n.invariant.0
