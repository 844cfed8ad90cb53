-- `survey::held` meets its contract: before each level the sum is that of the levels below, each with at most 65,535 blocks.
use mathlib.Core.Path.{◌≡◌}
use Prim.Native.Nat.{ℕ, ◌*◌, ◌≤◌}
use lib.ListN.{get_or}
use Rattle.tree.specs.Pages.{sum}
use Rattle.survey.proofs.held.Given as goal

abbrev pub invariant-loop-n : goal.invariant-loop-n
invariant-loop-n l = (l.sum ≡ sum l.n-index (λ (k : ℕ). get_or l.fn.counts.at k 0)) × (l.sum ≤ 65535 * l.n-index)
