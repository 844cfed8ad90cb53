-- `pagemap::set_bits` meets its contract. The loop's invariant: the count so far is that of the numbers before this one.
use Rattle.std.proofs.Common.{◌≡◌, [], ◌*◌, ◌≤◌, get_or}
use lib.Count.{ones}
use Rattle.tree.specs.Pages.{sum}
use Rattle.pagemap.specs.Numbers.{number_at}
use Rattle.pagemap.proofs.set_bits.Given as goal

abbrev pub invariant-loop-bytes : goal.invariant-loop-bytes
invariant-loop-bytes l =
    (l.n ≤ 64 * l.bytes-index) × (l.n ≡ sum l.bytes-index (λ k. ones (number_at (get_or l.bytes-items k []) 0)))
