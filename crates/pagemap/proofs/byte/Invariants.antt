-- `pagemap::byte` meets its contract. The loop's invariant: the bits from `b` on, shifted to their places, and those below make the byte.
use Rattle.std.proofs.Common.{◌≡◌, ◌+◌, ◌*◌, ◌^◌, get_or}
use Rattle.tree.specs.Pages.{sum}
use Rattle.pagemap.specs.Map.{byte_of}
use Rattle.pagemap.proofs.byte.Given as goal

abbrev pub invariant-loop-b : goal.invariant-loop-b
invariant-loop-b l = l.sum * 2 ^ l.b + sum l.b (λ i. get_or l.pages (8 * l.j + i) 0 * 2 ^ i) ≡ byte_of (λ p. get_or l.pages p 0) l.j
