-- `pagemap::pack` meets its contract. The loop's invariant: the first `j` bytes are written, and the others are as they were.
use Rattle.std.proofs.Common.{◌≡◌, ◌++◌, get_or, drop}
use Rattle.pagemap.specs.Map.{bytes_of}
use Rattle.pagemap.proofs.pack.Given as goal

abbrev pub invariant-loop-j : goal.invariant-loop-j
invariant-loop-j l = l.packed-items ≡ bytes_of l.j (λ p. get_or l.pages p 0) ++ drop l.j l.initial.packed-items
