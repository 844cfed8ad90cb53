-- `bytewise::set_bits` meets its contract. The loop's invariant: the count so far, and the set bits from this one on, make the whole.
use mathlib.Core.Path.{◌≡◌}
use Prim.Native.Nat.{◌+◌, ◌*◌, ◌≤◌}
use lib.ListN.{drop}
use Rattle.pagemap.specs.Count.{set_bits}
use Rattle.bytewise.proofs.set_bits.Given as goal

abbrev pub invariant-loop-byte : goal.invariant-loop-byte
invariant-loop-byte l = (l.n ≤ 8 * l.byte-index) × (l.n + set_bits (drop l.byte-index l.bytes) ≡ set_bits l.bytes)
