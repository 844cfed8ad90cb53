-- The set bits of a map, byte by byte from an index on.
use mathlib.Core.Path.{◌≡◌}
use mathlib.Core.List.{List}
use Prim.Native.Nat.{ℕ, suc, ◌+◌, ◌≤◌, ◌<◌}
use lib.Count.{ones}
use lib.ListN.{length, get_or, drop, drop_of_length-le}
use lib.Seq.{drop-cons}
use Rattle.pagemap.specs.Count.{set_bits}

pub set_bits_from : (m : List ℕ) (i : ℕ) → i < length m → set_bits (drop i m) ≡ ones (get_or m i 0) + set_bits (drop (suc i) m)
unfolding set_bits
set_bits_from m i q = rw (drop-cons m i 0 q)

pub set_bits_from_end : (m : List ℕ) (i : ℕ) → length m ≤ i → set_bits (drop i m) ≡ 0
unfolding set_bits
set_bits_from_end m i q = rw (drop_of_length-le m q)
