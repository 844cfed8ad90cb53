-- A map as numbers of 64 bits, whose ones the program counts. Document 02, L3.
use Rattle.std.specs.Prelude.{List, ℕ, zero, suc, ◌+◌, ◌*◌, get_or}

-- the number that the n bytes b 0, b 1, … make, low byte first
abbrev pub from_bytes : ℕ → (ℕ → ℕ) → ℕ
from_bytes zero b = 0
from_bytes (suc n) b = from_bytes n (λ j. b (suc j)) * 256 + b 0

-- number k of a map: its bytes 8k … 8k + 7
abbrev pub number_at : List ℕ → ℕ → ℕ
number_at m k = from_bytes 8 (λ j. get_or m (8 * k + j) 0)
