-- The number of set bits of a lent map. Document 01, "Calls" and refusal 15.
use Rattle.std.specs.Prelude.{cond, List, [], ◌∷◌, ℕ, ◌+◌, ltb, length, take, Result, Ok, Err}
use Rattle.std.specs.Int.Count.{ones}
use Rattle.refusal.specs.declared.Refusal.{Refusal}

-- the set bits of all the bytes
unfoldable pub set_bits : List ℕ → ℕ
set_bits [] = 0
set_bits (x ∷ m) = ones x + set_bits m

-- the answer's number, and the count
pub record Counted : Type 0 where
  pub answer : ℕ
  pub count : ℕ

-- what counting answers: those of the first 512 bytes; a shorter map is refusal 15 and counts 0
unfoldable pub counted : List ℕ → Counted
counted m = cond (ltb (length m) 512) (record { answer = 15; count = 0 }) (record { answer = 0; count = set_bits (take 512 m) })

-- the count that a value reports; 0 where it is a refusal
abbrev pub count_in : Result ℕ Refusal → ℕ
count_in (Ok n) = n
count_in (Err e) = 0
