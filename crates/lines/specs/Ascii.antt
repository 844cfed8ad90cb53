-- Bytes written as characters.
use Rattle.std.specs.Prelude.{List, [] as none, ◌∷◌ as ◌then◌, ℕ}
use Prim.Native.Char.{Char, code}
use Prim.Native.String.{String, [], ◌∷◌}

-- the code of a character
abbrev pub byte : Char → ℕ
byte c = code c

-- the codes of a text's characters
abbrev pub bytes : String → List ℕ
bytes [] = none
bytes (c ∷ s) = byte c then bytes s
