-- A path as C reads it.
use Rattle.std.specs.Prelude.{List, ◌++◌, ℕ, ◌-◌, ◌≡◌, length, replicate, slice_index_or}

-- the path's bytes and then zeros, 4,096 of all
abbrev pub padded : List ℕ → List ℕ
padded path = path ++ replicate (4096 - length path) 0

-- the last of 4,096 bytes is 0, so that a path ends within them
abbrev pub Ended : List ℕ → Type 0
Ended bytes = slice_index_or bytes 4095 1 ≡ 0
