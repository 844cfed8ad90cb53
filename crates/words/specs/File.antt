-- The file that is written first and then takes the name of another.
use Rattle.std.specs.Prelude.{List, ◌++◌, ℕ}
use Rattle.lines.specs.Ascii.{bytes}

-- its name until then
abbrev pub part_of : List ℕ → List ℕ
part_of name = name ++ bytes ".part"
