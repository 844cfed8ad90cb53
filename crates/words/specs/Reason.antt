-- Why a journal is refused, in words.
use Rattle.std.specs.Prelude.{cond, List, ℕ, eqb}
use Rattle.lines.specs.Ascii.{bytes}

-- by the refusal's number; no journal is refused with another one
abbrev pub reason : ℕ → List ℕ
reason number =
    cond (eqb number 1) (bytes "the height is above 12")
    (cond (eqb number 11) (bytes "the journal is empty, or its first record is no open")
    (cond (eqb number 12) (bytes "a record of unknown kind")
    (cond (eqb number 13) (bytes "the journal ends inside a record")
    (cond (eqb number 14) (bytes "an open record that is not the first")
    (cond (eqb number 16) (bytes "the journal has more than 65,536 bytes")
    (bytes "the journal is refused"))))))
