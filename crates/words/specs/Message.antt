-- What a program says on standard error.
use Rattle.std.specs.Prelude.{◌≡◌, List, ◌++◌, ℕ, ◌+◌, ◌-◌, ◌≤◌, min, length, take, drop}
use Rattle.std.proofs.Math.Seq.{paste}
use Rattle.lines.specs.Ascii.{bytes}
use Rattle.lines.specs.Decimal.{decimal}
use Rattle.words.specs.Reason.{reason}

-- the program, what it could not do, and what it could not do it to
abbrev pub cannot : List ℕ → List ℕ → List ℕ → List ℕ
cannot program deed thing = program ++ bytes ": cannot " ++ deed ++ bytes " " ++ thing

-- the number of a refusal and the offset in the journal that it concerns, at the end of a line
abbrev pub refusal_at : ℕ → ℕ → List ℕ
refusal_at number offset = (bytes ", refusal " ++ decimal number) ++ (bytes " at offset " ++ decimal offset) ++ bytes "\n"

-- why a journal is refused, in words and by that, at the end of a line
abbrev pub why : ℕ → ℕ → List ℕ
why number offset = bytes ": " ++ reason number ++ refusal_at number offset

-- what could not be done with a journal that is refused, and why
abbrev pub refused_at : List ℕ → List ℕ → List ℕ → ℕ → ℕ → List ℕ
refused_at program deed thing number offset = cannot program deed thing ++ why number offset

-- the program, and what it says
abbrev pub said : List ℕ → List ℕ → List ℕ
said program what = program ++ bytes ": " ++ what

-- the journal whose listing ended with a refusal, and why
abbrev pub ends_at : List ℕ → List ℕ → ℕ → ℕ → List ℕ
ends_at program thing number offset = said program thing ++ why number offset

-- a word of the command line that the program does not take, after what is wrong with it
abbrev pub not_taken_text : List ℕ → List ℕ → List ℕ → List ℕ
not_taken_text program fault word = said program fault ++ bytes " " ++ word ++ bytes "\n"

-- the first n bytes of the text, which lie within it, are those of s, or as many of them as go in, and the bytes after them are as they were
pub record Begins (s before : List ℕ) (n : ℕ) (after : List ℕ) : Type 0 where
  pub within : n ≤ length after
  pub counted : n ≡ length (take n after)
  pub bytes : take n after ≡ take (length after) s
  pub rest : drop n after ≡ drop n before

-- after the first n bytes of `before` come those of `more`, as many as there is room for; r is the index after them
pub record Appended (n : ℕ) (more before : List ℕ) (r : ℕ) (after : List ℕ) : Type 0 where
  pub count : r ≡ n + min (length more) (length before - n)
  pub text : after ≡ paste before n more (min (length more) (length before - n))
