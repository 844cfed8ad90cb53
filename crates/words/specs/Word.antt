-- What a word of the command line means, as long as the options have not ended.
use Rattle.std.specs.Prelude.{Bool, true, false, cond, ◌&&◌, List, [], ◌∷◌, ℕ, eqb}
use Rattle.lines.specs.Ascii.{byte, bytes}
use Rattle.words.specs.declared.Word.{Word}

-- an option begins with a hyphen and has more after it
abbrev pub is_option : List ℕ → Bool
is_option [] = false
is_option (first ∷ []) = false
is_option (first ∷ (second ∷ rest)) = eqb first (byte "-")

-- whether two words have the same bytes
abbrev pub same : List ℕ → List ℕ → Bool
same [] [] = true
same [] (y ∷ t) = false
same (x ∷ s) [] = false
same (x ∷ s) (y ∷ t) = eqb x y && same s t

-- `--` ends the options and --help asks for help; every other option is unknown, and what is no option is an operand, a hyphen alone too
abbrev pub meaning_of : List ℕ → Word
meaning_of word =
    cond (same word (bytes "--")) Word.EndOfOptions
    (cond (same word (bytes "--help")) Word.Help
    (cond (is_option word) Word.UnknownOption
    Word.Operand))
