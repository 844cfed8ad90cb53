-- How the writer of a message goes on.
use Rattle.std.specs.Prelude.{◌≡◌, List, ℕ}
use Rattle.words.specs.Message.{Appended}
use Rattle.words.specs.declared.Writer.{Writer}

-- in the same lent bytes, `more` is put to the end of the message
pub record Adds (before : Writer) (more : List ℕ) (after : Writer) : Type 0 where
  pub same_text : after.text.ghost_name ≡ before.text.ghost_name
  pub appended : Appended before.n more before.text.now after.n after.text.now
