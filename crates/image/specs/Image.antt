-- Numbers of 16 bits as bytes, the low byte first. Document 01, "Calls": the table as 8,192 bytes; document 02, L2: a move as eight; L7: the line as
-- 386.
use Rattle.std.specs.Prelude.{◌≡◌, cond, List, [], ◌∷◌, ℕ, ◌*◌, ◌≤◌, eqb, length, take}
use Rattle.table.specs.declared.Move.{Move}
use Rattle.journal.specs.Format.{low, high, word}

-- the bytes of numbers
unfoldable pub image_of : List ℕ → List ℕ
image_of [] = []
image_of (n ∷ ns) = low n ∷ high n ∷ image_of ns

-- the numbers of pairs of bytes; an odd byte at the end is none
unfoldable pub numbers_in : List ℕ → List ℕ
numbers_in [] = []
numbers_in (lo ∷ []) = []
numbers_in (lo ∷ hi ∷ bytes) = word lo hi ∷ numbers_in bytes

-- the n numbers that bytes are lent as: bytes of another length than 2n stand for none, which every call refuses
unfoldable pub lent_as : ℕ → List ℕ → List ℕ
lent_as n bytes = cond (eqb (length bytes) (2 * n)) (numbers_in bytes) []

-- the table that an image of 8,192 bytes stands for, and the line that one of 386 stands for
abbrev pub table_of : List ℕ → List ℕ
table_of image = lent_as 4096 image

abbrev pub line_in : List ℕ → List ℕ
line_in image = lent_as 193 image

-- the numbers of moves: tenant, old node, new node, 1 if staged
unfoldable pub numbers_of : List Move → List ℕ
numbers_of [] = []
numbers_of (m ∷ ms) = m.tenant ∷ m.from ∷ m.to ∷ m.staged ∷ numbers_of ms

-- eight bytes to a move
abbrev pub move_bytes : List Move → List ℕ
move_bytes ms = image_of (numbers_of ms)

-- numbers after an image was read into them: those of the image, or as they were where it has another length
abbrev pub read_into : List ℕ → List ℕ → List ℕ
read_into image numbers = cond (eqb (length image) (2 * length numbers)) (numbers_in image) numbers

-- the first n of the numbers are those that the image stands for: all of them or none
pub record Decoded (image numbers : List ℕ) (n : ℕ) : Type 0 where
  pub few : n ≤ length numbers
  pub front : take n numbers ≡ lent_as (length numbers) image
