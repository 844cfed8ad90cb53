-- A number for each page, 1 or 0, from which the map is packed.
use Rattle.std.specs.Prelude.{Bool, cond, ◌&&◌, List, ℕ, suc, ◌+◌, ◌*◌, leb, ltb, length, get_or}
use Rattle.tree.specs.Held.{one_if}
use Rattle.table.specs.Table.{tabulate}

-- 1 for each of n pages that passes the test
unfoldable pub flags : ℕ → (ℕ → Bool) → List ℕ
flags n f = tabulate 0 n (λ p. one_if (f p))

-- p is one of the pages a … b − 1
abbrev pub between : ℕ → ℕ → ℕ → Bool
between a b p = leb a p && ltb p b

-- the flags with those of the pages a … b − 1 set
unfoldable pub filled : ℕ → ℕ → List ℕ → List ℕ
filled a b xs = tabulate 0 (length xs) (λ p. cond (between a b p) 1 (get_or xs p 0))

-- the flags with those of the n blocks from index s on set, and of the block at index x, each of w pages
abbrev pub row_filled : ℕ → ℕ → ℕ → ℕ → List ℕ → List ℕ
row_filled w s n x xs = filled (x * w) (suc x * w) (filled (s * w) ((s + n) * w) xs)
