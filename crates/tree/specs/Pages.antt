-- Pages: how many a number of blocks at each level has, and which ones a set of blocks covers.
use Rattle.std.specs.Prelude.{Bool, ◌||◌, ℕ, zero, suc, ◌+◌, ◌*◌, ◌/◌, ◌^◌}
use Rattle.tree.specs.Block.{Block, Blocks}

-- f 0 + … + f (n − 1)
unfoldable pub sum : ℕ → (ℕ → ℕ) → ℕ
sum zero f = 0
sum (suc n) f = f n + sum n f

-- the pages of a number of blocks at each of the levels 0 … h
unfoldable pub pages_of : ℕ → (ℕ → ℕ) → ℕ
pages_of h c = sum (suc h) (λ l. c l * 2 ^ l)

-- the block of level l that has page p
abbrev pub over : ℕ → ℕ → Block
over p l = record { level = l; index = p / 2 ^ l }

-- page p is covered: some level 0 … h holds the block that has it
unfoldable pub coveredb : ℕ → Blocks → ℕ → Bool
coveredb zero B p = B (over p zero)
coveredb (suc h) B p = B (over p (suc h)) || coveredb h B p
