-- The level that a number of pages takes. Document 02, L1 and L4.
use Rattle.std.specs.Prelude.{cond, ℕ, zero, suc, ◌+◌, ◌^◌, min, leb}

-- the smallest of the levels l … l + n whose block has p pages
abbrev pub least_from : ℕ → ℕ → ℕ → ℕ
least_from l zero p = l
least_from l (suc n) p = cond (leb p (2 ^ l)) l (least_from (suc l) n p)

-- the smallest level whose block has p pages
unfoldable pub least_level : ℕ → ℕ
least_level p = least_from 0 p p

-- the level that a grant by pages takes at height h: 0 names no size and takes level 4, or level h on a reserve under height 4, without a
-- guard page; any other number takes the smallest level whose block has that many pages and one more, the guard page
unfoldable pub level_for : ℕ → ℕ → ℕ
level_for h zero = min 4 h
level_for h (suc p) = least_level (suc p + 1)
