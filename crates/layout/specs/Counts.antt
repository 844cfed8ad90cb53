-- The counts that a program keeps: for each level one number below 65,536.
use Rattle.std.specs.Prelude.{cond, List, ℕ, ltb, get_or}
use Rattle.layout.specs.Change.{one_block_more}

-- one more block on level l, unless the level has 65,535 already
unfoldable pub more : List ℕ → ℕ → List ℕ
more cs l = cond (ltb (get_or cs l 0) 65535) (one_block_more cs l) cs
