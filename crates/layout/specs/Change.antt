-- Counts with one more block on a level, and how many blocks of one layout are not in another.
use Rattle.std.specs.Prelude.{not, List, [], ◌∷◌, ℕ, ◌+◌, ◌-◌, get_or, set}
use Rattle.tree.specs.Held.{one_if}
use Rattle.tree.specs.Block.{Block, Blocks}

-- one more block on level x; past the last level `set` leaves the counts alone
abbrev pub one_block_more : List ℕ → ℕ → List ℕ
one_block_more cs x = set cs x (get_or cs x 0 + 1)

-- one block fewer on level x; a count of 0 stays
abbrev pub one_block_fewer : List ℕ → ℕ → List ℕ
one_block_fewer cs x = set cs x (get_or cs x 0 - 1)

-- how many of the blocks are not in the set
unfoldable pub missing : List Block → Blocks → ℕ
missing [] B = 0
missing (b ∷ bs) B = one_if (not (B b)) + missing bs B

-- the most blocks that leave their places when one more comes, and when one goes (that one counted)
abbrev pub most_by_grant : ℕ
most_by_grant = 3

abbrev pub most_by_release : ℕ
most_by_release = 4

-- and when one goes and another comes: document 02, L5
abbrev pub most_by_growth : ℕ
most_by_growth = most_by_release + most_by_grant
