-- The layout of given counts: the blocks from left to right, by the rule that document 01 derives ("Go up from level 0 …").
-- That it is the one legal and safe set with these counts is proved in proofs/, so no reader has to believe this file.
use Rattle.std.specs.Prelude.{Bool, false, ◌&&◌, ◌||◌, List, [], ◌∷◌, ◌++◌, ℕ, zero, suc, ◌+◌, ◌*◌, ◌^◌, eqb}
use Rattle.tree.specs.Block.{Block, Blocks}

-- A number as twice another, or twice another and one.
pub data Half : Type 0 where
  even : ℕ → Half
  odd : ℕ → Half

-- the next number so, and every number so
abbrev pub next_half : Half → Half
next_half (even w) = odd w
next_half (odd w) = even (suc w)

abbrev pub half : ℕ → Half
half zero = even zero
half (suc n) = next_half (half n)

-- What the levels below leave to a level, in its subtrees:
-- `full u`, the first u are in use and the last of them holds at least two blocks (or u is 0);
-- `lone v j k`, the first v and one more are in use, and in that one a block of level j stands alone, k levels down, at the left end.
pub data State : Type 0 where
  full : ℕ → State
  lone : ℕ → ℕ → ℕ → State

-- the block of a level with an index
abbrev pub block : ℕ → ℕ → Block
block l i = record { level = l; index = i }

-- where the blocks of the level begin
abbrev pub start : State → ℕ
start (full u) = u
start (lone v j k) = v

-- how many of the level's c blocks keep their place whatever comes: the last one becomes the lone block, if there is none yet
abbrev pub running : State → ℕ → ℕ
running (full u) zero = zero
running (full u) (suc c) = c
running (lone v j k) c = c

-- the state with the c blocks of level l placed
abbrev pub place : ℕ → State → ℕ → State
place l (full u) zero = full u
place l (full u) (suc c) = lone (u + c) l 0
place l (lone v j k) c = lone (v + c) j k

-- one level up two subtrees are one; a lone block whose subtree gets company is lone no longer
abbrev pub rise_full : Half → State
rise_full (even w) = full w
rise_full (odd w) = full (suc w)

abbrev pub rise_lone : ℕ → ℕ → Half → State
rise_lone j k (even w) = lone w j (suc k)
rise_lone j k (odd w) = full (suc w)

-- the state one level up
abbrev pub rise : State → State
rise (full u) = rise_full (half u)
rise (lone v j k) = rise_lone j k (half v)

-- it stands in the second of the two subtrees
abbrev pub settle_lone : Block → Half → List Block
settle_lone b (even w) = []
settle_lone b (odd w) = b ∷ []

-- the lone block, where going up a level leaves it no longer alone
abbrev pub settled : State → List Block
settled (full u) = []
settled (lone v j k) = settle_lone (block j (v * 2 ^ k)) (half v)

-- the lone block, where nothing follows
abbrev pub remaining : State → List Block
remaining (full u) = []
remaining (lone v j k) = block j (v * 2 ^ k) ∷ []

-- n blocks of level l from index i on
abbrev pub run : ℕ → ℕ → ℕ → List Block
run l i zero = []
run l i (suc n) = block l i ∷ run l (suc i) n

-- the blocks that follow from level l on, with the state there and the counts from there on
abbrev pub layout_from : ℕ → State → List ℕ → List Block
layout_from l s [] = remaining s
layout_from l s (c ∷ cs) = run l (start s) (running s c) ++ settled (place l s c) ++ layout_from (suc l) (rise (place l s c)) cs

-- the layout of the counts c₀, c₁, …
unfoldable pub layout : List ℕ → List Block
layout cs = layout_from 0 (full 0) cs

-- whether two blocks are one
abbrev pub same_block : Block → Block → Bool
same_block a b = eqb a.level b.level && eqb a.index b.index

-- the list as a set
abbrev pub among : List Block → Blocks
among [] b = false
among (a ∷ as') b = same_block a b || among as' b

-- the number of pages of the blocks
abbrev pub pages_from : ℕ → List ℕ → ℕ
pages_from l [] = 0
pages_from l (c ∷ cs) = c * 2 ^ l + pages_from (suc l) cs

-- of the counts c₀, c₁, …
unfoldable pub pages : List ℕ → ℕ
pages cs = pages_from 0 cs
