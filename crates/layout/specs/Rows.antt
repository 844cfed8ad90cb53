-- The layout of given counts as rows, one for each level: where the level's run begins, how many blocks the run has, and the index where
-- the level's last block comes to rest, if that is the one that becomes lone. `proofs/Rows.antt` shows that the rows hold the layout's blocks.
use Rattle.std.specs.Prelude.{Bool, cond, ◌&&◌, ◌||◌, List, [], ◌∷◌, ◌++◌, map, ℕ, zero, suc, ◌+◌, ◌-◌, ◌*◌, ◌^◌, eqb, leb, ltb, get_or}
use Rattle.tree.specs.Block.{Block, Blocks, node, nodes_of}
use Rattle.layout.specs.Layout.{Half, even, odd, half, State, full, lone, block, place, rise, layout, pages}
use Rattle.layout.specs.Runs.{starts, runs}
use Rattle.layout.specs.declared.Layout.{Layout}

-- what stands for an index where there is none; no level of a tree of height 12 has it
abbrev pub no_index : ℕ
no_index = 65535

-- what stands for a level where there is none: no reserve has it
abbrev pub no_level : ℕ
no_level = 13

-- Lone blocks

-- by whether a number of subtrees is even or odd
abbrev pub settles : ℕ → (ℕ → ℕ) → Half → ℕ
settles here above (even w) = above w
settles here above (odd w) = here

-- The index where a lone block comes to rest. It stands at the left end of a subtree, k levels down, with v such subtrees before it, and cs are the
-- counts of the levels above. While v is even it stays alone, and the next level's blocks come before it.
abbrev pub settles_at : ℕ → ℕ → List ℕ → ℕ
settles_at v k [] = v * 2 ^ k
settles_at v k (c ∷ cs) = settles (v * 2 ^ k) (λ w. settles_at (w + c) (suc k) cs) (half v)

-- the index where the last of a level's c blocks comes to rest, if it becomes the lone one; cs are the counts of the levels above
abbrev pub lone_index : State → ℕ → List ℕ → ℕ
lone_index (full u) zero cs = no_index
lone_index (full u) (suc c) cs = settles_at (u + c) 0 cs
lone_index (lone v j k) c cs = no_index

-- that index for each level, from level l on, with the state there and the counts from there on
abbrev pub lones_from : ℕ → State → List ℕ → List ℕ
lones_from l s [] = []
lones_from l s (c ∷ cs) = lone_index s c cs ∷ lones_from (suc l) (rise (place l s c)) cs

-- for all levels
unfoldable pub lones : List ℕ → List ℕ
lones cs = lones_from 0 (full 0) cs

-- the rows of the layout of the counts
abbrev pub rows_of : List ℕ → Layout
rows_of cs = record { start = starts cs; run = runs cs; lone = lones cs }

-- Rows, of any three lists

-- the three numbers of a level
abbrev pub start_at : Layout → ℕ → ℕ
start_at L l = get_or L.start l 0

abbrev pub run_at : Layout → ℕ → ℕ
run_at L l = get_or L.run l 0

abbrev pub lone_at : Layout → ℕ → ℕ
lone_at L l = get_or L.lone l no_index

-- i is one of the n indices from s on, or is x
abbrev pub in_row : ℕ → ℕ → ℕ → ℕ → Bool
in_row s n x i = (leb s i && ltb i (s + n)) || eqb x i

-- the rows as a set of blocks
abbrev pub rows_hold : Layout → Blocks
rows_hold L b = in_row (start_at L b.level) (run_at L b.level) (lone_at L b.level) b.index

-- the rows as a set of nodes of a tree whose height is at most 12
unfoldable pub holds_node : Layout → ℕ → ℕ → Bool
holds_node L h n = leb h 12 && nodes_of h (rows_hold L) n

-- the k-th of the n indices from s on and then x
abbrev pub kth_index : ℕ → ℕ → ℕ → ℕ → ℕ
kth_index s n x k = cond (ltb k n) (s + k) (cond (eqb k n) x no_index)

-- the k-th index of the row of level l
abbrev pub index_at : Layout → ℕ → ℕ → ℕ
index_at L l k = kth_index (start_at L l) (run_at L l) (lone_at L l) k

-- the node with this index on level l of a tree whose height is at most 12; 0 where there is none
unfoldable pub node_or_zero : ℕ → ℕ → ℕ → ℕ
node_or_zero h l i = cond (leb h 12 && leb l h && ltb i (2 ^ (h - l))) (node h (block l i)) 0

-- the k-th node, left to right, that the row of level l has
unfoldable pub kth_node : Layout → ℕ → ℕ → ℕ → ℕ
unfolding node_or_zero
kth_node L h l k = node_or_zero h l (index_at L l k)

-- The same indices as a list

-- n numbers from s on
abbrev pub up_from : ℕ → ℕ → List ℕ
up_from s zero = []
up_from s (suc n) = s ∷ up_from (suc s) n

-- the n indices from s on, and x if it is one
abbrev pub row_indices : ℕ → ℕ → ℕ → List ℕ
row_indices s n x = up_from s n ++ cond (ltb x no_index) (x ∷ []) []

-- Blocks of one level

-- the blocks of level l, in the list's order
abbrev pub at_level : ℕ → List Block → List Block
at_level l [] = []
at_level l (b ∷ bs) = cond (eqb b.level l) (b ∷ at_level l bs) (at_level l bs)

-- The k-th node of level l, left to right, in the layout of the counts; 0 where the level has no such block, the counts have more pages
-- than the tree, or the height is above 12.
unfoldable pub expected_node : List ℕ → ℕ → ℕ → ℕ → ℕ
expected_node cs h l k = cond (leb h 12 && leb (pages cs) (2 ^ h)) (get_or (map (node h) (at_level l (layout cs))) k 0) 0
