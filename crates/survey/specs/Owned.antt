-- Which nodes of a layout have an owner, in a list of owners by node.
use Rattle.std.specs.Prelude.{Bool, ◌&&◌, ◌||◌, List, ℕ, suc, ◌+◌, ◌-◌, ◌^◌, eqb, ltb, get_or, take, drop}
use Rattle.layout.specs.Rows.{no_index, start_at, run_at, lone_at}
use Rattle.layout.specs.declared.Layout.{Layout}
use Rattle.table.specs.Table.{all_below}
use Rattle.table.specs.Owners.{used_in}

-- node n has an owner
abbrev pub owned : List ℕ → ℕ → Bool
owned o n = ltb 0 (get_or o n 0)

-- each of the n nodes from a on has one
unfoldable pub run_owned : List ℕ → ℕ → ℕ → Bool
run_owned o a n = eqb (used_in (take n (drop a o))) n

-- each node of a level's row has one; w is the level's first node
unfoldable pub row_owned : List ℕ → ℕ → ℕ → ℕ → ℕ → Bool
row_owned o w s n x = run_owned o (w + s) n && (eqb x no_index || owned o (w + x))

-- the row of level l in a tree of height h, whose first node is 2^(h−l)
abbrev pub level_owned : ℕ → Layout → List ℕ → ℕ → Bool
level_owned h L o l = row_owned o (2 ^ (h - l)) (start_at L l) (run_at L l) (lone_at L l)

-- each node of the rows has an owner
unfoldable pub rows_owned : ℕ → Layout → List ℕ → Bool
rows_owned h L o = all_below (suc h) (level_owned h L o)
