-- Who holds which node: the table turned round, from each node to its tenant, and the number held at each level.
use Rattle.std.specs.Prelude.{Bool, true, ◌&&◌, cond, List, [], ◌∷◌, ℕ, suc, ◌-◌, ◌^◌, ltb, leb, take, drop, set, replicate}
use Rattle.table.specs.Table.{node_of, tally, tabulate}

-- every entry's node is below the limit
unfoldable pub nodes_below : ℕ → List ℕ → Bool
nodes_below m [] = true
nodes_below m (e ∷ T) = ltb (node_of e) m && nodes_below m T

-- the owners by node, o so far, after the entries of the tenants i, i + 1, …: a node's entry is its tenant's number and one, the last
-- tenant's if several hold it
unfoldable pub owners_from : List ℕ → ℕ → List ℕ → List ℕ
owners_from o i [] = o
owners_from o i (e ∷ T) = owners_from (set o (node_of e) (suc i)) (suc i) T

-- the owners after the entries of all tenants, if these are stored; else as they were
abbrev pub stored_if : Bool → List ℕ → List ℕ → List ℕ
stored_if below o T = cond below (owners_from o 0 T) o

-- the owners of the nodes below m
abbrev pub owners_of : ℕ → List ℕ → List ℕ
owners_of m T = owners_from (replicate m 0) 0 T

-- how many entries are not 0
abbrev pub used_in : List ℕ → ℕ
used_in xs = tally (λ n. ltb 0 n) xs

-- how many nodes of level l have an owner: those nodes are 2^(h−l) … 2^(h−l+1) − 1
unfoldable pub level_count : ℕ → List ℕ → ℕ → ℕ
level_count h o l = used_in (take (2 ^ (h - l)) (drop (2 ^ (h - l)) o))

-- the same for any of the thirteen levels; no node has a level above the height
abbrev pub count_up_to : ℕ → List ℕ → ℕ → ℕ
count_up_to h o l = cond (leb l h) (level_count h o l) 0

-- the number of owners on each of the thirteen levels
unfoldable pub level_counts : ℕ → List ℕ → List ℕ
level_counts h o = tabulate 0 13 (count_up_to h o)
