-- The planner's view of a level: a row of blocks by index, what is in one row and not in another, and the list of moves.
use Rattle.std.specs.Prelude.{◌≡◌, Bool, true, not, ◌&&◌, cond, List, ◌++◌, map, ℕ, ◌+◌, ◌-◌, ◌^◌, ◌≤◌, ◌<◌}
use Rattle.std.specs.Prelude.{slice_set, eqb, leb, ltb, get_or, length, take, replicate}
use Rattle.tree.specs.Held.{Nodes}
use Rattle.layout.specs.Rows.{no_index, start_at, run_at, lone_at, in_row, holds_node, up_from}
use Rattle.layout.specs.declared.Layout.{Layout}
use Rattle.table.specs.Pairing.{keep, Shift, pair, leavers, places, shifts, newcomer}
use Rattle.table.specs.declared.Move.{Move}
use Rattle.plans.specs.declared.Plan.{Plan}
use Rattle.plans.specs.declared.Planned.{Planned}
use Rattle.plans.specs.declared.Row.{Row}
use Rattle.plans.specs.declared.Shifted.{Shifted}

-- the block with index i is in the row: it is in the run or is the lone one, and is not the hole
unfoldable pub row_holds : Row → ℕ → Bool
row_holds w i = in_row w.start w.run w.lone i && not (eqb i w.hole)

-- the index behind another; none behind none
abbrev pub after : ℕ → ℕ
after i = cond (eqb i no_index) no_index (i + 1)

-- index i is in the one row and not in the other
abbrev pub only_in : Row → Row → ℕ → Bool
only_in v w i = row_holds v i && not (row_holds w i)

-- the indices from a on that are in the one row and not in the other
unfoldable pub only_from : Row → Row → ℕ → List ℕ
only_from v w a = keep (only_in v w) (up_from a (no_index - a))

-- the first of them
abbrev pub least_only : Row → Row → ℕ → ℕ
least_only v w a = get_or (only_from v w a) 0 no_index

-- the candidate c, where it is at least a, less than the best so far, and passes the test; else the best so far
unfoldable pub better_of : (ℕ → Bool) → ℕ → ℕ → ℕ → ℕ
better_of p a c best = cond (leb a c && ltb c best && p c) c best

-- the moves of a plan: its first n entries
abbrev pub moves_in : Plan → List Move
moves_in p = take p.n p.moves

-- what an entry holds that no move stands in, and what stands for a move past the end of a list
abbrev pub no_move : Move
no_move = record { tenant = 0; from = 0; to = 0; staged = 0 }

-- the plan of at most seven moves: its entries after them hold no move
abbrev pub plan_of : List Move → Plan
plan_of ms = record { n = length ms; moves = ms ++ replicate (7 - length ms) no_move }

-- the plan with the move m written behind its moves
abbrev pub with_move : Plan → Move → Plan
with_move p m = record { n = p.n + 1; moves = slice_set p.moves p.n m }

-- the nodes with the given indices on the level whose first node is b
abbrev pub nodes_at : ℕ → List ℕ → List ℕ
nodes_at b is = map (λ i. b + i) is

-- what changes on that level from the one row to the other: the nodes left, paired left to right with the new ones
unfoldable pub level_shifts : ℕ → Row → Row → List Shift
level_shifts b v w = pair (nodes_at b (only_from v w 0)) (nodes_at b (only_from w v 0))

-- the index of the first new node that the pairing leaves over
unfoldable pub spare_index : Row → Row → ℕ
spare_index v w = get_or (only_from w v 0) (length (only_from v w 0)) no_index

-- the move of a shift, where the array has each node's tenant and one
abbrev pub move_of : List ℕ → Shift → Move
move_of owners s = record { tenant = get_or owners s.from 0 - 1; from = s.from; to = s.to; staged = 0 }

-- What is asked of two rows of a level whose first node is b: their runs end below no_index, and every block of the old row has a tenant.
pub record Shiftable (b : ℕ) (old new : Row) (owners : List ℕ) : Type 0 where
  pub old_fits : old.start + old.run < no_index
  pub new_fits : new.start + new.run < no_index
  pub leaves : (i : ℕ) → i < no_index → row_holds old i ≡ true → (b + i < 8192) × (0 < get_or owners (b + i) 0)
  pub takes : (i : ℕ) → i < no_index → row_holds new i ≡ true → b + i < 2 ^ 16

-- the plan with the level's moves at its end, and the index of the place left over
pub record LevelShifted (b : ℕ) (old new : Row) (owners : List ℕ) (before : Plan) (after : Shifted) : Type 0 where
  pub plan : after.plan ≡ plan_of (moves_in before ++ map (move_of owners) (level_shifts b old new))
  pub spare : after.spare ≡ spare_index old new

-- the row of level l of a layout, with a hole
abbrev pub row_of : Layout → ℕ → ℕ → Row
row_of L l hole = record { start = start_at L l; run = run_at L l; lone = lone_at L l; hole = hole }

-- the index of node n on the level whose first node is b, and which has b nodes; no index for a node of another level
abbrev pub index_on : ℕ → ℕ → ℕ
index_on b n = cond (leb b n && ltb (n - b) b) (n - b) no_index

-- the node with index i on that level; 0 where there is no index
abbrev pub node_on : ℕ → ℕ → ℕ
node_on b i = cond (eqb i no_index) 0 (b + i)

-- the nodes of a layout but one
unfoldable pub nodes_but : ℕ → Layout → ℕ → Nodes
nodes_but h L gone n = holds_node L h n && not (eqb n gone)

-- what changes on level l from the old layout, without the node given up, to the new one
abbrev pub shifts_at : ℕ → Layout → Layout → ℕ → ℕ → List Shift
shifts_at h old new gone l =
    pair (leavers h (nodes_but h old gone) (holds_node new h) l) (places h (nodes_but h old gone) (holds_node new h) l)

-- and on all levels
abbrev pub shifts_of : ℕ → Layout → Layout → ℕ → List Shift
shifts_of h old new gone = shifts h (nodes_but h old gone) (holds_node new h)

-- the newcomer's node on level x; 0 if that is above the root
abbrev pub newcomer_on : ℕ → Layout → Layout → ℕ → ℕ → ℕ
newcomer_on h old new gone x = cond (leb x h) (newcomer h (nodes_but h old gone) (holds_node new h) x) 0

-- level l of the layout has no index from m on
pub record LevelWithin (m : ℕ) (L : Layout) (l : ℕ) : Type 0 where
  pub run_within : start_at L l + run_at L l ≤ m
  pub lone_within : lone_at L l < no_index → lone_at L l < m

-- What is asked of two layouts: both lie in the tree, every old node but the one given up has a tenant, and at most seven have to move.
pub record Plannable (h : ℕ) (old new : Layout) (gone : ℕ) (owners : List ℕ) : Type 0 where
  pub height : h ≤ 12
  pub old_within : (l : ℕ) → l ≤ h → LevelWithin (2 ^ (h - l)) old l
  pub new_within : (l : ℕ) → l ≤ h → LevelWithin (2 ^ (h - l)) new l
  pub owned : (n : ℕ) → nodes_but h old gone n ≡ true → 0 < get_or owners n 0
  pub few : length (shifts_of h old new gone) ≤ 7

-- level l's moves at the end of the plan, and the newcomer's node if l is the level x that it wants
pub record LevelPlanned (h : ℕ) (old new : Layout) (gone l x : ℕ) (owners : List ℕ) (before after : Planned) : Type 0 where
  pub plan : after.plan ≡ plan_of (moves_in before.plan ++ map (move_of owners) (shifts_at h old new gone l))
  pub node : after.node ≡ cond (eqb l x) (newcomer_on h old new gone x) before.node

-- the moves of all levels, and the newcomer's node
pub record AllPlanned (h : ℕ) (old new : Layout) (gone x : ℕ) (owners : List ℕ) (r : Planned) : Type 0 where
  pub plan : r.plan ≡ plan_of (map (move_of owners) (shifts_of h old new gone))
  pub node : r.node ≡ newcomer_on h old new gone x
