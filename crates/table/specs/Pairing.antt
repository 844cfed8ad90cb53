-- Who goes where when the set of held nodes changes. Document 01, "Calls": on each level those whose node is not in the new set take, left to
-- right by old node, the nodes that nobody stays on, left to right; the newcomer takes the last one.
use Rattle.std.specs.Prelude.{Bool, not, ◌&&◌, cond, List, [], ◌∷◌, ◌++◌, map, ℕ, zero, suc, ◌-◌, ◌^◌, eqb, get_or, length, set}
use Rattle.tree.specs.Held.{Nodes}
use Rattle.layout.specs.Rows.{up_from}
use Rattle.table.specs.Table.{node_of, with_node, occupied}
use Rattle.table.specs.declared.Move.{Move}

-- the numbers that pass the test, in their order
abbrev pub keep : (ℕ → Bool) → List ℕ → List ℕ
keep p [] = []
keep p (x ∷ xs) = cond (p x) (x ∷ keep p xs) (keep p xs)

-- the nodes of level l, left to right
abbrev pub level_nodes : ℕ → ℕ → List ℕ
level_nodes h l = up_from (2 ^ (h - l)) (2 ^ (h - l))

-- the held nodes of level l that are not in the new set: whoever is there has to leave
unfoldable pub leavers : ℕ → Nodes → Nodes → ℕ → List ℕ
leavers h S N l = keep (λ n. S n && not (N n)) (level_nodes h l)

-- the nodes of level l of the new set that nobody stays on
unfoldable pub places : ℕ → Nodes → Nodes → ℕ → List ℕ
places h S N l = keep (λ n. N n && not (S n)) (level_nodes h l)

-- from an old node to a new one
pub record Shift : Type 0 where
  pub from : ℕ
  pub to : ℕ

-- the first with the first, the second with the second, as long as both have one
abbrev pub pair : List ℕ → List ℕ → List Shift
pair [] ys = []
pair (x ∷ xs) [] = []
pair (x ∷ xs) (y ∷ ys) = record { from = x; to = y } ∷ pair xs ys

-- the shifts of the levels l, l + 1, …, n of them
abbrev pub shifts_from : ℕ → Nodes → Nodes → ℕ → ℕ → List Shift
shifts_from h S N l zero = []
shifts_from h S N l (suc n) = pair (leavers h S N l) (places h S N l) ++ shifts_from h S N (suc l) n

-- all of them: by level from 0 up, then old node left to right
unfoldable pub shifts : ℕ → Nodes → Nodes → List Shift
shifts h S N = shifts_from h S N 0 (suc h)

-- where the shifts bring whoever is on node n
abbrev pub goes : List Shift → ℕ → ℕ
goes [] n = n
goes (s ∷ ss) n = cond (eqb s.from n) s.to (goes ss n)

-- the newcomer's node on level x: the last of the nodes that nobody stays on, which the leavers leave over
unfoldable pub newcomer : ℕ → Nodes → Nodes → ℕ → ℕ
newcomer h S N x = get_or (places h S N x) (length (leavers h S N x)) 0

-- the tenant whose node is n
abbrev pub owner_of : List ℕ → ℕ → ℕ
owner_of [] n = 0
owner_of (e ∷ T) n = cond (eqb (node_of e) n) 0 (suc (owner_of T n))

-- the table with everybody in the new set N
unfoldable pub moved : ℕ → Nodes → List ℕ → List ℕ
moved h N T = map (λ e. with_node e (goes (shifts h (occupied T) N) (node_of e))) T

-- the moves: each shift with the tenant that it moves. Who of them is staged is decided later, with their order (carrying/specs/Order.antt).
unfoldable pub moves_of : ℕ → Nodes → List ℕ → List Move
moves_of h N T = map (λ s. record { tenant = owner_of T s.from; from = s.from; to = s.to; staged = 0 }) (shifts h (occupied T) N)

-- the table with the moves of a list carried out, entry by entry
unfoldable pub written : List ℕ → List Move → List ℕ
written T [] = T
written T (m ∷ ms) = written (set T m.tenant (with_node (get_or T m.tenant 0) m.to)) ms
