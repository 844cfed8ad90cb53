-- Sets of held nodes, and document 01's terms for them, in its order. A set is any Boolean function of the node's number.
use Rattle.std.specs.Prelude.{◌≡◌, Bool, true, false, ◌&&◌, ◌⊎◌, ℕ, zero, suc, ◌+◌, ◌^◌, ◌<◌, eqb}
use Rattle.tree.specs.Node.{InTree, Under, level, LeftOf}

-- a set of nodes
abbrev pub Nodes : Type 0
Nodes = ℕ → Bool

-- held node
abbrev pub Held : Nodes → ℕ → Type 0
Held A n = A n ≡ true

-- a set of nodes of the tree
abbrev pub Within : ℕ → Nodes → Type 0
Within h A = (n : ℕ) → Held A n → InTree h n

-- legal: no held node lies under another. (In a set no node stands twice; document 01 refuses that in a table by a condition of its own.)
abbrev pub Legal : Nodes → Type 0
Legal A = (u v : ℕ) → Held A u → Held A v → ¬ Under u v

-- free node: neither it nor any node above or below it is held
abbrev pub Free : Nodes → ℕ → Type 0
Free A n = (m : ℕ) → Held A m → ¬ ((m ≡ n) ⊎ (Under n m ⊎ Under m n))

-- dense: no free node lies left of a held node of its own level
abbrev pub Dense : ℕ → Nodes → Type 0
Dense h A = (u v : ℕ) → InTree h u → Free A u → Held A v → level h u ≡ level h v → ¬ LeftOf h u v

-- tail of u: a held node of lower level, right of u
pub record Tail (h : ℕ) (A : Nodes) (u t : ℕ) : Type 0 where
  pub held : Held A t
  pub lower : level h t < level h u
  pub right : LeftOf h u t

-- meager l-tree: a level l node with exactly one held node below it, itself not held
pub record Meager (h : ℕ) (A : Nodes) (l x : ℕ) : Type 0 where
  pub in_tree : InTree h x
  pub of_level : level h x ≡ l
  pub not_held : ¬ Held A x
  pub one : ℕ
  pub one_held : Held A one
  pub one_below : Under one x
  pub only : (m : ℕ) → Held A m → Under m x → m ≡ one

-- safe: dense, each held node has at most one tail, and no meager tree of a held node's level lies left of that node
pub record Safe (h : ℕ) (A : Nodes) : Type 0 where
  pub dense : Dense h A
  pub one_tail : (u t t' : ℕ) → Held A u → Tail h A u t → Tail h A u t' → t ≡ t'
  pub no_meager : (u x : ℕ) → Held A u → Meager h A (level h u) x → ¬ LeftOf h x u

-- 1 for true and 0 for false
abbrev pub one_if : Bool → ℕ
one_if true = 1
one_if false = 0

-- how many numbers below n pass the test
unfoldable pub count : ℕ → (ℕ → Bool) → ℕ
count zero p = 0
count (suc n) p = one_if (p n) + count n p

-- the number held at a level: the held nodes of the tree that have it
unfoldable pub sizes : ℕ → Nodes → ℕ → ℕ
unfolding count
sizes h A l = count (2 ^ suc h) (λ n. A n && eqb (level h n) l)
