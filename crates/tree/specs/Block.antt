-- A node by its level and its index in the level, left to right from 0, and document 01's terms once more in these coordinates, in which
-- all but "held" are inequalities between pages. `proofs/Bridge.antt` shows that they say the same; nothing but proofs uses them.
use Rattle.std.specs.Prelude.{◌≡◌, Bool, true, ◌&&◌, ℕ, suc, ◌+◌, ◌-◌, ◌*◌, ◌^◌, ◌≤◌, ◌<◌, leb, ltb}
use Rattle.tree.specs.Node.{depth}
use Rattle.tree.specs.Node as Node
use Rattle.tree.specs.Held.{Nodes, count}

-- a block: a node by its level and its index there
pub record Block : Type 0 where
  pub level : ℕ
  pub index : ℕ

-- its first page, and the page after its last one
abbrev pub first : Block → ℕ
first b = b.index * 2 ^ b.level

abbrev pub past : Block → ℕ
past b = suc b.index * 2 ^ b.level

-- the block's number in a tree of height h
abbrev pub node : ℕ → Block → ℕ
node h b = 2 ^ (h - b.level) + b.index

-- the block of a node of the tree
abbrev pub block_of : ℕ → ℕ → Block
block_of h n = record { level = Node.level h n; index = n - 2 ^ depth n }

-- a set of blocks
abbrev pub Blocks : Type 0
Blocks = Block → Bool

-- a set of nodes as a set of blocks, and back
abbrev pub blocks_of : ℕ → Nodes → Blocks
blocks_of h A b = leb (past b) (2 ^ h) && A (node h b)

abbrev pub nodes_of : ℕ → Blocks → Nodes
nodes_of h B n = (ltb 0 n && ltb n (2 ^ suc h)) && B (block_of h n)

-- the blocks lie in a tree of height h
abbrev pub BWithin : ℕ → Blocks → Type 0
BWithin h B = (b : Block) → B b ≡ true → past b ≤ 2 ^ h

-- the number held at a level; no level of the tree has more than 2^h nodes
unfoldable pub bsizes : ℕ → Blocks → ℕ → ℕ
unfolding count
bsizes h B l = count (2 ^ h) (λ k. B (record { level = l; index = k }))

-- two blocks share a page: one is the other, or contains it
pub record Meet (a b : Block) : Type 0 where
  pub a_first : first a < past b
  pub b_first : first b < past a

-- a lies below b
pub record Inside (a b : Block) : Type 0 where
  pub lower : a.level < b.level
  pub from : first b ≤ first a
  pub to : past a ≤ past b

-- legal, free, dense, tail, meager and safe, as in Held.antt
abbrev pub BLegal : Blocks → Type 0
BLegal B = (a b : Block) → B a ≡ true → B b ≡ true → Meet a b → a ≡ b

abbrev pub BFree : Blocks → Block → Type 0
BFree B u = (b : Block) → B b ≡ true → ¬ Meet b u

abbrev pub BDense : Blocks → Type 0
BDense B = (u v : Block) → BFree B u → B v ≡ true → u.level ≡ v.level → ¬ (past u ≤ first v)

pub record BTail (B : Blocks) (u t : Block) : Type 0 where
  pub held : B t ≡ true
  pub lower : t.level < u.level
  pub right : past u ≤ first t

pub record BMeager (B : Blocks) (x : Block) : Type 0 where
  pub not_held : ¬ (B x ≡ true)
  pub one : Block
  pub one_held : B one ≡ true
  pub one_below : Inside one x
  pub only : (b : Block) → B b ≡ true → Inside b x → b ≡ one

pub record BSafe (B : Blocks) : Type 0 where
  pub dense : BDense B
  pub one_tail : (u t t' : Block) → B u ≡ true → BTail B u t → BTail B u t' → t ≡ t'
  pub no_meager : (u x : Block) → B u ≡ true → x.level ≡ u.level → BMeager B x → ¬ (past x ≤ first u)
