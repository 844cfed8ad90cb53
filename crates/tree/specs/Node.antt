-- The tree and its nodes, as document 01 has them under "The tree". A node is its number.
use Rattle.std.specs.Prelude.{◌≡◌, ◌⊎◌, ℕ, zero, suc, ◌+◌, ◌-◌, ◌*◌, ◌/◌, ◌^◌, ◌≤◌, ◌<◌}

-- node: the root is 1, and a reserve of height h has the nodes 1 … 2^(h+1) − 1
pub record InTree (h n : ℕ) : Type 0 where
  pub above_zero : 0 < n
  pub in_height : n < 2 ^ suc h

-- children of n: 2n and 2n + 1
abbrev pub Child : ℕ → ℕ → Type 0
Child c n = (c ≡ 2 * n) ⊎ (c ≡ 2 * n + 1)

-- m lies under n: it is a child of n, or lies under a child of n
pub data Under : ℕ → ℕ → Type 0 where
  child : {m n : ℕ} → Child m n → Under m n
  deeper : {m c n : ℕ} → Under m c → Child c n → Under m n

-- one more, unless the first number is 0
abbrev pub one_more_if : ℕ → ℕ → ℕ
one_more_if zero d = zero
one_more_if (suc p) d = suc d

-- the steps from n up to the root: each goes from a node to n / 2, of which it is a child; f bounds their number
unfoldable pub steps_up : ℕ → ℕ → ℕ
steps_up zero n = zero
steps_up (suc f) n = one_more_if (n / 2) (steps_up f (n / 2))

-- depth: the root has depth 0, and a child one more than its parent
unfoldable pub depth : ℕ → ℕ
unfolding steps_up
depth n = steps_up n n

-- level: the height less the depth
abbrev pub level : ℕ → ℕ → ℕ
level h n = h - depth n

-- pages of a node: 2^level of them, and those of the nodes of one level follow one another from page 0
abbrev pub first_page : ℕ → ℕ → ℕ
first_page h n = (n - 2 ^ depth n) * 2 ^ level h n

-- the page after the last one
abbrev pub past_page : ℕ → ℕ → ℕ
past_page h n = first_page h n + 2 ^ level h n

-- covers: p is one of the pages of n
pub record Covers (h n p : ℕ) : Type 0 where
  pub from : first_page h n ≤ p
  pub below : p < past_page h n

-- left of: neither node contains the other, and the pages of u come first
pub record LeftOf (h u v : ℕ) : Type 0 where
  pub not_under : ¬ Under u v
  pub not_above : ¬ Under v u
  pub pages_first : past_page h u ≤ first_page h v
