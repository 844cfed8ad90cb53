-- The pages of a node, as the C door answers them, from document 01's terms under "The tree".
use Rattle.std.specs.Prelude.{◌≡◌, Bool, cond, ◌||◌, ◌⊎◌, ◌↔◌, ℕ, suc, ◌+◌, ◌^◌, ◌≤◌, ◌<◌, eqb, leb, ltb}
use Rattle.tree.specs.Node.{Under, level, first_page, Covers}
use Rattle.reserve.specs.declared.nodes.Pages.{Pages}

-- no node of a tree of height h: 0, or above 2^(h+1) − 1
abbrev pub outside : ℕ → ℕ → Bool
outside h n = eqb n 0 || leb (2 ^ suc h) n

-- a refusal: its number, and no pages
abbrev pub no_pages : ℕ → Pages
no_pages number = record { answer = number; first = 0; count = 0 }

-- the answer for a number at a height: 1 above height 12, 7 for what is no node, else the node's first page and how many it covers
unfoldable pub node_pages : ℕ → ℕ → Pages
node_pages h n =
    cond (ltb 12 h) (no_pages 1)
    (cond (outside h n) (no_pages 7)
    (record { answer = 0; first = first_page h n; count = 2 ^ level h n }))

-- m is n, or lies under it
abbrev pub AtOrUnder : ℕ → ℕ → Type 0
AtOrUnder m n = (m ≡ n) ⊎ Under m n

-- page p is named
abbrev pub Named : Pages → ℕ → Type 0
Named r p = (r.first ≤ p) × (p < r.first + r.count)

-- the answer names the pages that the node covers: these and no others, 2^level of them, all of them pages of the reserve. The pages are the leaves
-- of the tree, left to right, so page p is node 2^h + p; it is named exactly if that leaf is the node or lies under it.
pub record NamesPages (h n : ℕ) (r : Pages) : Type 0 where
  pub done : r.answer ≡ 0
  pub covered : (p : ℕ) → Named r p ↔ Covers h n p
  pub size : r.count ≡ 2 ^ level h n
  pub within : r.first + r.count ≤ 2 ^ h
  pub leaves : (p : ℕ) → p < 2 ^ h → Named r p ↔ AtOrUnder (2 ^ h + p) n
