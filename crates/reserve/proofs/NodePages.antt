-- The C door's answer for a number at a height, in document 01's words: the pages of a node, and what is no node.
use mathlib.Core.Path.{◌≡◌, refl, sym, ap, ◌∙◌, subst}
use mathlib.Core.Logic.{◌⊎◌, inl, inr, ◌↔◌}
use Prim.Native.Nat.{ℕ, suc, ◌+◌, ◌-◌, ◌*◌, ◌^◌, ◌≤◌, ◌<◌}
use native.Mathlib.Omega.{arith}
use native.Mathlib.Nat.{sub-zero}
use native.Mathlib.Decide.{dec_lt, ℕ_discrete}
use borrow.Author.Tests.{lt-ltb, le-ltb, le-leb, lt-leb, eq-eqb, ne_eqb}
use lib.Pow.{pow_mono}
use Rattle.tree.specs.Node.{InTree, Under, depth, level, first_page, past_page, Covers}
use Rattle.tree.proofs.Highest.{depth_highest}
use Rattle.tree.specs.Block.{Block, first, past, node, block_of, Meet, Inside}
use Rattle.tree.proofs.Align.{inside_meet, meet_cases, meet_self}
use Rattle.tree.proofs.Coordinates.{block_in_tree, node_of_block, block_of_node}
use Rattle.tree.proofs.Under.{under_inside, inside_under}
use Rattle.reserve.specs.NodePages.{no_pages, node_pages, AtOrUnder, NamesPages}

-- ---- the cases of the definition

pub pages_above_12 : (h n : ℕ) → 12 < h → node_pages h n ≡ no_pages 1
unfolding node_pages
pages_above_12 h n p = rw (lt-ltb 12 h p)

module _ (h n : ℕ) (low : h ≤ 12) where
  pub pages_of_zero : n ≡ 0 → node_pages h n ≡ no_pages 7
  unfolding node_pages
  pages_of_zero e = rw (le-ltb 12 h low, eq-eqb n 0 e)

  pub pages_past_tree : 0 < n → 2 ^ suc h ≤ n → node_pages h n ≡ no_pages 7
  unfolding node_pages
  pages_past_tree p q = rw (le-ltb 12 h low, ne_eqb n 0 (omega arith), le-leb (2 ^ suc h) n q)

  pub pages_of_node : InTree h n → node_pages h n ≡ record { answer = 0; first = first_page h n; count = 2 ^ level h n }
  unfolding node_pages
  pages_of_node t = rw (le-ltb 12 h low, ne_eqb n 0 (omega (arith, t.above_zero)), lt-leb (2 ^ suc h) n t.in_height)

-- ---- a node of the tree by its depth

pub in_tree_by_depth : (h n : ℕ) → 0 < n → depth n ≤ h → InTree h n
in_tree_by_depth h n p q = record { above_zero = p; in_height = omega (arith, (depth_highest n p).high, pow_mono (suc_le q)) }
  where
    suc_le : {a b : ℕ} → a ≤ b → suc a ≤ suc b
    suc_le r = omega arith

pub past_tree_by_depth : (h n : ℕ) → 0 < n → h < depth n → 2 ^ suc h ≤ n
past_tree_by_depth h n p q = omega (arith, (depth_highest n p).low, pow_mono q)

-- its pages are pages of the reserve
pub past_page_in_reserve : (h n : ℕ) → InTree h n → past_page h n ≤ 2 ^ h
past_page_in_reserve h n t = omega (arith, block_in_tree h n t)

-- so its first page is a number of 16 bits
pub first_page_at_most_4096 : (h n : ℕ) → h ≤ 12 → InTree h n → first_page h n ≤ 4096
first_page_at_most_4096 h n low t =
    let reserve : 2 ^ h ≤ 4096 = pow_mono low in
    omega (arith, past_page_in_reserve h n t)

-- the door's steps from the depth to the answer
pub first_of_level_le : (n d first : ℕ) → 0 < n → d ≡ depth n → first ≡ 2 ^ d → first ≤ n
first_of_level_le n d first above deep e = rw (e, deep) (depth_highest n above).low

module _ (h n d first size : ℕ) (low : h ≤ 12) (above : 0 < n) (deep : d ≡ depth n) (inside : d ≤ h) (e : first ≡ 2 ^ d) where
  in_tree : InTree h n
  in_tree = in_tree_by_depth h n above (omega arith)

  pub product_fits : size ≡ 2 ^ (h - d) → (n - first) * size < 65536
  product_fits s = rw (e, s, deep) (omega (arith, first_page_at_most_4096 h n low in_tree))

  pub pages_by_depth : size ≡ 2 ^ (h - d) → record { answer = 0; first = (n - first) * size; count = size } ≡ node_pages h n
  pages_by_depth s = rw (e, s, deep) (sym (pages_of_node h n low in_tree))

-- ---- a page as a leaf

-- the leaf of page p, as a block
abbrev leaf : ℕ → Block
leaf p = record { level = 0; index = p }

leaf_in_tree : (h p : ℕ) → p < 2 ^ h → past (leaf p) ≤ 2 ^ h
leaf_in_tree h p q = omega arith

leaf_node : (h p : ℕ) → node h (leaf p) ≡ 2 ^ h + p
leaf_node h p = ap (λ (d : ℕ). 2 ^ d + p) (sub-zero h)

module _ (h n p : ℕ) (t : InTree h n) (q : p < 2 ^ h) where
  abbrev block : Block
  block = block_of h n

  leaf_of_meet : Meet (leaf p) block → AtOrUnder (node h (leaf p)) n
  leaf_of_meet m = go (meet_cases (leaf p) block m)
    where
      go : (leaf p ≡ block) ⊎ (Inside (leaf p) block ⊎ Inside block (leaf p)) → AtOrUnder (node h (leaf p)) n
      go (inl e) = inl (ap (node h) e ∙ node_of_block h n t)
      go (inr (inl i)) =
          inr (subst (Under (node h (leaf p))) (node_of_block h n t)
          (inside_under h (leaf p) block (leaf_in_tree h p q) (block_in_tree h n t) i))
      go (inr (inr i)) = absurd (omega (arith, i.lower))

  meet_of_leaf : AtOrUnder (node h (leaf p)) n → Meet (leaf p) block
  meet_of_leaf (inl e) =
      let same : leaf p ≡ block = sym (block_of_node h (leaf p) (leaf_in_tree h p q)) ∙ ap (block_of h) e in
      subst (Meet (leaf p)) same (meet_self (leaf p))
  meet_of_leaf (inr u) =
      inside_meet (leaf p) block
      (under_inside h (leaf p) block (leaf_in_tree h p q) (block_in_tree h n t)
      (subst (Under (node h (leaf p))) (sym (node_of_block h n t)) u))

  pub covers_iff_leaf : Covers h n p ↔ AtOrUnder (2 ^ h + p) n
  covers_iff_leaf = subst (λ (m : ℕ). Covers h n p ↔ AtOrUnder m n) (leaf_node h p) (
    λ c. leaf_of_meet (record { a_first = omega (arith, c.below); b_first = omega (arith, c.from) }),
    λ l. let m = meet_of_leaf l in record { from = omega (arith, m.b_first); below = omega (arith, m.a_first) },
  )

-- ---- the theorem

-- a node of the tree: its answer names the pages that it covers
pub node_names_pages : (h n : ℕ) → h ≤ 12 → InTree h n → NamesPages h n (node_pages h n)
node_names_pages h n low t = rw (pages_of_node h n low t) (record {
  done = refl;
  covered = λ p. named_iff_covers p;
  size = refl;
  within = past_page_in_reserve h n t;
  leaves = λ p q. let c = covers_iff_leaf h n p t q in (λ m. c.0 ((named_iff_covers p).0 m), λ l. (named_iff_covers p).1 (c.1 l));
})
  where
    named_iff_covers : (p : ℕ) → ((first_page h n ≤ p) × (p < past_page h n)) ↔ Covers h n p
    named_iff_covers p = (λ q. record { from = q.0; below = q.1 }, λ c. (c.from, c.below))

-- what is no node of the tree is refused, and names no page
pub no_node_refused : (h n : ℕ) → h ≤ 12 → ¬ InTree h n → node_pages h n ≡ no_pages 7
no_node_refused h n low none = go (ℕ_discrete n 0) (dec_lt n (2 ^ suc h))
  where
    go : Dec (n ≡ 0) → Dec (n < 2 ^ suc h) → node_pages h n ≡ no_pages 7
    go (yes e) d = pages_of_zero h n low e
    go (no ne) (yes q) = absurd (none (record { above_zero = omega arith; in_height = q }))
    go (no ne) (no nq) = pages_past_tree h n low (omega arith) (omega arith)
