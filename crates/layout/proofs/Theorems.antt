-- What the layout of given counts is, in document 01's terms, for every height and all counts.
use mathlib.Core.Path.{◌≡◌, sym, ap, ◌∙◌}
use mathlib.Core.Logic.{◌↔◌}
use mathlib.Core.List.{List}
use Prim.Native.Nat.{ℕ, suc, ◌*◌, ◌^◌, ◌≤◌}
use lib.ListN.{get_or}
use Rattle.tree.specs.Held.{Nodes, Within, Legal, Safe, sizes}
use Rattle.tree.specs.Pages.{pages_of}
use Rattle.tree.proofs.Bridge.{SameSet, legal_nodes, safe_nodes}
use Rattle.tree.proofs.Sets.{set_of_nodes, nodes_of_in_tree}
use Rattle.tree.proofs.Sum.{sum_cong}
use Rattle.tree.proofs.Sizes.{sizes_of_blocks, sizes_above}
use Rattle.tree.proofs.Theorems.{safe_unique, legal_pages}
use Rattle.layout.specs.Layout.{layout, among, pages}
use Rattle.layout.specs.Set.{layout_set}
use Rattle.layout.proofs.Order.{layout_legal}
use Rattle.layout.proofs.Within.{layout_within}
use Rattle.layout.proofs.Sizes.{layout_sizes}
use Rattle.layout.proofs.Safe.{layout_safe}
use Rattle.layout.proofs.Pages.{pages_of_levels}

pub layout_in_tree : (h : ℕ) (cs : List ℕ) → Within h (layout_set h cs)
layout_in_tree h cs = nodes_of_in_tree h (among (layout cs))

module _ (h : ℕ) (cs : List ℕ) (fits : pages cs ≤ 2 ^ h) where
  same : SameSet h (layout_set h cs) (among (layout cs))
  same = set_of_nodes h (among (layout cs)) (layout_within h cs fits)

  pub layout_is_legal : Legal (layout_set h cs)
  layout_is_legal = legal_nodes h (layout_set h cs) (among (layout cs)) same (layout_legal cs)

  pub layout_is_safe : Safe h (layout_set h cs)
  layout_is_safe = safe_nodes h (layout_set h cs) (among (layout cs)) same (layout_safe cs)

  pub layout_has_counts : (l : ℕ) → sizes h (layout_set h cs) l ≡ get_or cs l 0
  layout_has_counts l = sizes_of_blocks h (layout_set h cs) (among (layout cs)) same l ∙ layout_sizes h cs fits l

-- a legal set with these counts has room for them
pub legal_set_fits : (h : ℕ) (cs : List ℕ) (A : Nodes) → Within h A → Legal A → ((l : ℕ) → sizes h A l ≡ get_or cs l 0) → pages cs ≤ 2 ^ h
unfolding pages_of
legal_set_fits h cs A w l e =
    rw (pages_of_levels h cs (λ m q. sym (e m) ∙ sizes_above h A m q), ← sum_cong (suc h) (λ m q. ap (λ (c : ℕ). c * 2 ^ m) (e m)))
    (legal_pages h A w l)

-- a legal and safe set is the layout of its counts
pub safe_set_is_layout : (h : ℕ) (cs : List ℕ) (A : Nodes) → Within h A → Legal A → Safe h A → ((l : ℕ) → sizes h A l ≡ get_or cs l 0)
    → (n : ℕ) → A n ≡ layout_set h cs n
safe_set_is_layout h cs A w l s e =
    let fits = legal_set_fits h cs A w l e in
    safe_unique h A (layout_set h cs) w (layout_in_tree h cs) l (layout_is_legal h cs fits) s (layout_is_safe h cs fits)
    (λ m. e m ∙ sym (layout_has_counts h cs fits m))

-- a legal set of nodes with these counts
pub record LegalSet (h : ℕ) (cs : List ℕ) : Type 0 where
  pub set : Nodes
  pub within : Within h set
  pub legal : Legal set
  pub counts : (l : ℕ) → sizes h set l ≡ get_or cs l 0

-- there is one exactly when the pages fit
pub legal_set_iff_fits : (h : ℕ) (cs : List ℕ) → LegalSet h cs ↔ (pages cs ≤ 2 ^ h)
legal_set_iff_fits h cs = (
  λ A. legal_set_fits h cs A.set A.within A.legal A.counts,
  λ fits. record {
    set = layout_set h cs;
    within = layout_in_tree h cs;
    legal = layout_is_legal h cs fits;
    counts = layout_has_counts h cs fits;
  },
)
