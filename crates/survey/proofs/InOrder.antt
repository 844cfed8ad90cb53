-- A table with no node past the tree is in order exactly if none stands twice, the pages fit, and every node of the layout has an owner.
use mathlib.Core.Path.{◌≡◌, sym, ◌∙◌}
use mathlib.Core.Logic.{◌↔◌}
use mathlib.Core.List.{List}
use Prim.Native.Nat.{ℕ, suc, ◌^◌, ◌≤◌, ◌<◌}
use native.Mathlib.Omega.{arith}
use Rattle.tree.specs.Node.{InTree}
use Rattle.layout.specs.Layout.{pages}
use Rattle.layout.specs.Set.{layout_set}
use Rattle.layout.proofs.Theorems.{layout_in_tree, layout_has_counts}
use Rattle.table.specs.Table.{node_at, occupied, InOrder, counts_of}
use Rattle.table.specs.Owners.{owners_of, level_counts}
use Rattle.table.proofs.Tally.{Once}
use Rattle.table.proofs.Tabulate.{tabulate_cong}
use Rattle.table.proofs.Occupied.{occupied_within}
use Rattle.table.proofs.Order.{tenants_are_sizes, sizes_are_counts, in_order_fits, in_order_is_layout, in_order_of_layout}
use Rattle.table.proofs.Owners.{owned_is_occupied}
use Rattle.table.proofs.Levels.{level_counts_are_sizes}
use Rattle.survey.specs.Owned.{owned}
use Rattle.survey.proofs.Same.{same_of_sizes}
use Rattle.survey.proofs.Owned.{LayoutOwned}

module _ (h m : ℕ) (T : List ℕ) (low : h ≤ 12) (long : 2 ^ suc h ≤ m) (below : (t : ℕ) → node_at T t < 2 ^ suc h) where
  abbrev o : List ℕ
  o = owners_of m T

  owned_is_held : (n : ℕ) → InTree h n → owned o n ≡ occupied T n
  owned_is_held n t = owned_is_occupied m T n t.above_zero (omega (arith, t.in_height))

  pub counts_are_levels : Once T → counts_of h T ≡ level_counts h o
  unfolding counts_of
  counts_are_levels once = tabulate_cong 0 13 (λ l q r. tenants_are_sizes h T below once l) ∙ sym (level_counts_are_sizes h m T long below)

  layout_owned : InOrder h T → LayoutOwned h (counts_of h T) o
  layout_owned i n e = owned_is_held n (layout_in_tree h (counts_of h T) n e) ∙ in_order_is_layout h T low i n ∙ e

  in_order_of_owned : Once T → pages (counts_of h T) ≤ 2 ^ h → LayoutOwned h (counts_of h T) o → InOrder h T
  in_order_of_owned once fits all = in_order_of_layout h T (counts_of h T) fits (λ n. sym (same n)) once
    where
      cs : List ℕ
      cs = counts_of h T

      same : (n : ℕ) → layout_set h cs n ≡ occupied T n
      same =
          same_of_sizes h (layout_set h cs) (occupied T) (occupied_within h T below)
          (λ l. layout_has_counts h cs fits l ∙ sym (sizes_are_counts h T below low once l))
          (λ n e. sym (owned_is_held n (layout_in_tree h cs n e)) ∙ all n e)

  pub in_order_iff_owned : InOrder h T ↔ (Once T × (pages (counts_of h T) ≤ 2 ^ h) × LayoutOwned h (counts_of h T) o)
  in_order_iff_owned = (λ i. (i.once, in_order_fits h T low i, layout_owned i), λ p. in_order_of_owned p.0 p.1 p.2)
