-- What the tests of a survey say of the table, each where the ones before it are passed.
use mathlib.Core.Path.{◌≡◌, sym, ap, ◌∙◌, subst₂}
use mathlib.Core.Bool.{Bool, true, false, false≢true}
use mathlib.Core.Logic.{◌↔◌}
use mathlib.Core.List.{List}
use Prim.Native.Nat.{ℕ, suc, ◌^◌, ◌≤◌, ◌<◌}
use native.Mathlib.Omega.{arith}
use lib.ListN.{length, get_or, replicate, length-replicate}
use lib.Pow.{pow_pos}
use Rattle.tree.specs.Pages.{sum}
use Rattle.tree.proofs.Count.{equal_of_both_ways}
use Rattle.layout.specs.Layout.{pages}
use Rattle.layout.specs.Rows.{rows_of}
use Rattle.table.specs.Table.{node_at, InOrder, counts_of, in_order?}
use Rattle.table.specs.Owners.{nodes_below, owners_of, used_in, level_counts}
use Rattle.table.proofs.Tally.{Once}
use Rattle.table.proofs.Order.{in_order_fits, in_order_iff}
use Rattle.table.proofs.Owners.{nodes_are_below, below_of_nodes}
use Rattle.table.proofs.Levels.{level_counts_together, length_owners, tree_below_8192, once_iff_levels_are_used}
use Rattle.survey.specs.Owned.{rows_owned}
use Rattle.survey.specs.Survey.{Gathered}
use Rattle.survey.proofs.Owned.{LayoutOwned, rows_owned_iff}
use Rattle.survey.proofs.InOrder.{counts_are_levels, in_order_iff_owned}

-- a test is as good as `in_order?` if it holds exactly for a table in order
in_order_decided : (h : ℕ) (T : List ℕ) (b : Bool) → h ≤ 12 → (b ≡ true → InOrder h T) → (InOrder h T → b ≡ true) → b ≡ in_order? h T
in_order_decided h T b low to from =
    equal_of_both_ways b (in_order? h T) (λ e. (in_order_iff h T low).1 (to e)) (λ e. from ((in_order_iff h T low).0 e))

in_order_denied : (h : ℕ) (T : List ℕ) → h ≤ 12 → ¬ InOrder h T → false ≡ in_order? h T
in_order_denied h T low never = in_order_decided h T false low (λ e. absurd (false≢true e)) (λ i. absurd (never i))

pub past_tree_not_in_order : (h : ℕ) (T : List ℕ) → h ≤ 12 → nodes_below (2 ^ suc h) T ≡ false → false ≡ in_order? h T
past_tree_not_in_order h T low e = in_order_denied h T low (λ i. false≢true (sym e ∙ below_of_nodes (2 ^ suc h) T (λ t q. i.in_tree t)))

module _ {h : ℕ} {T cs o : List ℕ} (g : Gathered h T cs o) where
  in_tree : (t : ℕ) → node_at T t < 2 ^ suc h
  in_tree = nodes_are_below (2 ^ suc h) T (pow_pos (suc h)) g.below

  tree_in_owners : 2 ^ suc h ≤ 8192
  tree_in_owners = tree_below_8192 h g.low

  counts_by_owners : cs ≡ level_counts h (owners_of 8192 T)
  counts_by_owners = g.counts ∙ ap (level_counts h) g.owners

  once_iff_counted : (sum 13 (λ l. get_or cs l 0) ≡ used_in T) ↔ Once T
  once_iff_counted =
      let by_levels = ap (λ (c : List ℕ). sum 13 (λ l. get_or c l 0)) counts_by_owners ∙ level_counts_together h (owners_of 8192 T) g.low in
      let iff = once_iff_levels_are_used h 8192 T tree_in_owners in_tree in
      (λ e. iff.0 (sym by_levels ∙ e), λ once. by_levels ∙ iff.1 once)

  counts_if_once : Once T → cs ≡ counts_of h T
  counts_if_once once = counts_by_owners ∙ sym (counts_are_levels h 8192 T g.low tree_in_owners in_tree once)

  pub counts_if_in_order : in_order? h T ≡ true → cs ≡ counts_of h T
  counts_if_in_order e = counts_if_once ((in_order_iff h T g.low).0 e).once

  pub twice_not_in_order : ¬ (used_in T ≡ sum 13 (λ l. get_or cs l 0)) → false ≡ in_order? h T
  twice_not_in_order d = in_order_denied h T g.low (λ i. d (sym (once_iff_counted.1 i.once)))

  module _ (counted : used_in T ≡ sum 13 (λ l. get_or cs l 0)) where
    once : Once T
    once = once_iff_counted.0 (sym counted)

    counts_found : cs ≡ counts_of h T
    counts_found = counts_if_once once

    pub no_room_not_in_order : 2 ^ h < pages cs → false ≡ in_order? h T
    no_room_not_in_order q = in_order_denied h T g.low (λ i. omega (arith, in_order_fits h T g.low i, ap pages counts_found))

    pub owned_is_in_order : pages cs ≤ 2 ^ h → rows_owned h (rows_of cs) o ≡ in_order? h T
    owned_is_in_order fits =
        in_order_decided h T (rows_owned h (rows_of cs) o) g.low
        (λ e. iff.1 (once, rw (← counts_found) fits, subst₂ (LayoutOwned h) counts_found g.owners (rows_iff.0 e)))
        (λ i. rows_iff.1 (subst₂ (LayoutOwned h) (sym counts_found) (sym g.owners) (iff.0 i).2))
      where
        iff : InOrder h T ↔ (Once T × (pages (counts_of h T) ≤ 2 ^ h) × LayoutOwned h (counts_of h T) (owners_of 8192 T))
        iff = in_order_iff_owned h 8192 T g.low tree_in_owners in_tree

        length_is : length o ≡ 8192
        length_is = ap length g.owners ∙ length_owners (replicate 8192 0) 0 T ∙ length-replicate {A = ℕ} 8192 0

        rows_iff : (rows_owned h (rows_of cs) o ≡ true) ↔ LayoutOwned h cs o
        rows_iff = rows_owned_iff h cs o g.low fits (omega (arith, length_is, tree_in_owners))
