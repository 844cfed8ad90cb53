-- An accepted release keeps the table in order and the book in agreement with it, and a growth finds its tenant out of the way.
use mathlib.Core.Path.{◌≡◌, refl, sym, ap, ◌∙◌}
use mathlib.Core.List.{List}
use mathlib.Core.Option.{none}
use Prim.Native.Nat.{ℕ, ◌+◌, ◌^◌, ◌≤◌, ◌<◌}
use native.Mathlib.Nat.{le_of_eq}
use native.Mathlib.Omega.{arith}
use native.Mathlib.Decide.{ℕ_discrete}
use borrow.Author.Tests.{eq-eqb, ne_eqb}
use lib.ListN.{length, set, length-set}
use Rattle.tree.specs.Node.{level}
use Rattle.tree.specs.Held.{Nodes, sizes}
use Rattle.layout.specs.Layout.{pages}
use Rattle.layout.specs.Set.{layout_set}
use Rattle.layout.specs.Change.{one_block_more, one_block_fewer}
use Rattle.layout.proofs.Theorems.{layout_in_tree, layout_has_counts}
use Rattle.table.specs.Table.{node_at, occupied, counts_of, InOrder}
use Rattle.table.specs.Pairing.{moved}
use Rattle.table.proofs.Order.{counts_length, in_order_fits, in_order_of_layout}
use Rattle.table.proofs.Moved.{Movable, moved_length, moved_once, moved_occupies}
use Rattle.rules.specs.History.{Book, write}
use Rattle.rules.specs.Demand.{Agrees}
use Rattle.rules.proofs.Room.{pages_one_more}
use Rattle.rules.proofs.Kept.{Kept}
use Rattle.rules.proofs.Placing.{agrees_moved, Standing, Coming}
use Rattle.rules.proofs.Struck.{one_more_one_fewer, node_after_set, node_beside_set, struck_in_tree, struck_once}
use Rattle.rules.proofs.Struck.{level_in_counts, holder_counted, struck_sizes}

module _ (h : ℕ) (T : List ℕ) (B : Book) (K : Kept h T B) (t : ℕ) (t<4096 : t < 4096) (holds : 0 < node_at T t) where
  t_in_table : t < length T
  t_in_table = rw K.entries t<4096

  abbrev old_level : ℕ
  old_level = level h (node_at T t)

  abbrev fewer_counts : List ℕ
  fewer_counts = one_block_fewer (counts_of h T) old_level

  abbrev fewer_set : Nodes
  fewer_set = layout_set h fewer_counts

  abbrev struck : List ℕ
  struck = set T t 0

  -- the counts before are one more than those after
  pub counts_before : one_block_more fewer_counts old_level ≡ counts_of h T
  counts_before =
      one_more_one_fewer (counts_of h T) old_level (level_in_counts h T t K.in_order t_in_table holds K.height)
      (holder_counted h T t K.in_order t_in_table holds K.height)

  pub level_in_fewer : old_level < length fewer_counts
  level_in_fewer = rw (length-set (counts_of h T) old_level _) (level_in_counts h T t K.in_order t_in_table holds K.height)

  pub fewer_counts_fit : pages fewer_counts ≤ 2 ^ h
  fewer_counts_fit =
      omega (arith, pages_one_more fewer_counts old_level level_in_fewer, ap pages counts_before, in_order_fits h T K.height K.in_order)

  pub fewer_sizes : (m : ℕ) → sizes h (occupied struck) m ≡ sizes h fewer_set m
  fewer_sizes m =
      struck_sizes h T t K.in_order t_in_table holds K.height m ∙ sym (layout_has_counts h fewer_counts fewer_counts_fit m)

  pub release_movable : Movable h fewer_set struck
  release_movable = record {
    in_tree = struck_in_tree h T t K.in_order t_in_table holds;
    once = struck_once h T t K.in_order t_in_table holds;
    within = layout_in_tree h fewer_counts;
    room = λ m. le_of_eq (fewer_sizes m);
  }

  pub release_occupies : (n : ℕ) → occupied (moved h fewer_set struck) n ≡ fewer_set n
  release_occupies = moved_occupies release_movable fewer_sizes

  pub release_in_order : InOrder h (moved h fewer_set struck)
  release_in_order =
      in_order_of_layout h (moved h fewer_set struck) fewer_counts fewer_counts_fit release_occupies (moved_once release_movable)

  struck_agrees : (u : ℕ) → Agrees h (write t none B u) (node_at struck u)
  struck_agrees u = go (ℕ_discrete u t)
    where
      go : Dec (u ≡ t) → Agrees h (write t none B u) (node_at struck u)
      go (yes e) = rw (e, eq-eqb t t refl) (node_after_set T t 0 t_in_table)
      go (no ne) = rw (ne_eqb u t ne, node_beside_set T t 0 u ne) (K.agrees u)

  pub release_kept : Kept h (moved h fewer_set struck) (write t none B)
  release_kept = record {
    height = K.height;
    entries = moved_length h fewer_set struck ∙ length-set T t 0 ∙ K.entries;
    in_order = release_in_order;
    agrees = λ u. agrees_moved h fewer_set struck release_movable u (write t none B u) (struck_agrees u);
  }

  -- ---- the table without t's entry

  struck_standing : Standing h struck fewer_counts
  struck_standing = record {
    height = K.height;
    entries = length-set T t 0 ∙ K.entries;
    levels = length-set (counts_of h T) old_level _ ∙ counts_length h T;
    in_tree = struck_in_tree h T t K.in_order t_in_table holds;
    once = struck_once h T t K.in_order t_in_table holds;
    sized = struck_sizes h T t K.in_order t_in_table holds K.height;
  }

  pub growth_coming : (l : ℕ) → l ≤ h → pages fewer_counts + 2 ^ l ≤ 2 ^ h → Coming h T t l struck fewer_counts
  growth_coming l l≤h fits = record {
    standing = struck_standing;
    tenant = t<4096;
    out = node_after_set T t 0 t_in_table;
    beside = node_beside_set T t 0;
    in_height = l≤h;
    fits = fits;
  }
