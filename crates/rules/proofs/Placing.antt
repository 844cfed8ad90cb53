-- A newcomer on a table that has nothing of it: one in order, or one in order with its entry struck out. Its coming puts the table in order, and the
-- book in agreement with it.
use mathlib.Core.Path.{◌≡◌, refl, sym, ap, ◌∙◌}
use mathlib.Core.List.{List}
use mathlib.Core.Option.{Option, some, none}
use Prim.Native.Nat.{ℕ, suc, ◌+◌, ◌^◌, ◌≤◌, ◌<◌}
use native.Mathlib.Omega.{arith}
use native.Mathlib.Decide.{ℕ_discrete}
use borrow.Author.Tests.{eq-eqb, ne_eqb}
use lib.Dec.{eqb}
use lib.ListN.{length, get_or, length-set}
use Rattle.tree.specs.Held.{Nodes, one_if, sizes}
use Rattle.layout.specs.Layout.{pages}
use Rattle.layout.specs.Set.{layout_set}
use Rattle.layout.specs.Change.{one_block_more}
use Rattle.layout.proofs.Theorems.{layout_in_tree, layout_has_counts}
use Rattle.table.specs.Table.{node_at, occupied, counts_of, InOrder}
use Rattle.table.specs.Pairing.{newcomer, moved}
use Rattle.table.proofs.Tally.{Once}
use Rattle.table.proofs.Order.{counts_length, in_order_counts, in_order_of_layout}
use Rattle.table.proofs.Moved.{Movable, moved_length, moved_nothing, moved_in_new, moved_level}
use Rattle.table.proofs.Newcomer.{OneMore, granted, newcomer_in_new, newcomer_level, granted_newcomer, granted_others, granted_once, granted_occupies}
use Rattle.rules.specs.History.{Book, write}
use Rattle.rules.specs.Demand.{Agrees}
use Rattle.rules.proofs.Room.{pages_one_more, count_one_more}
use Rattle.rules.proofs.Kept.{Kept}

-- a tenant that has moved within its level agrees with the book as before
pub agrees_moved : (h : ℕ) (N : Nodes) (T : List ℕ) → Movable h N T → (u : ℕ) (e : Option ℕ)
    → Agrees h e (node_at T u) → Agrees h e (node_at (moved h N T) u)
agrees_moved h N T M u none a = moved_nothing M u a
agrees_moved h N T M u (some k) a =
    (M.within (node_at (moved h N T) u) (moved_in_new M u a.0.above_zero), moved_level M u a.0.above_zero ∙ a.1)

-- the tenants of S are on nodes of the tree, each on one of its own, with the counts cs
pub record Standing (h : ℕ) (S cs : List ℕ) : Type 0 where
  pub height : h ≤ 12
  pub entries : length S ≡ 4096
  pub levels : length cs ≡ 13
  pub in_tree : (u : ℕ) → node_at S u < 2 ^ suc h
  pub once : Once S
  pub sized : (m : ℕ) → sizes h (occupied S) m ≡ get_or cs m 0

-- S is the table T, or T with tenant t's entry struck out; and there is room for t on level l
pub record Coming (h : ℕ) (T : List ℕ) (t l : ℕ) (S cs : List ℕ) : Type 0 where
  pub standing : Standing h S cs
  pub tenant : t < 4096
  pub out : node_at S t ≡ 0
  pub beside : (u : ℕ) → ¬ (u ≡ t) → node_at S u ≡ node_at T u
  pub in_height : l ≤ h
  pub fits : pages cs + 2 ^ l ≤ 2 ^ h

module _ {h : ℕ} {T : List ℕ} {t l : ℕ} {S cs : List ℕ} (C : Coming h T t l S cs) where
  abbrev new_set : Nodes
  new_set = layout_set h (one_block_more cs l)

  pub level_in_cs : l < length cs
  level_in_cs = rw C.standing.levels (omega (arith, C.in_height, C.standing.height))

  pub new_counts_fit : pages (one_block_more cs l) ≤ 2 ^ h
  new_counts_fit = rw (pages_one_more cs l level_in_cs) C.fits

  pub new_sizes : (m : ℕ) → sizes h new_set m ≡ sizes h (occupied S) m + one_if (eqb m l)
  new_sizes m =
      layout_has_counts h (one_block_more cs l) new_counts_fit m
      ∙ count_one_more cs l level_in_cs m
      ∙ ap (λ (c : ℕ). c + one_if (eqb m l)) (sym (C.standing.sized m))

  pub coming_movable : Movable h new_set S
  coming_movable = record {
    in_tree = C.standing.in_tree;
    once = C.standing.once;
    within = layout_in_tree h (one_block_more cs l);
    room = λ m. omega (arith, new_sizes m);
  }

  pub coming_one_more : OneMore h (occupied S) new_set l
  coming_one_more = record {
    in_height = C.in_height;
    grown = omega (arith, new_sizes l, ap one_if (eq-eqb l l refl));
    others = λ m ne. omega (arith, new_sizes m, ap one_if (ne_eqb m l ne));
  }

  inside_table : t < length S
  inside_table = rw C.standing.entries C.tenant

  pub coming_newcomer : node_at (granted h new_set S l t) t ≡ newcomer h (occupied S) new_set l
  coming_newcomer = granted_newcomer coming_movable coming_one_more t inside_table C.out

  pub coming_others : (u : ℕ) → ¬ (u ≡ t) → node_at (granted h new_set S l t) u ≡ node_at (moved h new_set S) u
  coming_others = granted_others coming_movable coming_one_more t inside_table C.out

  pub coming_occupies : (n : ℕ) → occupied (granted h new_set S l t) n ≡ new_set n
  coming_occupies = granted_occupies coming_movable coming_one_more t inside_table C.out

  pub coming_in_order : InOrder h (granted h new_set S l t)
  coming_in_order =
      in_order_of_layout h (granted h new_set S l t) (one_block_more cs l) new_counts_fit coming_occupies
      (granted_once coming_movable coming_one_more t inside_table C.out)

  module _ (B : Book) (agrees : (u : ℕ) → ¬ (u ≡ t) → Agrees h (B u) (node_at T u)) where
    coming_agrees : (u : ℕ) → Agrees h (write t (some l) B u) (node_at (granted h new_set S l t) u)
    coming_agrees u = go (ℕ_discrete u t)
      where
        go : Dec (u ≡ t) → Agrees h (write t (some l) B u) (node_at (granted h new_set S l t) u)
        go (yes e) =
            rw (e, eq-eqb t t refl, coming_newcomer)
            (layout_in_tree h (one_block_more cs l) _ (newcomer_in_new coming_movable coming_one_more), newcomer_level coming_movable coming_one_more)
        go (no ne) =
            rw (ne_eqb u t ne, coming_others u ne)
            (agrees_moved h new_set S coming_movable u (B u) (rw (C.beside u ne) (agrees u ne)))

    pub coming_kept : Kept h (granted h new_set S l t) (write t (some l) B)
    coming_kept = record {
      height = C.standing.height;
      entries = length-set (moved h new_set S) t (newcomer h (occupied S) new_set l) ∙ moved_length h new_set S ∙ C.standing.entries;
      in_order = coming_in_order;
      agrees = coming_agrees;
    }

-- ---- a table in order

module _ {h : ℕ} {T : List ℕ} {B : Book} (K : Kept h T B) where
  pub kept_standing : Standing h T (counts_of h T)
  kept_standing = record {
    height = K.height;
    entries = K.entries;
    levels = counts_length h T;
    in_tree = K.in_order.in_tree;
    once = K.in_order.once;
    sized = in_order_counts h T K.height K.in_order;
  }

  pub grant_coming : (t l : ℕ) → t < 4096 → node_at T t ≡ 0 → l ≤ h → pages (counts_of h T) + 2 ^ l ≤ 2 ^ h → Coming h T t l T (counts_of h T)
  grant_coming t l q nothing l≤h fits = record {
    standing = kept_standing;
    tenant = q;
    out = nothing;
    beside = λ u ne. refl;
    in_height = l≤h;
    fits = fits;
  }
