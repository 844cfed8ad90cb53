-- A table in order: the set of its nodes is the layout of its counts, and the test says so. Document 01, refusal 7.
use mathlib.Core.Path.{◌≡◌, refl, sym, ap, ap₂, ◌∙◌, fun_ext, subst}
use mathlib.Core.Bool.{Bool, true, false, ◌&&◌, ◌||◌, and-eq-true_iff, or-true}
use mathlib.Core.Logic.{◌↔◌}
use mathlib.Core.List.{List}
use Prim.Native.Nat.{ℕ, zero, suc, ◌^◌, ◌≤◌, ◌<◌}
use native.Mathlib.Omega.{arith}
use native.Mathlib.Decide.{ℕ_discrete, dec_lt}
use borrow.Author.Tests.{leb-true, le-leb, ltb-true, lt-ltb, eqb-true, eq-eqb, ne_eqb}
use lib.Dec.{eqb, ltb, leb}
use lib.ListN.{length, get_or, replicate, get_or-replicate, get_or-eq_default}
use lib.Seq.{ext_get_or}
use lib.Pow.{pow_pos}
use Rattle.tree.specs.Node.{InTree, level}
use Rattle.tree.specs.Held.{Nodes, Legal, Safe, one_if, count, sizes}
use Rattle.tree.proofs.Sum.{one_if_le_one}
use Rattle.tree.proofs.Sizes.{sizes_above}
use Rattle.tree.proofs.Count.{equal_of_both_ways}
use Rattle.layout.specs.Layout.{pages}
use Rattle.layout.specs.Set.{layout_set}
use Rattle.layout.proofs.Theorems.{layout_in_tree, layout_is_legal, layout_is_safe, layout_has_counts, legal_set_fits, safe_set_is_layout}
use Rattle.table.specs.Table.{node_at, occupied, InOrder, tally, tenants_at, counts_of, all_below, in_order?}
use Rattle.table.proofs.Tabulate.{tabulate_length, get_d_tabulate}
use Rattle.table.proofs.Occupied.{tenant_below, tenant_of, occupied_above_zero, occupied_by, occupied_within}
use Rattle.table.proofs.Tally.{Once, tally_agrees, all_pass, node_stands_once, once_of_tally, tally_is_count}

-- ---- the counts

pub counts_length : (h : ℕ) (T : List ℕ) → length (counts_of h T) ≡ 13
unfolding counts_of
counts_length h T = tabulate_length 0 13 (tenants_at h T)

pub counts_at : (h : ℕ) (T : List ℕ) (l : ℕ) → l < 13 → get_or (counts_of h T) l 0 ≡ tenants_at h T l
unfolding counts_of
counts_at h T l q = get_d_tabulate 0 13 (tenants_at h T) l q ∙ ap (tenants_at h T) (omega arith)

pub counts_past : (h : ℕ) (T : List ℕ) (l : ℕ) → 13 ≤ l → get_or (counts_of h T) l 0 ≡ 0
counts_past h T l q = get_or-eq_default (counts_of h T) 0 {n = l} (omega (arith, counts_length h T))

-- ---- a table whose nodes are in the tree and none twice

module _ (h : ℕ) (T : List ℕ) (below : (t : ℕ) → node_at T t < 2 ^ suc h) where
  pub tenants_are_sizes : Once T → (l : ℕ) → tenants_at h T l ≡ sizes h (occupied T) l
  unfolding tenants_at sizes
  tenants_are_sizes once l =
      tally_is_count (2 ^ suc h) T below once (λ n. ltb 0 n && eqb (level h n) l) refl
      ∙ ap (count (2 ^ suc h)) (fun_ext (λ n. by_value n (occupied T n) refl))
    where
      by_value : (n : ℕ) (b : Bool) → occupied T n ≡ b → (b && (ltb 0 n && eqb (level h n) l)) ≡ (b && eqb (level h n) l)
      by_value n true v = rw (lt-ltb 0 n (occupied_above_zero T n v))
      by_value n false v = refl

  -- up to height 12 the thirteen counts are the sizes of all levels
  pub sizes_are_counts : h ≤ 12 → Once T → (l : ℕ) → sizes h (occupied T) l ≡ get_or (counts_of h T) l 0
  sizes_are_counts low once l =
      elim (dec_lt l 13) [
        | yes q ↦ sym (counts_at h T l q ∙ tenants_are_sizes once l)
        | no q ↦ sizes_above h (occupied T) l (omega arith) ∙ sym (counts_past h T l (omega arith))
      ]

-- ---- a table in order

module _ (h : ℕ) (T : List ℕ) (low : h ≤ 12) (o : InOrder h T) where
  pub in_order_counts : (l : ℕ) → sizes h (occupied T) l ≡ get_or (counts_of h T) l 0
  in_order_counts = sizes_are_counts h T o.in_tree low o.once

  pub in_order_fits : pages (counts_of h T) ≤ 2 ^ h
  in_order_fits = legal_set_fits h (counts_of h T) (occupied T) (occupied_within h T o.in_tree) o.legal in_order_counts

  pub in_order_is_layout : (n : ℕ) → occupied T n ≡ layout_set h (counts_of h T) n
  in_order_is_layout = safe_set_is_layout h (counts_of h T) (occupied T) (occupied_within h T o.in_tree) o.legal o.safe in_order_counts

-- ---- a table whose nodes are a layout's

below_unless_zero : (x m : ℕ) → 0 < m → (0 < x → x < m) → x < m
below_unless_zero zero m q f = q
below_unless_zero (suc x) m q f = f (omega arith)

module _ (h : ℕ) (T cs : List ℕ) (fits : pages cs ≤ 2 ^ h) (same : (n : ℕ) → occupied T n ≡ layout_set h cs n) (once : Once T) where
  node_below : (t : ℕ) → node_at T t < 2 ^ suc h
  node_below t =
      below_unless_zero (node_at T t) (2 ^ suc h) (pow_pos (suc h))
      (λ q. (layout_in_tree h cs (node_at T t) (sym (same (node_at T t)) ∙ occupied_by T t q)).in_height)

  same_set : occupied T ≡ layout_set h cs
  same_set = fun_ext same

  pub in_order_of_layout : InOrder h T
  in_order_of_layout =
      record {
        in_tree = node_below;
        once = once;
        legal = subst Legal (sym same_set) (layout_is_legal h cs fits);
        safe = subst (Safe h) (sym same_set) (layout_is_safe h cs fits);
      }

  pub counts_of_layout : length cs ≡ 13 → counts_of h T ≡ cs
  counts_of_layout e =
      ext_get_or 0 (counts_of h T) cs (counts_length h T ∙ sym e)
      (λ l q. counts_at h T l (omega (arith, counts_length h T)) ∙ tenants_are_sizes h T node_below once l ∙ sizes_of_layout l)
    where
      sizes_of_layout : (l : ℕ) → sizes h (occupied T) l ≡ get_or cs l 0
      sizes_of_layout l = ap (λ (A : Nodes). sizes h A l) same_set ∙ layout_has_counts h cs fits l

-- ---- the test

pub all_below_at : (n : ℕ) (p : ℕ → Bool) → all_below n p ≡ true → (i : ℕ) → i < n → p i ≡ true
unfolding all_below
all_below_at zero p e i q = absurd (omega arith)
all_below_at (suc n) p e i q =
    let parts = (and-eq-true_iff (p n) (all_below n p)).0 e in
    elim (ℕ_discrete i n) [
      | yes s ↦ ap p s ∙ parts.0
      | no d ↦ all_below_at n p parts.1 i (omega arith)
    ]

pub all_below_of : (n : ℕ) (p : ℕ → Bool) → ((i : ℕ) → i < n → p i ≡ true) → all_below n p ≡ true
unfolding all_below
all_below_of zero p f = refl
all_below_of (suc n) p f = ap₂ ◌&&◌ (f n (omega arith)) (all_below_of n p (λ i q. f i (omega arith)))

one_if_injective : (a b : Bool) → one_if a ≡ one_if b → a ≡ b
one_if_injective true true e = refl
one_if_injective true false e = absurd (omega arith)
one_if_injective false true e = absurd (omega arith)
one_if_injective false false e = refl

-- what `in_order?` tests
pub record Passes (h : ℕ) (T : List ℕ) : Type 0 where
  pub fits : pages (counts_of h T) ≤ 2 ^ h
  pub in_tree : (t : ℕ) → node_at T t < 2 ^ suc h
  -- each node of the tree stands in the table once if it is in the layout of the table's counts, else not at all
  pub nodes : (n : ℕ) → InTree h n → tally (eqb n) T ≡ one_if (layout_set h (counts_of h T) n)

module _ (h : ℕ) (T : List ℕ) where
  abbrev all_in_tree : Bool
  all_in_tree = eqb (tally (λ n. ltb n (2 ^ suc h)) T) (tally (λ n. true) T)

  abbrev once_if_laid : ℕ → Bool
  once_if_laid n = eqb n 0 || eqb (tally (eqb n) T) (one_if (layout_set h (counts_of h T) n))

  in_tree_of_test : all_in_tree ≡ true → (t : ℕ) → node_at T t < 2 ^ suc h
  in_tree_of_test e t = below_unless_zero (node_at T t) (2 ^ suc h) (pow_pos (suc h)) (λ q. ltb-true (node_at T t) (2 ^ suc h) (passes q))
    where
      passes : 0 < node_at T t → ltb (node_at T t) (2 ^ suc h) ≡ true
      passes q = all_pass (λ n. ltb n (2 ^ suc h)) T (eqb-true _ _ e) t (tenant_below T t q)

  test_of_in_tree : ((t : ℕ) → node_at T t < 2 ^ suc h) → all_in_tree ≡ true
  test_of_in_tree below =
      eq-eqb _ _ (tally_agrees (λ n. ltb n (2 ^ suc h)) (λ n. true) T (λ t q. lt-ltb (node_at T t) (2 ^ suc h) (below t)))

  passes_of_test : in_order? h T ≡ true → Passes h T
  unfolding in_order?
  passes_of_test e =
      let parts = (and-eq-true_iff (leb (pages (counts_of h T)) (2 ^ h) && all_in_tree) (all_below (2 ^ suc h) once_if_laid)).0 e in
      let first = (and-eq-true_iff (leb (pages (counts_of h T)) (2 ^ h)) all_in_tree).0 parts.0 in
      record {
        fits = leb-true (pages (counts_of h T)) (2 ^ h) first.0;
        in_tree = in_tree_of_test first.1;
        nodes = λ n t.
            let laid = all_below_at (2 ^ suc h) once_if_laid parts.1 n t.in_height in
            eqb-true _ _ (rw (ne_eqb n 0 (λ z. omega (arith, t.above_zero))) at laid);
      }

  test_of_passes : Passes h T → in_order? h T ≡ true
  unfolding in_order?
  test_of_passes p =
      ap₂ ◌&&◌
      (ap₂ ◌&&◌ (le-leb (pages (counts_of h T)) (2 ^ h) p.fits) (test_of_in_tree p.in_tree))
      (all_below_of (2 ^ suc h) once_if_laid laid)
    where
      laid : (n : ℕ) → n < 2 ^ suc h → once_if_laid n ≡ true
      laid zero q = refl
      laid (suc n) q =
          let stands = p.nodes (suc n) (record { above_zero = omega arith; in_height = q }) in
          ap (λ b. eqb (suc n) 0 || b) (eq-eqb _ _ stands) ∙ or-true (eqb (suc n) 0)

  in_order_of_passes : Passes h T → InOrder h T
  in_order_of_passes p = in_order_of_layout h T (counts_of h T) p.fits same once
    where
      at_most_once : (n : ℕ) → InTree h n → tally (eqb n) T ≤ 1
      at_most_once n t = rw (p.nodes n t) (one_if_le_one (layout_set h (counts_of h T) n))

      once : Once T
      once = once_of_tally T (λ t q. at_most_once (node_at T t) (record { above_zero = q; in_height = p.in_tree t }))

      same_in_tree : (n : ℕ) → InTree h n → occupied T n ≡ layout_set h (counts_of h T) n
      same_in_tree n t = one_if_injective _ _ (sym (node_stands_once T once n t.above_zero) ∙ p.nodes n t)

      same : (n : ℕ) → occupied T n ≡ layout_set h (counts_of h T) n
      same n =
          equal_of_both_ways (occupied T n) (layout_set h (counts_of h T) n)
          (λ e. sym (same_in_tree n (occupied_within h T p.in_tree n e)) ∙ e)
          (λ e. same_in_tree n (layout_in_tree h (counts_of h T) n e) ∙ e)

  passes_of_in_order : h ≤ 12 → InOrder h T → Passes h T
  passes_of_in_order low o =
      record {
        fits = in_order_fits h T low o;
        in_tree = o.in_tree;
        nodes = λ n t. node_stands_once T o.once n t.above_zero ∙ ap one_if (in_order_is_layout h T low o n);
      }

  pub test_iff_passes : (in_order? h T ≡ true) ↔ Passes h T
  test_iff_passes = (passes_of_test, test_of_passes)

  pub in_order_iff : h ≤ 12 → (in_order? h T ≡ true) ↔ InOrder h T
  in_order_iff low = (λ e. in_order_of_passes (passes_of_test e), λ o. test_of_passes (passes_of_in_order low o))

-- ---- the empty table

pub empty_at : (n t : ℕ) → node_at (replicate n 0) t ≡ 0
empty_at zero t = refl
empty_at (suc n) zero = refl
empty_at (suc n) (suc t) = empty_at n t

empty_free : (n m : ℕ) → ¬ (occupied (replicate n 0) m ≡ true)
empty_free n m e =
    let t = tenant_of (replicate n 0) m e in
    omega (arith, occupied_above_zero (replicate n 0) m e, t.2, empty_at n t.0)

pub empty_in_order : (h n : ℕ) → InOrder h (replicate n 0)
empty_in_order h n =
    record {
      in_tree = λ t. omega (arith, empty_at n t, pow_pos (suc h));
      once = λ t t' q e. absurd (omega (arith, empty_at n t));
      legal = λ u v p q s. empty_free n u p;
      safe = record {
        dense = λ u v t f p e l. empty_free n v p;
        one_tail = λ u t t' p s s'. absurd (empty_free n u p);
        no_meager = λ u x p m l. empty_free n u p;
      };
    }

empty_tenants : (h n l : ℕ) → tenants_at h (replicate n 0) l ≡ 0
unfolding tenants_at
empty_tenants h zero l = refl
empty_tenants h (suc n) l = omega (arith, empty_tenants h n l)

pub empty_counts : (h n : ℕ) → counts_of h (replicate n 0) ≡ replicate 13 0
empty_counts h n =
    ext_get_or 0 (counts_of h (replicate n 0)) (replicate 13 0) (counts_length h (replicate n 0))
    (λ l q. none l (omega (arith, counts_length h (replicate n 0))))
  where
    none : (l : ℕ) → l < 13 → get_or (counts_of h (replicate n 0)) l 0 ≡ get_or (replicate 13 0) l 0
    none l q = counts_at h (replicate n 0) l q ∙ empty_tenants h n l ∙ sym (get_or-replicate 13 l 0 0 q)
