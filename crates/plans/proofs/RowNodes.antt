-- The rows of a level and the nodes of that level: the indices that are in one row and not in another are the nodes that leave or come.
use mathlib.Core.Path.{◌≡◌, refl, ap, ap₂}
use mathlib.Core.Bool.{Bool, true, false, not, ◌&&◌, cond, and-true, ◌||◌}
use mathlib.Core.List.{List, ◌∷◌}
use Prim.Native.Nat.{ℕ, zero, suc, ◌+◌, ◌-◌, ◌^◌, ◌≤◌, ◌<◌}
use native.Mathlib.Nat.{add-zero, add-suc}
use native.Mathlib.Decide.{dec_lt, ℕ_discrete}
use native.Mathlib.Omega.{arith}
use borrow.Author.Tests.{ltb-true, leb-true, lt-ltb, le-ltb, le-leb, lt-leb, eq-eqb, ne_eqb}
use lib.Dec.{eqb, leb, ltb}
use Rattle.tree.specs.Held.{Nodes}
use Rattle.tree.specs.Block.{node}
use Rattle.tree.proofs.Coordinates.{past_le, node_in_tree, block_of_node}
use Rattle.layout.specs.Layout.{block}
use Rattle.layout.specs.Rows.{no_index, start_at, run_at, lone_at, in_row, rows_hold, holds_node, up_from}
use Rattle.layout.specs.declared.Layout.{Layout}
use Rattle.layout.proofs.Bounds.{power_le_4096}
use Rattle.table.specs.Pairing.{keep, leavers, places, pair}
use Rattle.plans.specs.Plan.{row_holds, only_from, nodes_at, level_shifts, row_of, index_on, nodes_but, shifts_at, LevelWithin, Plannable}
use Rattle.plans.specs.declared.Row.{Row}
use Rattle.plans.proofs.LeastIndex.{only_step, only_empty}

-- ---- one row

-- a layout holds a node of the tree exactly if the row of its level has the node's index
pub node_by_row : (h : ℕ) (L : Layout) (l i : ℕ) → h ≤ 12 → l ≤ h → i < 2 ^ (h - l)
    → holds_node L h (2 ^ (h - l) + i) ≡ in_row (start_at L l) (run_at L l) (lone_at L l) i
unfolding holds_node
node_by_row h L l i low q r =
    let in_tree = past_le h (block l i) q r in
    let t = node_in_tree h (block l i) in_tree in
    rw (le-leb h 12 low, lt-ltb 0 (node h (block l i)) t.above_zero, lt-ltb (node h (block l i)) (2 ^ suc h) t.in_height)
    (ap (rows_hold L) (block_of_node h (block l i) in_tree))

-- the hole is the node given up, if that is on this level
hole_by_node : (b gone i : ℕ) → i < b → b ≤ 4096 → eqb i (index_on b gone) ≡ eqb (b + i) gone
hole_by_node b gone i q small =
    by_start (dec_lt gone b)
  where
    other : ¬ (b + i ≡ gone) → eqb i no_index ≡ eqb (b + i) gone
    other e = rw (ne_eqb i no_index (omega arith), ne_eqb (b + i) gone e)

    by_index : Dec (b + i ≡ gone) → b ≤ gone → eqb i (gone - b) ≡ eqb (b + i) gone
    by_index (yes e) r = rw (eq-eqb (b + i) gone e) (eq-eqb i (gone - b) (omega arith))
    by_index (no e) r = rw (ne_eqb (b + i) gone e) (ne_eqb i (gone - b) (λ f. e (omega arith)))

    by_end : Dec (gone - b < b) → b ≤ gone → eqb i (cond (ltb (gone - b) b) (gone - b) no_index) ≡ eqb (b + i) gone
    by_end (yes s) r = rw (lt-ltb (gone - b) b s) (by_index (ℕ_discrete (b + i) gone) r)
    by_end (no s) r = rw (le-ltb (gone - b) b (omega arith)) (other (λ e. s (omega arith)))

    by_start : Dec (gone < b) → eqb i (index_on b gone) ≡ eqb (b + i) gone
    by_start (yes r) = rw (lt-leb b gone r) (other (λ e. absurd (omega arith)))
    by_start (no r) = rw (le-leb b gone (omega arith)) (by_end (dec_lt (gone - b) b) (omega arith))

module _ (h : ℕ) (L : Layout) (l i : ℕ) (low : h ≤ 12) (q : l ≤ h) (small : 2 ^ (h - l) ≤ 4096) (r : i < 2 ^ (h - l)) where
  pub row_with_hole : (gone : ℕ) → row_holds (row_of L l (index_on (2 ^ (h - l)) gone)) i ≡ nodes_but h L gone (2 ^ (h - l) + i)
  unfolding row_holds nodes_but
  row_with_hole gone = rw (hole_by_node (2 ^ (h - l)) gone i r small, node_by_row h L l i low q r)

  pub row_without_hole : row_holds (row_of L l no_index) i ≡ holds_node L h (2 ^ (h - l) + i)
  unfolding row_holds
  row_without_hole = rw (ne_eqb i no_index (omega arith), and-true, node_by_row h L l i low q r)

-- the row has no index past the level
pub none_past_level : (m : ℕ) (L : Layout) (l hole i : ℕ) → LevelWithin m L l → m ≤ i → i < no_index → row_holds (row_of L l hole) i ≡ false
unfolding row_holds
none_past_level m L l hole i within q r =
    rw (not_lone (ℕ_discrete (lone_at L l) i)) (by_tests (leb (start_at L l) i) refl (ltb i (start_at L l + run_at L l)) refl)
  where
    not_lone : Dec (lone_at L l ≡ i) → eqb (lone_at L l) i ≡ false
    not_lone (yes e) = absurd (omega (arith, within.lone_within (omega arith)))
    not_lone (no e) = ne_eqb (lone_at L l) i e

    by_tests : (s : Bool) → leb (start_at L l) i ≡ s → (t : Bool) → ltb i (start_at L l + run_at L l) ≡ t
        → (((s && t) || false) && not (eqb i hole)) ≡ false
    by_tests true f true g =
        let lo = leb-true (start_at L l) i f in
        let hi = ltb-true i (start_at L l + run_at L l) g in
        absurd (omega (arith, within.run_within))
    by_tests true f false g = refl
    by_tests false f t g = refl

-- ---- two rows

-- a row of the level whose first node is b has just the nodes of a set
pub record RowOf (b : ℕ) (w : Row) (A : Nodes) : Type 0 where
  pub same : (i : ℕ) → i < b → row_holds w i ≡ A (b + i)
  pub none_past : (i : ℕ) → b ≤ i → i < no_index → row_holds w i ≡ false

-- what is in the one row and not in the other, as nodes
module _ (b : ℕ) (v w : Row) (A B : Nodes) (fits : b ≤ no_index) (old : RowOf b v A) (new : RowOf b w B) where
  only_nodes_from : (n a : ℕ) → a + n ≡ b → nodes_at b (only_from v w a) ≡ keep (λ k. A k && not (B k)) (up_from (b + a) n)
  only_nodes_from zero a e =
      ap (nodes_at b)
      (only_empty v w a (omega arith) (λ i q r. ap (λ t. t && not (row_holds w i)) (old.none_past i (omega arith) r)))
  only_nodes_from (suc n) a e =
      rw (only_step v w a (omega arith), old.same a (omega arith), new.same a (omega arith))
      (by_test (A (b + a) && not (B (b + a))) (rw add-suc at (only_nodes_from n (suc a) (omega arith))))
    where
      rest : List ℕ
      rest = keep (λ k. A k && not (B k)) (up_from (suc (b + a)) n)

      by_test : (t : Bool) → nodes_at b (only_from v w (suc a)) ≡ rest
          → nodes_at b (cond t (a ∷ only_from v w (suc a)) (only_from v w (suc a))) ≡ cond t ((b + a) ∷ rest) rest
      by_test true f = ap {B = List ℕ} (λ ns. (b + a) ∷ ns) f
      by_test false f = f

  pub only_nodes : nodes_at b (only_from v w 0) ≡ keep (λ k. A k && not (B k)) (up_from b b)
  only_nodes = rw add-zero at (only_nodes_from b 0 (omega arith))

-- ---- the two rows of a level

abbrev pub old_row : ℕ → Layout → ℕ → ℕ → Row
old_row h L gone l = row_of L l (index_on (2 ^ (h - l)) gone)

abbrev pub new_row : Layout → ℕ → Row
new_row L l = row_of L l no_index

module _ {h : ℕ} {old new : Layout} {gone : ℕ} {owners : List ℕ} (p : Plannable h old new gone owners) (l : ℕ) (q : l ≤ h) where
  pub few_nodes : 2 ^ (h - l) ≤ 4096
  few_nodes = power_le_4096 (h - l) (omega (arith, p.height))

  pub old_row_holds : RowOf (2 ^ (h - l)) (old_row h old gone l) (nodes_but h old gone)
  old_row_holds =
      record {
        same = λ i r. row_with_hole h old l i p.height q few_nodes r gone;
        none_past = λ i. none_past_level (2 ^ (h - l)) old l (index_on (2 ^ (h - l)) gone) i (p.old_within l q);
      }

  pub new_row_holds : RowOf (2 ^ (h - l)) (new_row new l) (holds_node new h)
  new_row_holds =
      record {
        same = λ i r. row_without_hole h new l i p.height q few_nodes r;
        none_past = λ i. none_past_level (2 ^ (h - l)) new l no_index i (p.new_within l q);
      }

  pub level_leavers : nodes_at (2 ^ (h - l)) (only_from (old_row h old gone l) (new_row new l) 0)
      ≡ leavers h (nodes_but h old gone) (holds_node new h) l
  unfolding leavers
  level_leavers = only_nodes _ _ _ _ _ (omega (arith, few_nodes)) old_row_holds new_row_holds

  pub level_places : nodes_at (2 ^ (h - l)) (only_from (new_row new l) (old_row h old gone l) 0)
      ≡ places h (nodes_but h old gone) (holds_node new h) l
  unfolding places
  level_places = only_nodes _ _ _ _ _ (omega (arith, few_nodes)) new_row_holds old_row_holds

  pub level_shifts_are : level_shifts (2 ^ (h - l)) (old_row h old gone l) (new_row new l) ≡ shifts_at h old new gone l
  unfolding level_shifts
  level_shifts_are = ap₂ pair level_leavers level_places
