-- A call reports as many moves as tenants other than its own have a node before and a different one after: at most three on a grant, four on
-- a release, seven on a growth.
use mathlib.Core.Path.{◌≡◌, refl, sym, ap, ◌∙◌}
use mathlib.Core.Bool.{Bool, true, false, not, ◌&&◌, false≢true}
use mathlib.Core.List.{List}
use Prim.Native.Nat.{ℕ, suc, ◌^◌, ◌≤◌, ◌<◌}
use native.Mathlib.Omega.{arith}
use native.Mathlib.Decide.{ℕ_discrete}
use native.Mathlib.Nat.{eq-zero-or-pos}
use mathlib.Core.Logic.{◌⊎◌, inl, inr}
use borrow.Author.Tests.{eq-eqb, ne_eqb, lt-ltb}
use lib.Dec.{eqb, ltb}
use lib.ListN.{length, set, length-set}
use Rattle.tree.specs.Held.{Nodes}
use Rattle.tree.proofs.Sum.{count_cong, count_of_none}
use Rattle.tree.proofs.Count.{passes_first, fails_second, passes_only_first}
use Rattle.layout.specs.Set.{layout_set}
use Rattle.layout.specs.Change.{one_block_more, most_by_grant, most_by_release, most_by_growth}
use Rattle.layout.specs.Leaving.{leaving}
use Rattle.layout.proofs.Leaving.{count_mono, grant_leaves_at_most_3, release_leaves_at_most_4, growth_leaves_at_most_7}
use Rattle.table.specs.Table.{node_at, occupied, counts_of, InOrder}
use Rattle.table.specs.Pairing.{moved, moves_of}
use Rattle.table.specs.declared.Move.{Move}
use Rattle.table.proofs.Order.{in_order_is_layout}
use Rattle.table.proofs.Occupied.{tenant_of, occupied_above_zero, occupied_by}
use Rattle.table.proofs.Moved.{Movable, moved_holds}
use Rattle.table.proofs.Moves.{changes, moves_counted, moves_by_tenant}
use Rattle.carrying.specs.Order.{moves_in_order}
use Rattle.carrying.proofs.Ordered.{in_order_length}
use Rattle.rules.specs.Demand.{changed}
use Rattle.rules.proofs.Struck.{node_after_set, node_beside_set}

-- The shared case: T₁ is T, or T with t's entry struck out; T' is T₁ moved into N, but for t's entry.
module _ {h : ℕ} {N : Nodes} {T₁ : List ℕ} (M : Movable h N T₁) (T T' : List ℕ) (t : ℕ) (entries : length T₁ ≡ 4096)
    (out : node_at T₁ t ≡ 0) (before : (u : ℕ) → ¬ (u ≡ t) → node_at T₁ u ≡ node_at T u)
    (after : (u : ℕ) → ¬ (u ≡ t) → node_at T' u ≡ node_at (moved h N T₁) u) where
  abbrev differs : ℕ → Bool
  differs u = ltb 0 (node_at T u) && (ltb 0 (node_at T' u) && not (eqb (node_at T' u) (node_at T u)))

  same_test : (u : ℕ) → changes h N T₁ u ≡ (not (eqb u t) && differs u)
  same_test u = go (ℕ_discrete u t)
    where
      go : Dec (u ≡ t) → changes h N T₁ u ≡ (not (eqb u t) && differs u)
      go (yes e) = rw (e, eq-eqb t t refl, out)
      go (no ne) = rw (ne_eqb u t ne, after u ne, ← (before u ne)) (by_node (eq-zero-or-pos (node_at T₁ u)))
        where
          by_node : (node_at T₁ u ≡ 0) ⊎ (0 < node_at T₁ u)
              → changes h N T₁ u ≡ (ltb 0 (node_at T₁ u) && (ltb 0 (node_at (moved h N T₁) u) && not (eqb (node_at (moved h N T₁) u) (node_at T₁ u))))
          by_node (inl z) = rw z
          by_node (inr p) = rw (lt-ltb 0 (node_at (moved h N T₁) u) (moved_holds M u p))

  pub moves_are_changes : length (moves_in_order h (moves_of h N T₁)) ≡ changed t T T'
  unfolding changed
  moves_are_changes = in_order_length h (moves_of h N T₁) ∙ moves_by_tenant M ∙ rw entries (count_cong 4096 _ _ (λ u q. same_test u))

never : (b x : Bool) → ¬ ((b && (x && (x && false))) ≡ true)
never true true e = false≢true e
never true false e = false≢true e
never false x e = false≢true e

-- a refused call changes nobody
pub nothing_changes : (t : ℕ) (T : List ℕ) → changed t T T ≡ 0
unfolding changed
nothing_changes t T = count_of_none 4096 _ (λ u q e. same (node_at T u) (not (eqb u t)) e)
  where
    same : (n : ℕ) (b : Bool) → ¬ ((b && (ltb 0 n && (ltb 0 n && not (eqb n n)))) ≡ true)
    same n b e = never b (ltb 0 n) (rw (eq-eqb n n refl) at e)

-- ---- the bounds

-- the list has no more entries than there are moves
pub listed_few : (h n : ℕ) (ms : List Move) → length ms ≤ n → length (moves_in_order h ms) ≤ n
listed_few h n ms q = rw (in_order_length h ms) q

pub struck_was_occupied : (T : List ℕ) (t n : ℕ) → occupied (set T t 0) n ≡ true → occupied T n ≡ true
struck_was_occupied T t n p = go (tenant_of (set T t 0) n p)
  where
    above : 0 < n
    above = occupied_above_zero (set T t 0) n p

    go : (u : ℕ) × (u < length (set T t 0)) × (node_at (set T t 0) u ≡ n) → occupied T n ≡ true
    go (u, in_table, at_n) = by_tenant (ℕ_discrete u t)
      where
        by_tenant : Dec (u ≡ t) → occupied T n ≡ true
        by_tenant (yes e) =
            absurd (omega (arith, above, at_n, ap (node_at (set T t 0)) e, node_after_set T t 0 (rw (e, length-set T t 0) at in_table)))
        by_tenant (no ne) =
            let was : node_at T u ≡ n = sym (node_beside_set T t 0 u ne) ∙ at_n in
            rw was at (occupied_by T u (rw was above))

-- as many leave the nodes that the table had as leave its layout, or fewer
moves_few : (h : ℕ) (T S ds : List ℕ) (most : ℕ) → h ≤ 12 → InOrder h T → ((n : ℕ) → occupied S n ≡ true → occupied T n ≡ true)
    → Movable h (layout_set h ds) S → leaving h (layout_set h (counts_of h T)) (layout_set h ds) ≤ most
    → length (moves_of h (layout_set h ds) S) ≤ most
unfolding leaving
moves_few h T S ds most h≤12 o from M few =
    let N = layout_set h ds in
    let fewer = count_mono (2 ^ suc h) (λ n. occupied S n && not (N n)) (λ n. layout_set h (counts_of h T) n && not (N n)) was in
    omega (arith, moves_counted M)
  where
    was : (n : ℕ) → (occupied S n && not (layout_set h ds n)) ≡ true → (layout_set h (counts_of h T) n && not (layout_set h ds n)) ≡ true
    was n p =
        passes_only_first (layout_set h (counts_of h T) n) (layout_set h ds n)
        (sym (in_order_is_layout h T h≤12 o n) ∙ from n (passes_first (occupied S n) (layout_set h ds n) p))
        (fails_second (occupied S n) (layout_set h ds n) p)

pub grant_moves_few : (h : ℕ) (T : List ℕ) (l : ℕ) → h ≤ 12 → InOrder h T → l < length (counts_of h T)
    → Movable h (layout_set h (one_block_more (counts_of h T) l)) T
    → length (moves_of h (layout_set h (one_block_more (counts_of h T) l)) T) ≤ most_by_grant
grant_moves_few h T l h≤12 o q M =
    moves_few h T T (one_block_more (counts_of h T) l) most_by_grant h≤12 o (λ n p. p) M (grant_leaves_at_most_3 h (counts_of h T) l q)

-- tenant t has left level x, and the counts cs are those of the others
module _ (h : ℕ) (T : List ℕ) (t x : ℕ) (cs : List ℕ) (h≤12 : h ≤ 12) (o : InOrder h T)
    (q : x < length cs) (e : one_block_more cs x ≡ counts_of h T) where
  pub release_moves_few : Movable h (layout_set h cs) (set T t 0) → length (moves_of h (layout_set h cs) (set T t 0)) ≤ most_by_release
  release_moves_few M =
      moves_few h T (set T t 0) cs most_by_release h≤12 o (struck_was_occupied T t) M (rw (← e) (release_leaves_at_most_4 h cs x q))

  pub growth_moves_few : (l : ℕ) → l < length cs → Movable h (layout_set h (one_block_more cs l)) (set T t 0)
      → length (moves_of h (layout_set h (one_block_more cs l)) (set T t 0)) ≤ most_by_growth
  growth_moves_few l r M =
      moves_few h T (set T t 0) (one_block_more cs l) most_by_growth h≤12 o (struck_was_occupied T t) M
      (rw (← e) (growth_leaves_at_most_7 h cs x l q r))
