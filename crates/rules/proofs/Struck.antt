-- A table with one tenant's entry struck out: the counts have one block fewer at its level.
use mathlib.Core.Path.{◌≡◌, refl, sym, ap, ◌∙◌}
use mathlib.Core.Bool.{Bool, ◌&&◌}
use mathlib.Core.List.{List, [], ◌∷◌}
use Prim.Native.Nat.{ℕ, zero, suc, ◌+◌, ◌-◌, ◌^◌, ◌≤◌, ◌<◌}
use native.Mathlib.Nat.{sub-le}
use native.Mathlib.Omega.{arith}
use native.Mathlib.Decide.{ℕ_discrete}
use borrow.Author.Tests.{lt-ltb, eq-eqb, ne_eqb}
use lib.Dec.{eqb, ltb}
use lib.ListN.{length, get_or, set}
use lib.Seq.{get_or-set_same, get_or-set_other, set-set, set-get_or}
use lib.Pow.{pow_pos}
use Rattle.tree.specs.Node.{depth, level}
use Rattle.tree.specs.Held.{one_if, sizes}
use Rattle.layout.specs.Change.{one_block_more, one_block_fewer}
use Rattle.table.specs.Table.{node_of, node_at, occupied, tally, tenants_at, counts_of, InOrder}
use Rattle.table.proofs.Tally.{Once}
use Rattle.table.proofs.Order.{tenants_are_sizes, in_order_counts, counts_length}

tally_set : (p : ℕ → Bool) (T : List ℕ) (t e : ℕ) → t < length T → tally p (set T t e) + one_if (p (node_at T t)) ≡ tally p T + one_if (p (node_of e))
unfolding tally
tally_set p [] t e q = absurd (omega arith)
tally_set p (x ∷ T) zero e q = omega arith
tally_set p (x ∷ T) (suc t) e q = omega (arith, tally_set p T t e (omega arith))

pub node_after_set : (T : List ℕ) (t e : ℕ) → t < length T → node_at (set T t e) t ≡ node_of e
node_after_set T t e q = ap node_of (get_or-set_same T t e 0 q)

pub node_beside_set : (T : List ℕ) (t e u : ℕ) → ¬ (u ≡ t) → node_at (set T t e) u ≡ node_at T u
node_beside_set T t e u ne = ap node_of (get_or-set_other T t u e 0 ne)

-- one more after one fewer, where there was one
pub one_more_one_fewer : (cs : List ℕ) (x : ℕ) → x < length cs → 0 < get_or cs x 0 → one_block_more (one_block_fewer cs x) x ≡ cs
one_more_one_fewer cs x q p =
    let back : get_or cs x 0 - 1 + 1 ≡ get_or cs x 0 = omega arith in
    rw (get_or-set_same cs x (get_or cs x 0 - 1) 0 q, set-set) (ap (set cs x) back ∙ set-get_or cs x 0)

module _ (h : ℕ) (T : List ℕ) (t : ℕ) (order : InOrder h T) (t<n : t < length T) (holds : 0 < node_at T t) where
  pub struck_in_tree : (u : ℕ) → node_at (set T t 0) u < 2 ^ suc h
  struck_in_tree u = go (ℕ_discrete u t)
    where
      go : Dec (u ≡ t) → node_at (set T t 0) u < 2 ^ suc h
      go (yes e) = rw (e, node_after_set T t 0 t<n) (pow_pos (suc h))
      go (no ne) = rw (node_beside_set T t 0 u ne) (order.in_tree u)

  struck_node : (u : ℕ) → 0 < node_at (set T t 0) u → node_at (set T t 0) u ≡ node_at T u
  struck_node u p = go (ℕ_discrete u t)
    where
      go : Dec (u ≡ t) → node_at (set T t 0) u ≡ node_at T u
      go (yes e) = absurd (omega (arith, ap (node_at (set T t 0)) e, node_after_set T t 0 t<n))
      go (no ne) = node_beside_set T t 0 u ne

  pub struck_once : Once (set T t 0)
  struck_once u v p e =
      let pu = struck_node u p in
      let pv = struck_node v (rw e at p) in
      order.once u v (rw pu at p) (sym pu ∙ e ∙ pv)

  struck_tenants : (m : ℕ) → tenants_at h (set T t 0) m + one_if (eqb (level h (node_at T t)) m) ≡ tenants_at h T m
  unfolding tenants_at
  struck_tenants m =
      let p : ℕ → Bool = λ n. ltb 0 n && eqb (level h n) m in
      let s = tally_set p T t 0 t<n in
      let here : p (node_at T t) ≡ eqb (level h (node_at T t)) m = rw (lt-ltb 0 (node_at T t) holds) in
      omega (arith, ap one_if here)

  module _ (h≤12 : h ≤ 12) where
    counts_are_tenants : (m : ℕ) → get_or (counts_of h T) m 0 ≡ tenants_at h T m
    counts_are_tenants m = sym (in_order_counts h T h≤12 order m) ∙ sym (tenants_are_sizes h T order.in_tree order.once m)

    pub level_in_counts : level h (node_at T t) < length (counts_of h T)
    level_in_counts = rw (counts_length h T) (below (level h (node_at T t)) h (sub-le h (depth (node_at T t))) h≤12)
      where
        below : (l k : ℕ) → l ≤ k → k ≤ 12 → l < 13
        below l k p q = omega arith

    pub holder_counted : 0 < get_or (counts_of h T) (level h (node_at T t)) 0
    holder_counted =
        let x = level h (node_at T t) in
        omega (arith, counts_are_tenants x, struck_tenants x, ap one_if (eq-eqb x x refl))

    pub struck_sizes : (m : ℕ) → sizes h (occupied (set T t 0)) m ≡ get_or (one_block_fewer (counts_of h T) (level h (node_at T t))) m 0
    struck_sizes m = sym (tenants_are_sizes h (set T t 0) struck_in_tree struck_once m) ∙ go (ℕ_discrete m x)
      where
        x : ℕ
        x = level h (node_at T t)

        go : Dec (m ≡ x) → tenants_at h (set T t 0) m ≡ get_or (one_block_fewer (counts_of h T) x) m 0
        go (yes e) = rw (e, get_or-set_same (counts_of h T) x (get_or (counts_of h T) x 0 - 1) 0 level_in_counts)
            (omega (arith, counts_are_tenants x, struck_tenants x, ap one_if (eq-eqb x x refl)))
        go (no ne) = rw (get_or-set_other (counts_of h T) x m (get_or (counts_of h T) x 0 - 1) 0 ne)
            (omega (arith, counts_are_tenants m, struck_tenants m, ap one_if (ne_eqb x m (λ e. ne (sym e)))))
