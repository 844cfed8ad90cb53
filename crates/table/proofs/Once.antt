-- A table has at least as many used entries as occupied nodes, and just as many exactly when no node stands in it twice.
use mathlib.Core.Path.{◌≡◌, refl, sym, ap, ap₂, ◌∙◌}
use mathlib.Core.Bool.{Bool, true, false, not, ◌&&◌, ◌||◌, false≢true, and-false}
use mathlib.Core.List.{List, [], ◌∷◌}
use Prim.Native.Nat.{ℕ, zero, suc, ◌+◌, ◌≤◌, ◌<◌}
use native.Mathlib.Omega.{arith}
use native.Mathlib.Decide.{ℕ_discrete}
use borrow.Author.Tests.{ltb-true, lt-ltb, eq-eqb, ne_eqb}
use lib.Dec.{ltb, eqb}
use Rattle.tree.specs.Held.{one_if, count}
use Rattle.tree.specs.Pages.{sum}
use Rattle.tree.proofs.Sum.{sum_cong, sum_of_zeros, sum_add, count_as_sum, count_of_none}
use Rattle.table.specs.Table.{node_of, node_at, stands, occupied, tally}
use Rattle.table.specs.Pairing.{owner_of}
use Rattle.table.specs.Owners.{used_in}
use Rattle.table.proofs.Occupied.{tenant_below, stands_at, owner_stands}
use Rattle.table.proofs.Tally.{Once}

-- ---- who stands on a node

node_stands : (T : List ℕ) (t n : ℕ) → 0 < n → node_at T t ≡ n → stands T n ≡ true
node_stands T t n q e = rw e at (stands_at T t (tenant_below T t (omega arith)))

-- ---- one entry more

-- a sum with one term
pub sum_of_one : (n k : ℕ) (f : ℕ → ℕ) → k < n → ((i : ℕ) → ¬ (i ≡ k) → f i ≡ 0) → sum n f ≡ f k
unfolding sum
sum_of_one zero k f q others = absurd (omega arith)
sum_of_one (suc n) k f q others =
    elim (ℕ_discrete n k) [
      | yes e ↦
          let before : sum n f ≡ 0 = sum_of_zeros n (λ i r. others i (λ (s : i ≡ k). omega arith)) in
          omega (arith, ap f e)
      | no d ↦ omega (arith, others n d, sum_of_one n k f (omega arith) others)
    ]

-- 1 for a node that does not stand in the entries after it
new : ℕ → List ℕ → ℕ
new n T = one_if (ltb 0 n && not (stands T n))

one_more_node : (same used later : Bool) → one_if (used && (same || later)) ≡ one_if (same && (used && not later)) + one_if (used && later)
one_more_node true true true = refl
one_more_node true true false = refl
one_more_node true false later = refl
one_more_node false used later = omega arith

module _ (m : ℕ) where
  held_of_cons : (x : ℕ) (T : List ℕ) → node_of x < m → count m (occupied (x ∷ T)) ≡ new (node_of x) T + count m (occupied T)
  unfolding new occupied
  held_of_cons x T q =
      count_as_sum m (occupied (x ∷ T))
      ∙ sum_cong m (λ n r. one_more_node (eqb (node_of x) n) (ltb 0 n) (stands T n))
      ∙ sum_add m here (λ n. one_if (occupied T n))
      ∙ ap₂ ◌+◌ (sum_of_one m (node_of x) here q elsewhere ∙ at_node) (sym (count_as_sum m (occupied T)))
    where
      here : ℕ → ℕ
      here n = one_if (eqb (node_of x) n && (ltb 0 n && not (stands T n)))

      elsewhere : (n : ℕ) → ¬ (n ≡ node_of x) → here n ≡ 0
      elsewhere n d = rw (ne_eqb (node_of x) n (λ e. d (sym e)))

      at_node : here (node_of x) ≡ new (node_of x) T
      at_node = rw (eq-eqb (node_of x) (node_of x) refl)

  held_of_none : count m (occupied []) ≡ 0
  unfolding occupied stands
  held_of_none = count_of_none m (occupied []) (λ n q e. false≢true (sym (and-false (ltb 0 n)) ∙ e))

new_le : (n : ℕ) (T : List ℕ) → new n T ≤ one_if (ltb 0 n)
unfolding new
new_le n T = by_value (ltb 0 n) (stands T n)
  where
    by_value : (used later : Bool) → one_if (used && not later) ≤ one_if used
    by_value true true = omega arith
    by_value true false = omega arith
    by_value false later = omega arith

new_if_absent : (n : ℕ) (T : List ℕ) → (0 < n → stands T n ≡ false) → new n T ≡ one_if (ltb 0 n)
unfolding new
new_if_absent n T absent = by_value (ltb 0 n) refl
  where
    by_value : (b : Bool) → ltb 0 n ≡ b → one_if (b && not (stands T n)) ≡ one_if b
    by_value true p = rw (absent (ltb-true 0 n p))
    by_value false p = refl

absent_if_new : (n : ℕ) (T : List ℕ) → new n T ≡ one_if (ltb 0 n) → 0 < n → stands T n ≡ false
unfolding new
absent_if_new n T e q = by_value (stands T n) refl
  where
    by_value : (b : Bool) → stands T n ≡ b → b ≡ false
    by_value true s = let z : ◌≡◌ {A = ℕ} 0 1 = rw (lt-ltb 0 n q, s) at e in absurd (omega arith)
    by_value false s = refl

-- ---- no node twice, entry by entry

once_below : (x : ℕ) (T : List ℕ) → Once (x ∷ T) → Once T
once_below x T once t t' q e = let same = once (suc t) (suc t') q e in omega arith

once_absent : (x : ℕ) (T : List ℕ) → Once (x ∷ T) → 0 < node_of x → stands T (node_of x) ≡ false
once_absent x T once q = by_value (stands T (node_of x)) refl
  where
    by_value : (b : Bool) → stands T (node_of x) ≡ b → b ≡ false
    by_value true s = let twice = once 0 (suc (owner_of T (node_of x))) q (sym (owner_stands T (node_of x) s).node_is) in absurd (omega arith)
    by_value false s = refl

once_of_absent : (x : ℕ) (T : List ℕ) → Once T → (0 < node_of x → stands T (node_of x) ≡ false) → Once (x ∷ T)
once_of_absent x T once absent zero zero q e = refl
once_of_absent x T once absent zero (suc t) q e = absurd (false≢true (sym (absent q) ∙ node_stands T t (node_of x) q (sym e)))
once_of_absent x T once absent (suc t) zero q e = absurd (false≢true (sym (absent (omega arith)) ∙ node_stands T t (node_of x) (omega arith) e))
once_of_absent x T once absent (suc t) (suc t') q e = ap suc (once t t' q e)

-- ---- used entries and occupied nodes

module _ (m : ℕ) where
  pub held_le_used : (T : List ℕ) → ((t : ℕ) → node_at T t < m) → count m (occupied T) ≤ used_in T
  unfolding tally
  held_le_used [] below = omega (arith, held_of_none m)
  held_le_used (x ∷ T) below =
      omega (arith, held_of_cons m x T (below 0), new_le (node_of x) T, held_le_used T (λ t. below (suc t)))

  pub used_of_once : (T : List ℕ) → ((t : ℕ) → node_at T t < m) → Once T → used_in T ≡ count m (occupied T)
  unfolding tally
  used_of_once [] below once = sym (held_of_none m)
  used_of_once (x ∷ T) below once =
      omega (
        arith,
        held_of_cons m x T (below 0),
        new_if_absent (node_of x) T (once_absent x T once),
        used_of_once T (λ t. below (suc t)) (once_below x T once),
      )

  pub once_of_used : (T : List ℕ) → ((t : ℕ) → node_at T t < m) → used_in T ≡ count m (occupied T) → Once T
  unfolding tally
  once_of_used [] below e = λ t t' q s. absurd (omega arith)
  once_of_used (x ∷ T) below e =
      let more = held_of_cons m x T (below 0) in
      let le = held_le_used T (λ t. below (suc t)) in
      let new_le_one = new_le (node_of x) T in
      once_of_absent x T (once_of_used T (λ t. below (suc t)) (omega arith)) (absent_if_new (node_of x) T (omega arith))
