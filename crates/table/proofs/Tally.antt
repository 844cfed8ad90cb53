-- Laws of `tally`: how many entries of a table pass a test of their node.
use mathlib.Core.Path.{◌≡◌, refl, sym, ap, ◌∙◌}
use mathlib.Core.Bool.{Bool, true, false, ◌&&◌, false≢true, and-eq-true_iff, and-true, and-false}
use mathlib.Core.List.{List, [], ◌∷◌}
use Prim.Native.Nat.{ℕ, zero, suc, ◌+◌, ◌≤◌, ◌<◌}
use native.Mathlib.Omega.{arith}
use native.Mathlib.Decide.{ℕ_discrete}
use borrow.Author.Tests.{eqb-true, eq-eqb, ne_eqb}
use lib.Dec.{eqb}
use lib.ListN.{length}
use Rattle.tree.specs.Held.{one_if, count}
use Rattle.tree.specs.Pages.{sum}
use Rattle.tree.proofs.Sum.{sum_cong, sum_first, sum_of_zeros, sum_swap, count_as_sum, count_of_none, count_le_one}
use Rattle.tree.proofs.Count.{count_of_one, count_of_two, equal_counts_converse}
use Rattle.table.specs.Table.{node_of, node_at, occupied, tally}
use Rattle.table.proofs.Occupied.{tenant_below, tenant_of, occupied_by}

-- ---- how many entries pass

-- the entries that pass are the tenants whose node passes
tally_as_sum : (p : ℕ → Bool) (T : List ℕ) → tally p T ≡ sum (length T) (λ t. one_if (p (node_at T t)))
unfolding tally sum
tally_as_sum p [] = refl
tally_as_sum p (x ∷ T) =
    ap (λ k. one_if (p (node_of x)) + k) (tally_as_sum p T) ∙ sym (sum_first (length T) (λ t. one_if (p (node_at (x ∷ T) t))))

pub tally_by_tenants : (p : ℕ → Bool) (T : List ℕ) → tally p T ≡ count (length T) (λ t. p (node_at T t))
tally_by_tenants p T = tally_as_sum p T ∙ sym (count_as_sum (length T) (λ t. p (node_at T t)))

pub tally_agrees : (p q : ℕ → Bool) (T : List ℕ) → ((t : ℕ) → t < length T → p (node_at T t) ≡ q (node_at T t)) → tally p T ≡ tally q T
tally_agrees p q T e = tally_as_sum p T ∙ sum_cong (length T) (λ t r. ap one_if (e t r)) ∙ sym (tally_as_sum q T)

-- as many numbers pass as there are: all pass
count_of_all : (n : ℕ) (p : ℕ → Bool) → count n p ≡ count n (λ i. true) → (i : ℕ) → i < n → p i ≡ true
count_of_all n p e i q = equal_counts_converse n p (λ i. true) e (λ k v. refl) i q refl

pub all_pass : (p : ℕ → Bool) (T : List ℕ) → tally p T ≡ tally (λ n. true) T → (t : ℕ) → t < length T → p (node_at T t) ≡ true
all_pass p T e =
    count_of_all (length T) (λ t. p (node_at T t)) (sym (tally_by_tenants p T) ∙ e ∙ tally_by_tenants (λ n. true) T)

-- no two tenants on one node
abbrev pub Once : List ℕ → Type 0
Once T = (t t' : ℕ) → 0 < node_at T t → node_at T t ≡ node_at T t' → t ≡ t'

-- then a node stands in the table once if it is occupied, else not at all
pub node_stands_once : (T : List ℕ) → Once T → (n : ℕ) → 0 < n → tally (eqb n) T ≡ one_if (occupied T n)
node_stands_once T once n q = tally_by_tenants (eqb n) T ∙ by_value (occupied T n) refl
  where
    on_n : ℕ → Bool
    on_n t = eqb n (node_at T t)

    same : (t t' : ℕ) → on_n t ≡ true → on_n t' ≡ true → t ≡ t'
    same t t' e e' =
        let f : n ≡ node_at T t = eqb-true n (node_at T t) e in
        let f' : n ≡ node_at T t' = eqb-true n (node_at T t') e' in
        once t t' (omega arith) (sym f ∙ f')

    by_value : (b : Bool) → occupied T n ≡ b → count (length T) on_n ≡ one_if b
    by_value true v =
        let t = tenant_of T n v in
        let some = count_of_one (length T) on_n t.0 t.1 (eq-eqb n (node_at T t.0) (sym t.2)) in
        let one = count_le_one (length T) on_n same in
        omega arith
    by_value false v =
        count_of_none (length T) on_n
        (λ t r f.
        let e : node_at T t ≡ n = sym (eqb-true n (node_at T t) f) in
        false≢true (sym v ∙ rw e at (occupied_by T t (omega arith))))

-- and where each node of the table stands in it once, no two tenants are on one
pub once_of_tally : (T : List ℕ) → ((t : ℕ) → 0 < node_at T t → tally (eqb (node_at T t)) T ≤ 1) → Once T
once_of_tally T single t t' q e =
    elim (ℕ_discrete t t') [
      | yes s ↦ s
      | no d ↦ absurd (omega (arith, single t q, tally_by_tenants (eqb (node_at T t)) T, two d))
    ]
  where
    two : ¬ (t ≡ t') → 1 < count (length T) (λ i. eqb (node_at T t) (node_at T i))
    two d =
        count_of_two (length T) (λ i. eqb (node_at T t) (node_at T i)) t t' d (tenant_below T t q) (tenant_below T t' (omega arith))
        (eq-eqb (node_at T t) (node_at T t) refl) (eq-eqb (node_at T t) (node_at T t') e)

-- exactly one number below m is k
count_of_number : (m k : ℕ) (p : ℕ → Bool) → k < m → count m (λ n. eqb n k && p n) ≡ one_if (p k)
unfolding count
count_of_number zero k p q = absurd (omega arith)
count_of_number (suc m) k p q =
    elim (ℕ_discrete m k) [
      | yes e ↦
          let none_before : count m (λ n. eqb n k && p n) ≡ 0 = count_of_none m (λ n. eqb n k && p n) (λ n r f. other n r e f) in
          rw (eq-eqb m k e) (omega (arith, none_before, ap (λ i. one_if (p i)) e))
      | no d ↦ rw (ne_eqb m k d) (omega (arith, count_of_number m k p (omega arith)))
    ]
  where
    other : (n : ℕ) → n < m → m ≡ k → ¬ ((eqb n k && p n) ≡ true)
    other n r e f = let g : n ≡ k = eqb-true n k ((and-eq-true_iff (eqb n k) (p n)).0 f).0 in omega arith

-- Over a table in which no node stands twice, to count tenants by a test of their node is to count the occupied nodes that pass it: both count
-- the pairs of a tenant and its node.
module _ (m : ℕ) (T : List ℕ) (below : (t : ℕ) → node_at T t < m) (once : Once T) (p : ℕ → Bool) (none : p 0 ≡ false) where
  above_zero : (n : ℕ) → p n ≡ true → 0 < n
  above_zero zero v = absurd (false≢true (sym none ∙ v))
  above_zero (suc n) v = omega arith

  on_node : (n : ℕ) → sum (length T) (λ t. one_if (eqb n (node_at T t) && p n)) ≡ one_if (occupied T n && p n)
  on_node n = by_test (p n) refl
    where
      by_test : (b : Bool) → p n ≡ b → sum (length T) (λ t. one_if (eqb n (node_at T t) && p n)) ≡ one_if (occupied T n && p n)
      by_test true v = simp (v, and-true) (sym (tally_as_sum (eqb n) T) ∙ node_stands_once T once n (above_zero n v))
      by_test false v = simp (v, and-false) (sum_of_zeros (length T) (λ t q. refl))

  pub tally_is_count : tally p T ≡ count m (λ n. occupied T n && p n)
  tally_is_count =
      tally_as_sum p T
      ∙ sum_cong (length T) (λ t q. sym (count_of_number m (node_at T t) p (below t)) ∙ count_as_sum m (λ n. eqb n (node_at T t) && p n))
      ∙ sum_swap (length T) m (λ t n. one_if (eqb n (node_at T t) && p n))
      ∙ sum_cong m (λ n q. on_node n)
      ∙ sym (count_as_sum m (λ n. occupied T n && p n))
