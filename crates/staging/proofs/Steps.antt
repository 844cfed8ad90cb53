-- What the loops need: the laws of the definitions in the form in which the program goes through them.
use mathlib.Core.Path.{◌≡◌, refl, sym, ap, ◌∙◌}
use mathlib.Core.Bool.{Bool, true, false, not, ◌&&◌, cond}
use mathlib.Core.List.{◌∷◌}
use Prim.Native.Nat.{ℕ, zero, suc, ◌+◌, ◌-◌, ◌*◌, ◌^◌, ◌≤◌, ◌<◌}
use native.Mathlib.Omega.{arith}
use borrow.Author.Tests.{lt-ltb, le-ltb}
use lib.Bits.{bit_and}
use lib.Dec.{eqb}
use lib.ListN.{get_or}
use lib.Pow.{pow_pos}
use Rattle.staging.specs.Graph.{Group, Graph, joined, away, sum_over}
use Rattle.staging.specs.Choice.{highest, can_go?, next_of, if_any, order_from, order_of, works?, has, cost_of}
use Rattle.staging.specs.Choice.{free_of, apart?, cheaper_of, better_of, everyone, graph_of}
use Rattle.staging.specs.Mover.{nobody}
use Rattle.staging.specs.declared.movers.Movers.{Movers}
use Rattle.staging.proofs.Bits.{within_is, apart_is, has_zero, everyone_has}

-- ---- who can go

pub can_go_by_groups : (m : Movers) (a k : ℕ) → k < m.n → has a k ≡ false
    → eqb (bit_and (get_or m.list k nobody).waits a) (get_or m.list k nobody).waits ≡ can_go? (graph_of m) (has a) k
can_go_by_groups m a k q e = rw e (within_is m.n (get_or m.list k nobody).waits a (m.among_them k q))

-- ---- all gone that can

-- what is left of the order when i may still go
abbrev pub left_of : Movers → ℕ → ℕ → Group
left_of m i a = away (has a) (order_from i (graph_of m) (has a))

pub nobody_left : (m : Movers) (i a : ℕ) → next_of (graph_of m) (has a) ≡ 0 → has a ≡ left_of m i a
nobody_left m zero a e = refl
nobody_left m (suc i) a e = ap (λ (k : ℕ). away (has a) (if_any k (λ j. j ∷ order_from i (graph_of m) (joined (has a) j)))) (sym e)

-- after i turns
pub one_goes : (m : Movers) (i a b k : ℕ) → i < m.n → next_of (graph_of m) (has a) ≡ suc k → has b ≡ joined (has a) k
    → left_of m (m.n - (i + 1)) b ≡ left_of m (m.n - i) a
one_goes m i a b k q e f =
    let left : m.n - i ≡ suc (m.n - (i + 1)) = omega arith in
    rw (left, e)
    (ap (λ (A : Group). away A (order_from (m.n - (i + 1)) (graph_of m) A)) f)

-- the next to go is one of the movers
highest_le : (n : ℕ) (p : ℕ → Bool) → highest n p ≤ n
highest_le zero p = omega arith
highest_le (suc n) p = by_test (p n) (highest_le n p)
  where
    by_test : (b : Bool) → highest n p ≤ n → cond b (suc n) (highest n p) ≤ suc n
    by_test true q = omega arith
    by_test false q = omega arith

pub next_le : (m : Movers) (A : Group) → next_of (graph_of m) A ≤ m.n
unfolding next_of
next_le m A = highest_le m.n (can_go? (graph_of m) A)

-- ---- everybody gone

highest_cong : (n : ℕ) (p q : ℕ → Bool) → ((k : ℕ) → k < n → p k ≡ q k) → highest n p ≡ highest n q
highest_cong zero p q same = refl
highest_cong (suc n) p q same =
    ap (λ (b : Bool). cond b (suc n) (highest n p)) (same n (omega arith))
    ∙ ap (λ (r : ℕ). cond (q n) (suc n) r) (highest_cong n p q (λ k s. same k (omega arith)))

pub works_by_groups : (m : Movers) (s all r : ℕ) → all ≡ everyone m.n → has r ≡ away (has s) (order_of (graph_of m) (has s))
    → eqb (bit_and all r) all ≡ works? (graph_of m) (has s)
unfolding works?
works_by_groups m s all r e gone =
    rw e
    (within_is m.n (everyone m.n) r (omega (arith, pow_pos m.n))
    ∙ ap (λ (x : ℕ). eqb x 0)
    (highest_cong m.n (λ j. has (everyone m.n) j && not (has r j)) (λ j. not (away (has s) (order_of (graph_of m) (has s)) j))
    (λ j q. ap (λ (b : Bool). b && not (has r j)) (everyone_has m.n j q) ∙ ap (λ (A : Group). not (A j)) gone)))

-- ---- the cost

-- the most that a mover adds
abbrev pub most : ℕ
most = 524281

pub cost_of_all : (m : Movers) (S : Group) (k sum : ℕ) → k ≡ m.n → sum ≡ sum_over k S (λ j. (get_or m.list j nobody).pages * 8 + 1)
    → sum ≡ cost_of (graph_of m) S
unfolding cost_of
cost_of_all m S k sum e f = f ∙ ap (λ (i : ℕ). sum_over i S (λ j. (get_or m.list j nobody).pages * 8 + 1)) e

-- ---- the search

pub better_left : (g : Graph) (s b : ℕ) → cost_of g (has b) ≤ cost_of g (has s) → b ≡ cheaper_of g s b
unfolding cheaper_of
better_left g s b q = rw (le-ltb (cost_of g (has s)) (cost_of g (has b)) q)

pub better_taken : (g : Graph) (s b : ℕ) → cost_of g (has s) < cost_of g (has b) → works? g (has s) ≡ true → s ≡ cheaper_of g s b
unfolding cheaper_of
better_taken g s b q e = rw (lt-ltb (cost_of g (has s)) (cost_of g (has b)) q, e)

pub better_fails : (g : Graph) (s b : ℕ) → cost_of g (has s) < cost_of g (has b) → works? g (has s) ≡ false → b ≡ cheaper_of g s b
unfolding cheaper_of
better_fails g s b q e = rw (lt-ltb (cost_of g (has s)) (cost_of g (has b)) q, e)

-- the test of two numbers is that of the group
apart_by_groups : (g : Graph) (s f : ℕ) → s < 2 ^ g.n → has f ≡ free_of g → eqb (bit_and s f) 0 ≡ apart? g s
unfolding apart?
apart_by_groups g s f below e = apart_is g.n s f below ∙ ap (λ (A : Group). eqb (highest g.n (λ k. has s k && A k)) 0) e

pub better_by_groups : (g : Graph) (s f b : ℕ) (t : Bool) → s < 2 ^ g.n → has f ≡ free_of g → eqb (bit_and s f) 0 ≡ t
    → cond t (cheaper_of g s b) b ≡ better_of g s b
unfolding better_of
better_by_groups g s f b t below e test = ap (λ (x : Bool). cond x (cheaper_of g s b) b) (sym test ∙ apart_by_groups g s f below e)

-- nobody is in the group 0
pub free_by_groups : (m : Movers) (r : ℕ) → has r ≡ away (has 0) (order_of (graph_of m) (has 0)) → has r ≡ free_of (graph_of m)
unfolding free_of
free_by_groups m r e =
    let nobody : has 0 ≡ (λ k. false) = λ i k. has_zero k i in
    e ∙ ap (λ (A : Group). away A (order_of (graph_of m) A)) nobody
