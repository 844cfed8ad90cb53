-- Whoever can go goes, the lowest tenant number first: this gets everybody away exactly if some order does.
use mathlib.Core.Path.{◌≡◌, refl, sym, ap, ◌∙◌}
use mathlib.Core.Bool.{Bool, true, false, not, ◌&&◌, ◌||◌, true≢false, false≢true, and-eq-true_iff}
use mathlib.Core.List.{List, [], ◌∷◌}
use Prim.Native.Nat.{ℕ, zero, suc, ◌+◌, ◌≤◌, ◌<◌}
use native.Mathlib.Omega.{arith}
use borrow.Author.Tests.{eqb-true, eq-eqb, not-true, not-false}
use lib.Dec.{eqb}
use Rattle.staging.specs.Graph.{Group, Graph, joined, away, CanGo, Run, nobody, next, Plan, sum_over, LowestFirst}
use Rattle.staging.specs.Choice.{highest, can_go?, next_of, if_any, order_from, order_of, works?, free_of}
use Rattle.staging.proofs.Highest.{highest_none, none_of_zero, IsHighest, highest_of_suc}
use Rattle.staging.proofs.Sums.{without, all_of_count, sum_joined}

-- ---- who is waited for

waited_not_away : (w a : Bool) → (w && not a) ≡ false → w ≡ true → a ≡ true
waited_not_away true true e p = refl
waited_not_away true false e p = absurd (true≢false e)
waited_not_away false a e p = absurd (false≢true p)

nobody_waited : (w a : Bool) → (w ≡ true → a ≡ true) → (w && not a) ≡ false
nobody_waited true a p = rw (p refl)
nobody_waited false a p = refl

-- ---- who can go

module _ (g : Graph) (A : Group) (k : ℕ) where
  pub can_go_when : A k ≡ false → CanGo g A k → can_go? g A k ≡ true
  can_go_when there can =
      let nobody_there = highest_none g.n (λ j. g.waits k j && not (A j)) (λ j q. nobody_waited (g.waits k j) (A j) (can j q)) in
      (and-eq-true_iff (not (A k)) _).1 (rw there, eq-eqb _ 0 nobody_there)

  pub can_go_there : can_go? g A k ≡ true → A k ≡ false
  can_go_there e = not-true (A k) ((and-eq-true_iff (not (A k)) _).0 e).0

  pub can_go_of : can_go? g A k ≡ true → CanGo g A k
  can_go_of e j q w =
      let nobody_there = eqb-true (highest g.n (λ j. g.waits k j && not (A j))) 0 ((and-eq-true_iff (not (A k)) _).0 e).1 in
      waited_not_away (g.waits k j) (A j) (none_of_zero g.n (λ j. g.waits k j && not (A j)) nobody_there j q) w

-- ---- who is away

pub joined_self : (A : Group) (k : ℕ) → joined A k k ≡ true
joined_self A k = rw (eq-eqb k k refl)

pub joined_keeps : (A : Group) (k j : ℕ) → A j ≡ true → joined A k j ≡ true
joined_keeps A k j e = by_test (eqb j k)
  where
    by_test : (b : Bool) → (b || A j) ≡ true
    by_test true = refl
    by_test false = e

pub away_keeps : (A : Group) (ks : List ℕ) (j : ℕ) → A j ≡ true → away A ks j ≡ true
away_keeps A [] j e = e
away_keeps A (k ∷ ks) j e = away_keeps (joined A k) ks j (joined_keeps A k j e)

-- B has A and k if it has A, and k
joined_within : (A B : Group) (k : ℕ) → ((j : ℕ) → A j ≡ true → B j ≡ true) → B k ≡ true → (j : ℕ) → joined A k j ≡ true → B j ≡ true
joined_within A B k within at_k j e = by_test (eqb j k) refl e
  where
    by_test : (b : Bool) → eqb j k ≡ b → (b || A j) ≡ true → B j ≡ true
    by_test true f h = ap B (eqb-true j k f) ∙ at_k
    by_test false f h = within j h

-- ---- the order by lowest tenant number

module _ (g : Graph) where
  next_is : (A : Group) (k : ℕ) → next_of g A ≡ suc k → IsHighest g.n (can_go? g A) k
  unfolding next_of
  next_is A k e = highest_of_suc g.n (can_go? g A) k e

  nobody_next : (A : Group) → next_of g A ≡ 0 → (k : ℕ) → k < g.n → can_go? g A k ≡ false
  unfolding next_of
  nobody_next A e = none_of_zero g.n (can_go? g A) e

  nobody_can : (A : Group) → ((k : ℕ) → k < g.n → A k ≡ true) → next_of g A ≡ 0
  unfolding next_of
  nobody_can A gone = highest_none g.n (can_go? g A) (λ k q. rw (gone k q))

  -- they can go in it
  pub order_runs : (f : ℕ) (A : Group) → Run g A (order_from f g A)
  order_runs zero A = nobody A
  order_runs (suc f) A = by_next (next_of g A) refl (λ k. order_runs f (joined A k))
    where
      by_next : (m : ℕ) → next_of g A ≡ m → ((k : ℕ) → Run g (joined A k) (order_from f g (joined A k)))
          → Run g A (if_any m (λ k. k ∷ order_from f g (joined A k)))
      by_next zero e rest = nobody A
      by_next (suc k) e rest =
          let is = next_is A k e in
          next A k (order_from f g (joined A k)) is.below (can_go_there g A k is.passes) (can_go_of g A k is.passes) (rest k)

  pub order_lowest_first : (f : ℕ) (A : Group) → LowestFirst g A (order_from f g A)
  order_lowest_first zero A = nobody A
  order_lowest_first (suc f) A = by_next (next_of g A) refl (λ k. order_lowest_first f (joined A k))
    where
      by_next : (m : ℕ) → next_of g A ≡ m → ((k : ℕ) → LowestFirst g (joined A k) (order_from f g (joined A k)))
          → LowestFirst g A (if_any m (λ k. k ∷ order_from f g (joined A k)))
      by_next zero e rest = nobody A
      by_next (suc k) e rest =
          let is = next_is A k e in
          next A k (order_from f g (joined A k))
          (λ j q r there can. true≢false (sym (can_go_when g A j there can) ∙ is.higher_fail j q r)) (rest k)

  -- as many turns as there are movers are enough: afterwards nobody can go
  stuck_after : (f : ℕ) (A : Group) → g.n ≤ f + sum_over g.n A (λ k. 1) → next_of g (away A (order_from f g A)) ≡ 0
  stuck_after zero A q = nobody_can A (all_of_count g.n A (omega (arith, q)))
  stuck_after (suc f) A q = by_next (next_of g A) refl (λ k. stuck_after f (joined A k))
    where
      by_next : (m : ℕ) → next_of g A ≡ m
          → ((k : ℕ) → g.n ≤ f + sum_over g.n (joined A k) (λ j. 1) → next_of g (away (joined A k) (order_from f g (joined A k))) ≡ 0)
          → next_of g (away A (if_any m (λ k. k ∷ order_from f g (joined A k)))) ≡ 0
      by_next zero e rest = e
      by_next (suc k) e rest =
          let is = next_is A k e in
          rest k (omega (arith, q, sum_joined g.n A k (λ j. 1) is.below (can_go_there g A k is.passes)))

  -- where nobody of those that are not in B can go, no run that begins inside B leaves it
  run_stays : (B : Group) → next_of g B ≡ 0 → (A : Group) (ks : List ℕ) → Run g A ks → ((j : ℕ) → A j ≡ true → B j ≡ true)
      → (j : ℕ) → away A ks j ≡ true → B j ≡ true
  run_stays B stuck _ _ (nobody A) within j e = within j e
  run_stays B stuck _ _ (next A k ks q there can rest) within j e =
      run_stays B stuck (joined A k) ks rest (joined_within A B k within (inside (B k) refl)) j e
    where
      inside : (b : Bool) → B k ≡ b → B k ≡ true
      inside true f = f
      inside false f =
          absurd (true≢false (sym (can_go_when g B k f (λ i s w. within i (can i s w))) ∙ nobody_next B stuck k q))

  -- those who are away in the end
  abbrev last : Group → Group
  last S = away S (order_from g.n g S)

  stuck_last : (S : Group) → next_of g (last S) ≡ 0
  stuck_last S = stuck_after g.n S (omega arith)

  -- a group works if those whom a plan stages are away in the end
  works_within : (p : Plan g) (S : Group) → ((k : ℕ) → p.staged k ≡ true → last S k ≡ true) → works? g S ≡ true
  unfolding works? order_of
  works_within p S within =
      eq-eqb _ 0
      (highest_none g.n (λ k. not (last S k))
      (λ k q. rw (run_stays (last S) (stuck_last S) p.staged p.order p.goes within k (p.everybody k q))))

  -- any plan's staged group works, and a group that works is that of a plan
  pub works_of_plan : (p : Plan g) → works? g p.staged ≡ true
  works_of_plan p = works_within p p.staged (away_keeps p.staged (order_from g.n g p.staged))

  -- so does the group of everybody
  pub works_of_all : (S : Group) → ((k : ℕ) → k < g.n → S k ≡ true) → works? g S ≡ true
  unfolding works?
  works_of_all S all =
      eq-eqb _ 0 (highest_none g.n (λ k. not (away S (order_of g S) k)) (λ k q. rw (away_keeps S (order_of g S) k (all k q))))

  pub all_away : (S : Group) → works? g S ≡ true → (k : ℕ) → k < g.n → away S (order_of g S) k ≡ true
  unfolding works?
  all_away S e k q =
      not-false (away S (order_of g S) k) (none_of_zero g.n (λ j. not (away S (order_of g S) j)) (eqb-true _ 0 e) k q)

  abbrev pub plan_of : (S : Group) → ((k : ℕ) → S k ≡ true → k < g.n) → works? g S ≡ true → Plan g
  unfolding order_of
  plan_of S movers e = record {
    staged = S;
    order = order_of g S;
    only_movers = movers;
    goes = order_runs g.n S;
    everybody = all_away S e;
  }

  -- ---- those who need not be staged

  -- whoever can go while nobody is staged is away in the end, whoever is staged
  free_last : (S : Group) (k : ℕ) → free_of g k ≡ true → last S k ≡ true
  unfolding free_of order_of
  free_last S =
      let nobody_staged : Group = λ k. false in
      run_stays (last S) (stuck_last S) nobody_staged (order_from g.n g nobody_staged) (order_runs g.n nobody_staged)
      (λ j e. absurd (false≢true e))

  -- so a group works without them
  pub works_without : (S : Group) → ((k : ℕ) → S k ≡ true → k < g.n) → works? g S ≡ true → works? g (without S (free_of g)) ≡ true
  unfolding plan_of
  works_without S movers e = works_within (plan_of S movers e) (without S (free_of g)) (λ k in_S. by_test k (free_of g k) refl in_S)
    where
      by_test : (k : ℕ) (b : Bool) → free_of g k ≡ b → S k ≡ true → last (without S (free_of g)) k ≡ true
      by_test k true f in_S = free_last (without S (free_of g)) k f
      by_test k false f in_S =
          away_keeps (without S (free_of g)) (order_from g.n g (without S (free_of g))) k (rw (in_S, f))
