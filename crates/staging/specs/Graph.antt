-- Movers that wait for one another, and every plan by which they can go: who is staged, and in which order the others go. Document 02, L2. A
-- mover is only a number here, and what it waits for is given: nodes and pages of a tree have no part in it.
use Rattle.std.specs.Prelude.{◌≡◌, Bool, true, false, ◌||◌, cond, List, [], ◌∷◌, ℕ, zero, suc, ◌+◌, ◌≤◌, ◌<◌, eqb}

-- some of the movers
abbrev pub Group : Type 0
Group = ℕ → Bool

-- The movers 0 … n − 1 by falling tenant number, so that of two movers the higher one has the lower tenant number; `waits k j` says that k
-- cannot go before j has left; and how many pages each has.
pub record Graph : Type 0 where
  pub n : ℕ
  pub waits : ℕ → ℕ → Bool
  pub pages : ℕ → ℕ

-- A and mover k
abbrev pub joined : Group → ℕ → Group
joined A k j = eqb j k || A j

-- those who are away after the movers ks have gone, where A was away before
abbrev pub away : Group → List ℕ → Group
away A [] = A
away A (k ∷ ks) = away (joined A k) ks

-- k can go: everyone whom it waits for is away, lifted out or gone
abbrev pub CanGo : Graph → Group → ℕ → Type 0
CanGo g A k = (j : ℕ) → j < g.n → g.waits k j ≡ true → A j ≡ true

-- the movers ks go one after the other, each when it can, where A is away at first
pub data Run (g : Graph) : Group → List ℕ → Type 0 where
  nobody : (A : Group) → Run g A []
  next : (A : Group) (k : ℕ) (ks : List ℕ) → k < g.n → A k ≡ false → CanGo g A k → Run g (joined A k) ks → Run g A (k ∷ ks)

-- a plan: any staged group, and any order of the others that they can go in
pub record Plan (g : Graph) : Type 0 where
  pub staged : Group
  pub order : List ℕ
  pub only_movers : (k : ℕ) → staged k ≡ true → k < g.n
  pub goes : Run g staged order
  pub everybody : (k : ℕ) → k < g.n → away staged order k ≡ true

-- the sum of f over the members of a group below n
abbrev pub sum_over : ℕ → Group → (ℕ → ℕ) → ℕ
sum_over zero S f = 0
sum_over (suc n) S f = cond (S n) (f n) 0 + sum_over n S f

-- the pages and the tenants that a group has
abbrev pub pages_of : Graph → Group → ℕ
pages_of g S = sum_over g.n S g.pages

abbrev pub tenants_of : Graph → Group → ℕ
tenants_of g S = sum_over g.n S (λ k. 1)

-- Of two groups of one size, S has the earlier list of ascending tenant numbers: the lowest tenant number that stands in one of the two lists
-- only stands in that of S.
pub record Earlier (g : Graph) (S S' : Group) : Type 0 where
  pub at : ℕ
  pub a_mover : at < g.n
  pub in_one : S at ≡ true
  pub not_in_other : S' at ≡ false
  pub lower_alike : (j : ℕ) → at < j → j < g.n → S j ≡ S' j

-- whoever goes has the lowest tenant number of those that are still there and can go
pub data LowestFirst (g : Graph) : Group → List ℕ → Type 0 where
  nobody : (A : Group) → LowestFirst g A []
  next : (A : Group) (k : ℕ) (ks : List ℕ) → ((j : ℕ) → k < j → j < g.n → A j ≡ false → ¬ CanGo g A j)
      → LowestFirst g (joined A k) ks → LowestFirst g A (k ∷ ks)

-- p among all plans: no plan stages fewer pages, among those with as few pages none fewer tenants, and among those none has an earlier list; and
-- its order is the lowest possible tenant number first
pub record Best (g : Graph) (p : Plan g) : Type 0 where
  pub fewest_pages : (q : Plan g) → pages_of g p.staged ≤ pages_of g q.staged
  pub fewest_tenants : (q : Plan g) → pages_of g q.staged ≡ pages_of g p.staged → tenants_of g p.staged ≤ tenants_of g q.staged
  pub first_list : (q : Plan g) → pages_of g q.staged ≡ pages_of g p.staged → tenants_of g q.staged ≡ tenants_of g p.staged
      → ¬ Earlier g q.staged p.staged
  pub lowest_first : LowestFirst g p.staged p.order
