-- The plan that is chosen, as it is computed: groups by number, tried from the highest number down. `proofs/Best.antt` shows that it is the
-- best of all plans.
use Rattle.std.specs.Prelude.{◌≡◌, Bool, false, not, ◌&&◌, cond, Option, Some, None, List, [], ◌∷◌, get_or}
use Rattle.std.specs.Prelude.{ℕ, zero, suc, ◌+◌, ◌-◌, ◌*◌, ◌/◌, ◌%◌, ◌^◌, eqb, ltb}
use Rattle.staging.specs.Graph.{Group, Graph, joined, away, sum_over}
use Rattle.staging.specs.Mover.{nobody}
use Rattle.staging.specs.declared.movers.Movers.{Movers}
use Rattle.staging.specs.declared.Priced.{Priced}

-- one more than the highest number below n that passes the test; 0 if none does
abbrev pub highest : ℕ → (ℕ → Bool) → ℕ
highest zero p = 0
highest (suc n) p = cond (p n) (suc n) (highest n p)

-- k is still there and waits for nobody else who is
abbrev pub can_go? : Graph → Group → ℕ → Bool
can_go? g A k = not (A k) && eqb (highest g.n (λ j. g.waits k j && not (A j))) 0

-- one more than the next to go, which is the one with the lowest tenant number that can; 0 if nobody can
unfoldable pub next_of : Graph → Group → ℕ
next_of g A = highest g.n (can_go? g A)

-- the number below it; none for 0
abbrev pub below_it : ℕ → Option ℕ
below_it zero = None
below_it (suc k) = Some k

-- nothing for 0, and for one more than k what comes of k
abbrev pub if_any : ℕ → (ℕ → List ℕ) → List ℕ
if_any zero f = []
if_any (suc k) f = f k

-- the order in which at most f go
abbrev pub order_from : ℕ → Graph → Group → List ℕ
order_from zero g A = []
order_from (suc f) g A = if_any (next_of g A) (λ k. k ∷ order_from f g (joined A k))

-- the order in which all go that can
unfoldable pub order_of : Graph → Group → List ℕ
order_of g S = order_from g.n g S

-- everybody who is not in S can go
unfoldable pub works? : Graph → Group → Bool
works? g S = eqb (highest g.n (λ k. not (away S (order_of g S) k))) 0

-- what it costs to stage S: a page counts eight times as much as a tenant, of whom there are seven at most
unfoldable pub cost_of : Graph → Group → ℕ
cost_of g S = sum_over g.n S (λ k. g.pages k * 8 + 1)

-- the group with the number s: k is in it if the binary digit of s for 2^k is 1
abbrev pub has : ℕ → ℕ → Bool
has s k = eqb (s / 2 ^ k % 2) 1

-- those who can go even if nobody is staged
unfoldable pub free_of : Graph → Group
free_of g = away (λ k. false) (order_of g (λ k. false))

-- nobody of them is in the group s: they need not be staged
unfoldable pub apart? : Graph → ℕ → Bool
apart? g s = eqb (highest g.n (λ k. has s k && free_of g k)) 0

-- s, if it costs less than b and everybody else can go; else b
unfoldable pub cheaper_of : Graph → ℕ → ℕ → ℕ
cheaper_of g s b = cond (ltb (cost_of g (has s)) (cost_of g (has b)) && works? g (has s)) s b

-- the same, where s has nobody who need not be staged
unfoldable pub better_of : Graph → ℕ → ℕ → ℕ
better_of g s b = cond (apart? g s) (cheaper_of g s b) b

-- the best of b and the groups numbered below s, from the highest number down
abbrev pub best_below : Graph → ℕ → ℕ → ℕ
best_below g zero b = b
best_below g (suc s) b = best_below g s (better_of g s b)

-- the number of the group of all movers
abbrev pub everyone : ℕ → ℕ
everyone n = 2 ^ n - 1

-- the number of the group to be staged
unfoldable pub chosen_of : Graph → ℕ
chosen_of g = best_below g (everyone g.n) (everyone g.n)

-- the movers as the program has them
abbrev pub graph_of : Movers → Graph
graph_of m = record { n = m.n; waits = λ k j. has (get_or m.list k nobody).waits j; pages = λ k. (get_or m.list k nobody).pages }

-- the cost that a group is handed on with is its own
abbrev pub Prices : Movers → Priced → Type 0
Prices m p = p.cost ≡ cost_of (graph_of m) (has p.group)
