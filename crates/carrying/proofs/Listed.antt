-- The list of moves in the order of a plan has each of the moves once: first those that the run names, then those of the staged group.
use mathlib.Core.Path.{◌≡◌, refl, sym, ap, ◌∙◌}
use mathlib.Core.Bool.{true, true≢false}
use mathlib.Core.Logic.{⊎_elim}
use mathlib.Core.List.{List, [], ◌∷◌, ◌++◌}
use mathlib.Core.List.{Memᴰ as In}
use mathlib.Core.List.Memᴰ.{append_cases as in_either}
use mathlib.Core.List.Memᴰ.{append_left as in_left}
use mathlib.Core.List.Memᴰ.{append_right as in_right}
use Prim.Native.Nat.{ℕ, zero, suc, ◌<◌}
use native.Mathlib.Omega.{arith}
use lib.ListN.{length, get_or, length-map}
use Rattle.tree.proofs.Sum.{count_as_sum, sum_const}
use Rattle.staging.specs.Graph.{Graph, Plan}
use Rattle.staging.specs.Choice.{order_of}
use Rattle.staging.proofs.Best.{chosen_plan}
use Rattle.plans.specs.Plan.{no_move}
use Rattle.table.specs.declared.Move.{Move}
use Rattle.table.proofs.Distinct.{Distinct, place_of, at_place, distinct_places, distinct_append, length_as_count, get_d_map}
use Rattle.carrying.specs.Carrying.{among}
use Rattle.carrying.specs.Order.{waiting_of, marked, entries, worked, members}
use Rattle.carrying.proofs.Moving.{TenantsOnce}
use Rattle.carrying.proofs.Lists.{one_passes, away_is, among_in, in_among, distinct_of_once, of_members, in_members, once_members}
use Rattle.carrying.proofs.Runs.{run_below, run_there, run_once}

module _ (g : Graph) where
  -- ---- the numbers of a plan: those that go, then the staged

  module _ (p : Plan g) where
    abbrev pub numbers_of : List ℕ
    numbers_of = p.order ++ members g.n p.staged

    pub numbers_below : (k : ℕ) → In k numbers_of → k < g.n
    numbers_below k m =
        ⊎_elim (λ r. run_below g p.staged p.order p.goes k (among_in k p.order r))
        (λ r. (of_members g.n p.staged k (among_in k (members g.n p.staged) r)).0) (in_either p.order m)

    pub numbers_all : (k : ℕ) → k < g.n → In k numbers_of
    numbers_all k q =
        ⊎_elim (λ e. in_left (members g.n p.staged) (in_among k p.order e))
        (λ e. in_right p.order (in_among k (members g.n p.staged) (in_members g.n p.staged k q e)))
        (one_passes (among k p.order) (p.staged k) (sym (away_is p.staged p.order k) ∙ p.everybody k q))

    pub numbers_once : Distinct numbers_of
    numbers_once =
        distinct_append p.order (members g.n p.staged)
        (distinct_of_once p.order (run_once g p.staged p.order p.goes))
        (distinct_of_once (members g.n p.staged) (once_members g.n p.staged))
        (λ k m r.
        let staged = (of_members g.n p.staged k (among_in k (members g.n p.staged) r)).1 in
        true≢false (sym staged ∙ run_there g p.staged p.order p.goes k (among_in k p.order m)))

    pub numbers_length : length numbers_of ≡ g.n
    numbers_length =
        length_as_count g.n (λ k. true) numbers_of numbers_once (λ k m. (numbers_below k m, refl)) (λ k q e. numbers_all k q)
        ∙ count_as_sum g.n (λ k. true) ∙ sum_const g.n 1 ∙ omega arith

-- ---- the list

module _ (ms : List Move) where
  entries_length : (xs ys : List ℕ) → length (entries 0 ms xs ++ entries 1 ms ys) ≡ length (xs ++ ys)
  entries_length [] ys = length-map ys (λ k. marked 1 (get_or ms k no_move))
  entries_length (x ∷ xs) ys = ap suc (entries_length xs ys)

  entry_at : (xs ys : List ℕ) (i : ℕ) → i < length (xs ++ ys)
      → (s : ℕ) × (get_or (entries 0 ms xs ++ entries 1 ms ys) i no_move ≡ marked s (get_or ms (get_or (xs ++ ys) i 0) no_move))
  entry_at [] ys i q = (1, get_d_map (λ k. marked 1 (get_or ms k no_move)) ys 0 no_move i q)
  entry_at (x ∷ xs) ys zero q = (0, refl)
  entry_at (x ∷ xs) ys (suc i) q = entry_at xs ys i (omega arith)

module _ (h : ℕ) (ms : List Move) where
  -- who waits for whom, the plan that is chosen, and its numbers
  abbrev g : Graph
  g = waiting_of h ms

  abbrev p : Plan g
  p = chosen_plan g

  abbrev numbers : List ℕ
  numbers = numbers_of g p

  length_of_numbers : length numbers ≡ length ms
  unfolding waiting_of
  length_of_numbers = numbers_length g p

  pub worked_length : length (worked h ms) ≡ length ms
  unfolding worked waiting_of order_of
  worked_length = entries_length ms p.order (members (length ms) p.staged) ∙ length_of_numbers

  -- as many places as numbers
  number_there : (i : ℕ) → i < length (worked h ms) → i < length numbers
  number_there i q = omega (arith, worked_length, length_of_numbers)

  -- at each place the move whose number stands there
  worked_at : (i : ℕ) → i < length (worked h ms) → (s : ℕ) × (get_or (worked h ms) i no_move ≡ marked s (get_or ms (get_or numbers i 0) no_move))
  unfolding worked waiting_of order_of
  worked_at i q = entry_at ms p.order (members (length ms) p.staged) i (number_there i q)

  worked_tenant : (i : ℕ) → i < length (worked h ms) → (get_or (worked h ms) i no_move).tenant ≡ (get_or ms (get_or numbers i 0) no_move).tenant
  worked_tenant i q = ap (λ (m : Move). m.tenant) (worked_at i q).1

  number_below : (i : ℕ) → i < length (worked h ms) → get_or numbers i 0 < length ms
  unfolding waiting_of
  number_below i q = numbers_below g p (get_or numbers i 0) (at_place 0 numbers i (number_there i q))

  pub worked_entry : (i : ℕ) → i < length (worked h ms)
      → (j : ℕ) × (s : ℕ) × (j < length ms) × (get_or (worked h ms) i no_move ≡ marked s (get_or ms j no_move))
  worked_entry i q = let r = worked_at i q in (get_or numbers i 0, r.0, number_below i q, r.1)

  pub worked_has : (j : ℕ) → j < length ms
      → (i : ℕ) × (i < length (worked h ms)) × ((get_or (worked h ms) i no_move).tenant ≡ (get_or ms j no_move).tenant)
  unfolding waiting_of
  worked_has j q =
      let r = place_of 0 (numbers_all g p j q) in
      let below : r.0 < length (worked h ms) = omega (arith, r.1, worked_length, length_of_numbers) in
      (r.0, below, worked_tenant r.0 below ∙ ap (λ k. (get_or ms k no_move).tenant) r.2)

  pub worked_once : TenantsOnce ms → TenantsOnce (worked h ms)
  worked_once once i j a b e =
      distinct_places 0 numbers (numbers_once g p) i j (number_there i a) (number_there j b)
      (once (get_or numbers i 0) (get_or numbers j 0) (number_below i a) (number_below j b) (sym (worked_tenant i a) ∙ e ∙ worked_tenant j b))
