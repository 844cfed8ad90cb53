-- The list in its order has the movers of a call, each once; and they may be given in any order, since they are put by tenant number first.
use mathlib.Core.Path.{◌≡◌, sym, ap, subst, ◌∙◌}
use mathlib.Core.List.{List}
use Prim.Native.Nat.{ℕ, ◌<◌}
use native.Mathlib.Omega.{arith}
use native.Mathlib.Decide.{dec_lt}
use lib.ListN.{length, get_or}
use Rattle.table.specs.Table.{node_at}
use Rattle.table.specs.Paired.{Mover}
use Rattle.plans.specs.Plan.{no_move}
use Rattle.table.specs.declared.Move.{Move}
use Rattle.table.proofs.Distinct.{place_of, at_place}
use Rattle.carrying.specs.Order.{by_tenant, marked, moves_in_order}
use Rattle.carrying.proofs.Moving.{TenantsOnce, Unsorted, Moving}
use Rattle.carrying.proofs.Sorting.{by_tenant_length, in_by_tenant, of_by_tenant, by_tenant_falling}
use Rattle.carrying.proofs.Listed.{worked_length, worked_entry, worked_has, worked_once}

-- ---- by tenant number

module _ (ms : List Move) where
  -- where a move stood before, and where it stands now
  place_before : (i : ℕ) → i < length (by_tenant ms) → (j : ℕ) × (j < length ms) × (get_or ms j no_move ≡ get_or (by_tenant ms) i no_move)
  place_before i q = place_of no_move (of_by_tenant ms (at_place no_move (by_tenant ms) i q))

  place_now : (j : ℕ) → j < length ms → (i : ℕ) × (i < length (by_tenant ms)) × (get_or (by_tenant ms) i no_move ≡ get_or ms j no_move)
  place_now j q = place_of no_move (in_by_tenant ms (at_place no_move ms j q))

  pub by_tenant_once : TenantsOnce ms → TenantsOnce (by_tenant ms)
  by_tenant_once once i j p q e = go (dec_lt i j) (dec_lt j i)
    where
      go : Dec (i < j) → Dec (j < i) → i ≡ j
      go (yes less) later = absurd (omega (arith, e, by_tenant_falling ms once i j less q))
      go (no r) (yes less) = absurd (omega (arith, e, by_tenant_falling ms once j i less p))
      go (no r) (no s) = omega arith

-- ---- the list in its order

module _ (h : ℕ) (ms : List Move) where
  pub in_order_length : length (moves_in_order h ms) ≡ length ms
  unfolding moves_in_order
  in_order_length = worked_length h (by_tenant ms) ∙ by_tenant_length ms

  -- each entry has the tenant and the nodes of a move of ms
  pub in_order_entry : (i : ℕ) → i < length (moves_in_order h ms)
      → (j : ℕ) × (j < length ms) × ((get_or (moves_in_order h ms) i no_move).tenant ≡ (get_or ms j no_move).tenant)
      × ((get_or (moves_in_order h ms) i no_move).from ≡ (get_or ms j no_move).from)
      × ((get_or (moves_in_order h ms) i no_move).to ≡ (get_or ms j no_move).to)
  unfolding moves_in_order
  in_order_entry i q =
      let r = worked_entry h (by_tenant ms) i q in
      let b = place_before ms r.0 r.2 in
      let e = r.3 ∙ sym (ap (marked r.1) b.2) in
      (b.0, b.1, ap (λ (m : Move). m.tenant) e, ap (λ (m : Move). m.from) e, ap (λ (m : Move). m.to) e)

  pub in_order_has : (j : ℕ) → j < length ms
      → (i : ℕ) × (i < length (moves_in_order h ms)) × ((get_or (moves_in_order h ms) i no_move).tenant ≡ (get_or ms j no_move).tenant)
  unfolding moves_in_order
  in_order_has j q =
      let b = place_now ms j q in
      let r = worked_has h (by_tenant ms) b.0 b.1 in
      (r.0, r.1, r.2 ∙ ap (λ (m : Move). m.tenant) b.2)

  pub in_order_once : TenantsOnce ms → TenantsOnce (moves_in_order h ms)
  unfolding moves_in_order
  in_order_once once = worked_once h (by_tenant ms) (by_tenant_once ms once)

-- ---- the movers of a call

-- what holds at each place before holds at each place now
everywhere_now : (P : Move → Type 0) (ms : List Move) → ((j : ℕ) → j < length ms → P (get_or ms j no_move))
    → (i : ℕ) → i < length (by_tenant ms) → P (get_or (by_tenant ms) i no_move)
everywhere_now P ms holds i q = let b = place_before ms i q in subst P b.2 (holds b.0 b.1)

pub moving_by_tenant : (h t : ℕ) (T T' : List ℕ) (ms : List Move) → Unsorted h t T T' ms → Moving h t T T' (by_tenant ms)
moving_by_tenant h t T T' ms u =
    record {
      standing = by_tenant_falling ms u.standing;
      few = rw (by_tenant_length ms) u.few;
      listed = everywhere_now (λ m. Mover t T T' m.tenant) ms u.listed;
      old = everywhere_now (λ m. m.from ≡ node_at T m.tenant) ms u.old;
      new = everywhere_now (λ m. m.to ≡ node_at T' m.tenant) ms u.new;
      all_listed = λ v mover.
          let a = u.all_listed v mover in
          let b = place_now ms a.0 a.1 in
          (b.0, b.1, ap (λ (m : Move). m.tenant) b.2 ∙ a.2);
      new_within = u.new_within;
      new_legal = u.new_legal;
      new_once = u.new_once;
      still_holds = u.still_holds;
      still_nothing = u.still_nothing;
    }
