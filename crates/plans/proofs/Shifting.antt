-- One level's moves: what is paired after each turn of the loop over the two rows, and that at its end everything is.
use mathlib.Core.Path.{◌≡◌, refl, sym, ap, ◌∙◌}
use mathlib.Core.Bool.{Bool, true, false, and-not_self}
use mathlib.Core.Logic.{◌⊎◌, inl, inr}
use mathlib.Core.List.{List, [], ◌∷◌, ◌++◌, map, append-nil, append_assoc}
use Prim.Native.Nat.{ℕ, suc, ◌+◌, ◌≤◌, ◌<◌}
use native.Mathlib.Numerals.{add-one}
use native.Mathlib.Omega.{arith}
use lib.ListN.{length, get_or, length-append}
use Rattle.layout.specs.Rows.{no_index, up_from}
use Rattle.table.specs.Pairing.{keep, Shift, pair}
use Rattle.plans.specs.Plan.{row_holds, only_in, only_from, least_only, moves_in, plan_of, with_move, nodes_at, level_shifts, spare_index, move_of}
use Rattle.plans.specs.Plan.{LevelShifted}
use Rattle.plans.specs.declared.Row.{Row}
use Rattle.plans.specs.declared.Plan.{Plan}
use Rattle.table.specs.declared.Move.{Move}
use Rattle.plans.proofs.PlanOf.{moves_in_plan_of, count_in_plan_of, made_of_its_moves, pushed_at_end}
use Rattle.plans.proofs.LeastIndex.{Found, least_found, only_none, only_cons, only_from_least, found_is_least}

from_zero : {p : ℕ → Bool} {a b : ℕ} → Found p a b → Found p 0 b
from_zero s = record { from = omega arith; fits = s.fits; passes = s.passes }

-- the shift from index i to index j of the level whose first node is b
abbrev pub shift_at : ℕ → ℕ → ℕ → Shift
shift_at b i j = record { from = b + i; to = b + j }

-- what is left to pair, from index i of the old row and index j of the new one on
pub rest_shifts : ℕ → Row → Row → ℕ → ℕ → List Shift
rest_shifts b v w i j = pair (nodes_at b (only_from v w i)) (nodes_at b (only_from w v j))

-- The plan so far with what is left is the plan before with the whole level; i and j are the next to pair, or none.
pub record Shifting (b : ℕ) (v w : Row) (owners : List ℕ) (before plan : Plan) (i j : ℕ) : Type 0 where
  pub next_left : Found (only_in v w) 0 i
  pub next_place : Found (only_in w v) 0 j
  pub moves : moves_in plan ++ map (move_of owners) (rest_shifts b v w i j) ≡ moves_in before ++ map (move_of owners) (level_shifts b v w)
  pub count : plan.n + length (rest_shifts b v w i j) ≡ before.n + length (level_shifts b v w)
  pub whole : plan ≡ plan_of (moves_in plan)
  pub spare : get_or (only_from w v j) (length (only_from v w i)) no_index ≡ spare_index v w

pair_with_none : (xs : List ℕ) → pair xs [] ≡ []
pair_with_none [] = refl
pair_with_none (x ∷ xs) = refl

module _ (b : ℕ) (v w : Row) where
  pub rest_cons : (i j : ℕ) → i < no_index → only_in v w i ≡ true → j < no_index → only_in w v j ≡ true
      → rest_shifts b v w i j ≡ shift_at b i j ∷ rest_shifts b v w (suc i) (suc j)
  unfolding rest_shifts
  rest_cons i j q e r f = rw (only_cons v w i q e, only_cons w v j r f)

  pub shifting_begins : (owners : List ℕ) (before : Plan) (i j : ℕ) → before ≡ plan_of (moves_in before)
      → i ≡ least_only v w 0 → j ≡ least_only w v 0 → Shifting b v w owners before before i j
  unfolding rest_shifts level_shifts spare_index
  shifting_begins owners before i j whole e f =
      let left = only_from_least v w 0 (omega arith) in
      let places = only_from_least w v 0 (omega arith) in
      rw (e, f)
      (record {
        next_left = least_found v w 0 (omega arith);
        next_place = least_found w v 0 (omega arith);
        moves = rw (left, places);
        count = rw (left, places);
        whole = whole;
        spare = rw (left, places);
      })

module _ {b : ℕ} {v w : Row} {owners : List ℕ} {before plan : Plan} {i j : ℕ} (s : Shifting b v w owners before plan i j) where
  pub room_left : i < no_index → j < no_index → plan.n < before.n + length (level_shifts b v w)
  room_left q r = rw (← s.count, rest_cons b v w i j q (s.next_left.passes q) r (s.next_place.passes r)) (omega arith)

  pub shifting_goes_on : (after : Plan) (i' j' : ℕ) → before.n + length (level_shifts b v w) ≤ 7 → i < no_index → j < no_index
      → after ≡ with_move plan (move_of owners (shift_at b i j))
      → i' ≡ least_only v w (i + 1) → j' ≡ least_only w v (j + 1) → Shifting b v w owners before after i' j'
  unfolding rest_shifts
  shifting_goes_on after i' j' few q r written e f =
      let left : only_from v w i' ≡ only_from v w (suc i) = rw (e, add-one) (only_from_least v w (suc i) (omega arith)) in
      let places : only_from w v j' ≡ only_from w v (suc j) = rw (f, add-one) (only_from_least w v (suc j) (omega arith)) in
      let opened = rest_cons b v w i j q (s.next_left.passes q) r (s.next_place.passes r) in
      let rest : rest_shifts b v w i' j' ≡ rest_shifts b v w (suc i) (suc j) = rw (left, places) in
      record {
        next_left = rw e (from_zero (least_found v w (i + 1) (omega arith)));
        next_place = rw f (from_zero (least_found w v (j + 1) (omega arith)));
        moves = rw (moves_in_plan_of after longer pushed, rest, append_assoc) (rw opened at s.moves);
        count = rw (one_more, rest) (omega (arith, rw opened at s.count));
        whole = made_of_its_moves after longer pushed;
        spare =
            rw (left, places)
            (rw (only_cons v w i q (s.next_left.passes q), only_cons w v j r (s.next_place.passes r)) at s.spare);
      }
    where
      longer : List Move
      longer = moves_in plan ++ (move_of owners (shift_at b i j) ∷ [])

      pushed : after ≡ plan_of longer
      pushed = written ∙ pushed_at_end plan (move_of owners (shift_at b i j)) (omega (arith, few, room_left q r)) s.whole

      one_more : after.n ≡ plan.n + 1
      one_more =
          let appended = length-append (moves_in plan) (move_of owners (shift_at b i j) ∷ []) in
          omega (arith, count_in_plan_of after longer pushed, appended, count_in_plan_of plan (moves_in plan) s.whole)

  pub shifting_ends : (no_index ≤ i) ⊎ (no_index ≤ j) → LevelShifted b v w owners before (record { plan = plan; spare = j })
  unfolding rest_shifts
  shifting_ends (inl q) =
      let e : i ≡ no_index = omega (arith, s.next_left.fits) in
      let left : only_from v w i ≡ [] = rw e (only_none v w) in
      record {
        plan = s.whole ∙ ap plan_of (rw (left, append-nil) at s.moves);
        spare = sym (found_is_least w v j s.next_place) ∙ (rw left at s.spare);
      }
  shifting_ends (inr q) =
      let e : j ≡ no_index = omega (arith, s.next_place.fits) in
      let places : only_from w v j ≡ [] = rw e (only_none w v) in
      let none = pair_with_none (nodes_at b (only_from v w i)) in
      record {
        plan = s.whole ∙ ap plan_of (rw (places, none, append-nil) at s.moves);
        spare = e ∙ (rw places at s.spare);
      }

-- ---- a row that stays as it was

keep_none : (p : ℕ → Bool) (xs : List ℕ) → ((x : ℕ) → p x ≡ false) → keep p xs ≡ []
keep_none p [] e = refl
keep_none p (x ∷ xs) e = rw (e x) (keep_none p xs e)

only_in_itself : (v : Row) → only_from v v 0 ≡ []
unfolding only_from
only_in_itself v = keep_none (only_in v v) (up_from 0 no_index) (λ i. and-not_self (row_holds v i))

pub unshifted : (b : ℕ) (v w : Row) (owners : List ℕ) (plan : Plan) → plan ≡ plan_of (moves_in plan) → v ≡ w
    → LevelShifted b v w owners plan (record { plan = plan; spare = no_index })
unfolding level_shifts spare_index
unshifted b v w owners plan whole e =
    rw (← e)
    (let none = only_in_itself v in
    record { plan = rw (none, append-nil) whole; spare = rw none })
