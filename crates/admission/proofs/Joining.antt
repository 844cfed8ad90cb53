-- What a join and a withdrawal ask of the table and the line, and what they know of them where none of their checks applies.
use mathlib.Core.Path.{◌≡◌, sym, ap, ◌∙◌}
use mathlib.Core.Bool.{true, false, not, cond}
use mathlib.Core.List.{List, [], ◌∷◌, ◌++◌}
use Prim.Native.Nat.{ℕ, ◌<◌}
use native.Mathlib.Omega.{arith}
use borrow.Author.Tests.{ltb-true, leb-false, not-false}
use lib.Dec.{ltb, leb}
use lib.ListN.{length}
use Rattle.tree.proofs.Sets.{both_right}
use Rattle.table.specs.Table.{node_at, in_order?}
use Rattle.line.specs.Line.{line_of, waiting_in, waiting_count}
use Rattle.line.specs.Order.{waits, LineInOrder, line_in_order?}
use Rattle.line.specs.Changes.{leave, place_of, without}
use Rattle.line.proofs.Numbers.{length_standing}
use Rattle.line.proofs.Ordered.{decides_line}
use Rattle.line.proofs.Places.{waits_by_place, withdraw_by_place}
use Rattle.rules.specs.Step.{Check, check, first, level_check}
use Rattle.rules.proofs.Checks.{Numbered, not_applied, rest_zero}
use Rattle.admission.specs.Call.{State, join, withdraw}
use Rattle.admission.specs.Step.{reserve_checks, checks}
use Rattle.admission.proofs.Arguments.{Lengths, lengths_passed, tenant_passed, ordered, rest_decides, arguments_passed, order_passed, rest_passed}

-- the line of a state that has passed 2 and 7
pub line_ordered : (h : ℕ) (S : State) → length S.line ≡ 193 → ordered h S ≡ true → LineInOrder h S.table S.line
line_ordered h S long e =
    (decides_line h S.table S.line long).0 (both_right (in_order? h S.table) (line_in_order? h S.table S.line) e)

-- ---- a join of tenant t for level l: 1 to 5, and what comes after 7

abbrev pub join_arguments : ℕ → State → ℕ → ℕ → List Check
join_arguments h S t l = reserve_checks h S ++ check 4 (ltb 4095 t) ∷ level_check h l ∷ []

abbrev pub join_holdings : State → ℕ → List Check
join_holdings S t =
    check 8 (ltb 0 (node_at S.table t))
    ∷ check 18 (waits t (waiting_in S.line))
    ∷ check 17 (leb 64 (length (waiting_in S.line)))
    ∷ []

pub join_numbered : (h : ℕ) (S : State) (t l : ℕ) → Numbered (join_arguments h S t l)
join_numbered h S t l = (omega arith, (omega arith, (omega arith, (omega arith, (omega arith, tt)))))

module _ (h : ℕ) (S : State) (t l : ℕ) (none : first (join_arguments h S t l) ≡ 0) where
  pub join_lengths : Lengths h (length S.table) (length S.line)
  join_lengths = lengths_passed h (length S.table) (length S.line) (check 4 (ltb 4095 t) ∷ level_check h l ∷ []) none

  pub join_tenant : t < 4096
  join_tenant = tenant_passed h (length S.table) (length S.line) t (level_check h l ∷ []) none

  -- to one that holds nothing and does not wait, only a full line is a refusal
  pub join_by_count : ordered h S ≡ true → node_at S.table t ≡ 0 → waits t (waiting_in S.line) ≡ false
      → first (checks h S (join t l)) ≡ cond (leb 64 (waiting_count S.line)) 17 0
  join_by_count e holds_none out =
      rest_decides h S (join_arguments h S t l) (join_holdings S t) (join_numbered h S t l) none e
      ∙ rw (holds_none, out) (ap (λ (n : ℕ). cond (leb 64 n) 17 0) (length_standing S.line 0 (waiting_count S.line)))

module _ (h : ℕ) (S : State) (t l : ℕ) (none : first (checks h S (join t l)) ≡ 0) where
  pub line_to_join : LineInOrder h S.table S.line
  line_to_join =
      let passed = arguments_passed h S (join_arguments h S t l) (join_holdings S t) (join_numbered h S t l) none in
      line_ordered h S (join_lengths h S t l passed).numbers
      (order_passed h S (join_arguments h S t l) (join_holdings S t) (join_numbered h S t l) none)

  pub place_to_join : waiting_count S.line < 64
  place_to_join =
      let W = waiting_in S.line in
      let full = check 17 (leb 64 (length W)) ∷ [] in
      let passed = rest_passed h S (join_arguments h S t l) (join_holdings S t) (join_numbered h S t l) none in
      let past_8 = rest_zero 8 (ltb 0 (node_at S.table t)) (check 18 (waits t W) ∷ full) (omega arith) passed in
      let past_18 = rest_zero 18 (waits t W) full (omega arith) past_8 in
      let few = leb-false 64 (length W) (not_applied 17 (leb 64 (length W)) [] (omega arith) past_18) in
      omega (arith, length_standing S.line 0 (waiting_count S.line))

-- ---- a withdrawal of tenant t: 1 to 4, and what comes after 7

abbrev pub withdraw_arguments : ℕ → State → ℕ → List Check
withdraw_arguments h S t = reserve_checks h S ++ check 4 (ltb 4095 t) ∷ []

abbrev pub withdraw_holdings : State → ℕ → List Check
withdraw_holdings S t = check 9 (not (waits t (waiting_in S.line))) ∷ []

pub withdraw_numbered : (h : ℕ) (S : State) (t : ℕ) → Numbered (withdraw_arguments h S t)
withdraw_numbered h S t = (omega arith, (omega arith, (omega arith, (omega arith, tt))))

pub withdraw_lengths : (h : ℕ) (S : State) (t : ℕ) → first (withdraw_arguments h S t) ≡ 0 → Lengths h (length S.table) (length S.line)
withdraw_lengths h S t none = lengths_passed h (length S.table) (length S.line) (check 4 (ltb 4095 t) ∷ []) none

module _ (h : ℕ) (S : State) (t : ℕ) (none : first (checks h S (withdraw t)) ≡ 0) where
  pub line_to_leave : LineInOrder h S.table S.line
  line_to_leave =
      let passed = arguments_passed h S (withdraw_arguments h S t) (withdraw_holdings S t) (withdraw_numbered h S t) none in
      line_ordered h S (withdraw_lengths h S t passed).numbers
      (order_passed h S (withdraw_arguments h S t) (withdraw_holdings S t) (withdraw_numbered h S t) none)

  waits_to_leave : waits t (waiting_in S.line) ≡ true
  waits_to_leave =
      let W = waiting_in S.line in
      let passed = rest_passed h S (withdraw_arguments h S t) (withdraw_holdings S t) (withdraw_numbered h S t) none in
      not-false (waits t W) (not_applied 9 (not (waits t W)) [] (omega arith) passed)

  pub place_to_leave : place_of t (waiting_in S.line) < waiting_count S.line
  place_to_leave =
      let W = waiting_in S.line in
      let before_last = ltb-true (place_of t W) (length W) (sym (waits_by_place t W) ∙ waits_to_leave) in
      omega (arith, length_standing S.line 0 (waiting_count S.line))

  pub place_left : line_of (without (place_of t (waiting_in S.line)) (waiting_in S.line)) ≡ line_of (leave (λ w. w) t (waiting_in S.line))
  place_left = ap line_of (sym (withdraw_by_place t (waiting_in S.line) waits_to_leave))
