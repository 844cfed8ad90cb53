-- What a call's arguments alone decide, and what they leave to the table and the line.
use mathlib.Core.Path.{◌≡◌, sym, ◌∙◌}
use mathlib.Core.Bool.{Bool, true, false, not, ◌&&◌, and-false}
use mathlib.Core.List.{List, [], ◌∷◌, ◌++◌}
use Prim.Native.Nat.{ℕ, ◌≤◌, ◌<◌}
use native.Mathlib.Omega.{arith}
use borrow.Author.Tests.{ltb-false, le-ltb, eqb-true, eq-eqb, not-false}
use lib.Dec.{eqb, ltb}
use Rattle.table.specs.Table.{in_order?}
use Rattle.line.specs.Order.{line_in_order?}
use Rattle.rules.specs.Step.{Check, check, first, length_checks}
use Rattle.rules.proofs.Checks.{Numbered, first_after_none, first_stands, not_applied, rest_zero}
use Rattle.rules.proofs.Cases.{both_zero}
use Rattle.admission.specs.Call.{State}
use Rattle.admission.specs.Step.{lent_checks, order_check}

-- a number found among xs is the first of all
pub found_first : (xs ys : List Check) (k : ℕ) → k ≡ first xs → ¬ (k ≡ 0) → k ≡ first (xs ++ ys)
found_first xs ys k asked found = asked ∙ sym (first_stands xs ys (λ z. found (asked ∙ z)))

pub lent_numbered : (h n m : ℕ) → Numbered (lent_checks h n m)
lent_numbered h n m = (omega arith, (omega arith, (omega arith, tt)))

-- a height and lengths to which neither 1 nor 2 applies
pub record Lengths (h n m : ℕ) : Type 0 where
  pub height : h ≤ 12
  pub entries : n ≡ 4096
  pub numbers : m ≡ 193

pub lengths_passed : (h n m : ℕ) (ys : List Check) → first (lent_checks h n m ++ ys) ≡ 0 → Lengths h n m
lengths_passed h n m ys e =
    let short = not (eqb n 4096) in
    let other = not (eqb m 193) in
    let second = rest_zero 1 (ltb 12 h) (check 2 short ∷ check 2 other ∷ ys) (omega arith) e in
    let third = rest_zero 2 short (check 2 other ∷ ys) (omega arith) second in
    record {
      height = ltb-false 12 h (not_applied 1 (ltb 12 h) (check 2 short ∷ check 2 other ∷ ys) (omega arith) e);
      entries = eqb-true n 4096 (not-false (eqb n 4096) (not_applied 2 short (check 2 other ∷ ys) (omega arith) second));
      numbers = eqb-true m 193 (not-false (eqb m 193) (not_applied 2 other ys (omega arith) third));
    }

-- 1 and 2 of the table, tested again where table and line have passed them, change nothing
pub lengths_tested_again : (h n m : ℕ) (ys : List Check) → first (lent_checks h n m) ≡ 0
    → first (length_checks h n ++ ys) ≡ first (lent_checks h n m ++ ys)
lengths_tested_again h n m ys e =
    let l = lengths_passed h n m [] e in
    rw (le-ltb 12 h l.height, eq-eqb n 4096 l.entries, eq-eqb m 193 l.numbers)

-- table and line are both in order
abbrev pub ordered : ℕ → State → Bool
ordered h S = in_order? h S.table && line_in_order? h S.table S.line

pub disorder_of_line : (h : ℕ) (S : State) → line_in_order? h S.table S.line ≡ false → ordered h S ≡ false
disorder_of_line h S e = rw e (and-false (in_order? h S.table))

-- where none of the arguments' checks xs applies, the order of table and line decides, and then the rest
module _ (h : ℕ) (S : State) (xs rest : List Check) (numbered : Numbered xs) where
  module _ (none : first xs ≡ 0) where
    pub disorder_decides : ordered h S ≡ false → 7 ≡ first (xs ++ order_check h S ∷ rest)
    disorder_decides e = rw (first_after_none xs (order_check h S ∷ rest) numbered none, e)

    pub rest_decides : ordered h S ≡ true → first (xs ++ order_check h S ∷ rest) ≡ first rest
    rest_decides e = first_after_none xs (order_check h S ∷ rest) numbered none ∙ rw e

  -- and where none of all applies, each has been passed
  module _ (none : first (xs ++ order_check h S ∷ rest) ≡ 0) where
    both : (first xs ≡ 0) × (first (order_check h S ∷ rest) ≡ 0)
    both = both_zero xs (order_check h S ∷ rest) numbered none

    pub arguments_passed : first xs ≡ 0
    arguments_passed = both.0

    pub order_passed : ordered h S ≡ true
    order_passed = not-false (ordered h S) (not_applied 7 (not (ordered h S)) rest (omega arith) both.1)

    pub rest_passed : first rest ≡ 0
    rest_passed = rest_zero 7 (not (ordered h S)) rest (omega arith) both.1

-- a tenant's number that has passed 4
pub tenant_passed : (h n m t : ℕ) (ys : List Check) → first (lent_checks h n m ++ check 4 (ltb 4095 t) ∷ ys) ≡ 0 → t < 4096
tenant_passed h n m t ys e =
    let later = (both_zero (lent_checks h n m) (check 4 (ltb 4095 t) ∷ ys) (lent_numbered h n m) e).1 in
    omega (arith, ltb-false 4095 t (not_applied 4 (ltb 4095 t) ys (omega arith) later))
