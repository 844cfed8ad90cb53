-- What the inner functions of a request ask and give.
use Rattle.std.specs.Prelude.{◌≡◌, true, cond, List, [], ◌∷◌, ◌++◌, ℕ, eqb, length}
use Rattle.table.specs.Table.{node_at}
use Rattle.line.specs.Line.{Waiting, waiting_in}
use Rattle.line.specs.Order.{waits, line_in_order?}
use Rattle.line.specs.Changes.{barred}
use Rattle.rules.specs.Call.{Call, tenant_of}
use Rattle.rules.specs.Step.{Check, check, first, validity}
use Rattle.calls.specs.Changes.{Looked}
use Rattle.calls.specs.declared.change.Look.{Look}
use Rattle.admission.specs.Call.{State}
use Rattle.admission.specs.Step.{reserve_checks}
use Rattle.admission.specs.Inner.{argument_checks}
use Rattle.admission.specs.declared.Request.{Request}

-- a request whose arguments have passed, with seven entries, enough for any, on a table in order, of which a look is at hand
pub record Prepared (h : ℕ) (S : State) (q : Request) (k : Look) : Type 0 where
  pub arguments : first (argument_checks h (length S.table) (length S.line) q 7) ≡ 0
  pub looked : Looked h S.table k

-- 18 and 10, as far as the line alone decides them, of a direct grant to tenant t, who holds nothing
abbrev pub line_checks : ℕ → List Waiting → List Check
line_checks t W = check 18 (waits t W) ∷ check 10 (barred W) ∷ []

-- the number of the first that applies, or 0 for one that holds something
abbrev pub line_number : State → ℕ → ℕ
line_number S t = cond (eqb (node_at S.table t) 0) (first (line_checks t (waiting_in S.line))) 0

-- the grant c has passed what its arguments and the line decide
pub record Unopposed (h : ℕ) (S : State) (c : Call) : Type 0 where
  pub arguments : first (reserve_checks h S ++ validity h c) ≡ 0
  pub line : line_in_order? h S.table S.line ≡ true
  pub clear : line_number S (tenant_of c) ≡ 0
