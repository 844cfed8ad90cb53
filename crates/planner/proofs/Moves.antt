-- The moves of a call with a line are those of some call without one, or none. So they are few, and go into the list.
use mathlib.Core.Path.{◌≡◌, refl, ◌∙◌}
use mathlib.Core.Bool.{Bool, true, false, not, cond, ◌&&◌, ◌||◌}
use mathlib.Core.List.{List, [], ◌∷◌, ◌++◌}
use mathlib.Core.Option.{Option, some, none}
use Prim.Native.Nat.{ℕ, zero, suc, ◌≤◌, zero-le}
use native.Mathlib.Omega.{arith}
use lib.Dec.{eqb, ltb}
use lib.ListN.{length}
use Rattle.table.specs.Table.{node_at, in_order?}
use Rattle.table.specs.declared.Move.{Move}
use Rattle.sizes.specs.Level.{level_for}
use Rattle.line.specs.Line.{Waiting, waiting_in}
use Rattle.line.specs.Order.{waits, line_in_order?}
use Rattle.line.specs.Changes.{barred, choose}
use Rattle.rules.specs.Call.{Call as TableCall, grant_level, grant_pages, release, grow, entries_of}
use Rattle.rules.specs.Step.{Outcome as TableOutcome, Check, check, first, validity, repeats}
use Rattle.rules.specs.Step.{reserve_checks as table_reserve_checks, grant_holdings as table_holdings, checks as table_checks}
use Rattle.rules.specs.Step.{unless as table_unless, accepted as table_accepted, step as table_step}
use Rattle.rules.specs.Value.{call_of}
use Rattle.rules.proofs.Checks.{Numbered, validity_numbered, first_after_none}
use Rattle.rules.proofs.Cases.{both_zero}
use Rattle.calls.proofs.Entries.{entries_of_call, moves_within}
use Rattle.rules.proofs.Few as Few
use Rattle.rules.proofs.OneKind.{at_most_7}
use Rattle.admission.specs.Call.{State, direct, admit}
use Rattle.admission.specs.Step.{order_check, no_room, grant_holdings, grant_checks, checks, fits, with_line, line_after, admission, unless, step}
use Rattle.admission.specs.Value.{requested}
use Rattle.admission.specs.declared.Request.{Request}
use Rattle.admission.specs.declared.Request.TheVariants.{Direct, Admit}

-- ---- a grant that passes with a line passes without one

-- 1 and 2
lengths_without : (high table line : Bool) (cs ds : List Check) → (first cs ≡ 0 → first ds ≡ 0)
    → first (check 1 high ∷ check 2 table ∷ check 2 line ∷ cs) ≡ 0 → first (check 1 high ∷ check 2 table ∷ ds) ≡ 0
lengths_without true table line cs ds f e = e
lengths_without false true line cs ds f e = e
lengths_without false false true cs ds f e = absurd (omega (arith, e))
lengths_without false false false cs ds f e = f e

-- 3 to 6
past : (cs xs ys : List Check) → Numbered cs → (first xs ≡ 0 → first ys ≡ 0) → first (cs ++ xs) ≡ 0 → first (cs ++ ys) ≡ 0
past cs xs ys n f e = let z = both_zero cs xs n e in first_after_none cs ys n z.0 ∙ f z.1

-- 7, 8, 18 and 10
holdings_without : (table line again holds waiting bars full : Bool)
    → first (check 7 (not (table && line)) ∷ cond again [] (check 8 holds ∷ check 18 waiting ∷ check 10 (bars || full) ∷ [])) ≡ 0
    → first (check 7 (not table) ∷ cond again [] (check 8 holds ∷ check 10 full ∷ [])) ≡ 0
holdings_without false line again holds waiting bars full e = e
holdings_without true false again holds waiting bars full e = absurd (omega (arith, e))
holdings_without true true true holds waiting bars full e = refl
holdings_without true true false true waiting bars full e = e
holdings_without true true false false true bars full e = absurd (omega (arith, e))
holdings_without true true false false false true full e = absurd (omega (arith, e))
holdings_without true true false false false false full e = e

module _ (h : ℕ) (S : State) where
  module _ (c : TableCall) (t l : ℕ) where
    abbrev rest_with : List Check
    rest_with = order_check h S ∷ grant_holdings h S t l

    abbrev rest_without : List Check
    rest_without = check 7 (not (in_order? h S.table)) ∷ table_holdings h S.table t l

    grant_without : first (grant_checks h S c t l) ≡ 0 → first (table_reserve_checks h S.table ++ validity h c ++ rest_without) ≡ 0
    grant_without =
        let T = S.table in
        let W = waiting_in S.line in
        lengths_without (ltb 12 h) (not (eqb (length T) 4096)) (not (eqb (length S.line) 193)) (validity h c ++ rest_with)
        (validity h c ++ rest_without)
        (past (validity h c) rest_with rest_without (validity_numbered h c)
        (holdings_without (in_order? h T) (line_in_order? h T S.line) (repeats h T t l) (ltb 0 (node_at T t)) (waits t W) (barred W)
        (no_room h T l)))

  -- a release and a growth take no line
  passes_without : (c : TableCall) → first (checks h S (direct c)) ≡ 0 → first (table_checks h S.table c) ≡ 0
  passes_without (grant_level t l m) = grant_without (grant_level t l m) t l
  passes_without (grant_pages t p m) = grant_without (grant_pages t p m) t (level_for h p)
  passes_without (release t m) = λ e. e
  passes_without (grow t l m) = λ e. e

  -- ---- what holds of no moves, and of those of every call without a line on as many entries, holds of those of a call with one

  module _ (P : List Move → Type 0) (nobody : P []) where
    of_unless : (n k : ℕ) (o : TableOutcome) (L : List ℕ) → (n ≡ 0 → k ≡ 0) → P (table_unless k S.table o).moves
        → P (unless n S (with_line o none L)).moves
    of_unless zero zero o L f p = p
    of_unless zero (suc k) o L f p = absurd (omega (arith, f refl))
    of_unless (suc n) k o L f p = nobody

    of_direct : (c : TableCall) → P (table_step h S.table c).moves → P (step h S (direct c)).moves
    unfolding step table_step
    of_direct c =
        of_unless (first (checks h S (direct c))) (first (table_checks h S.table c)) (table_accepted h S.table c) (line_after h S c)
        (passes_without c)

    of_admit : (m : ℕ) → ((t l : ℕ) → P (table_step h S.table (grant_level t l m)).moves) → P (step h S (admit m)).moves
    unfolding step
    of_admit m p = go (first (checks h S (admit m))) (choose (fits h S.table) (waiting_in S.line))
      where
        go : (n : ℕ) (o : Option Waiting) → P (unless n S (admission h S m o)).moves
        go zero none = nobody
        go zero (some w) = p w.tenant w.level
        go (suc n) o = nobody

    of_request : (c : Request) (m : ℕ) → ((d : TableCall) → entries_of d ≡ m → P (table_step h S.table d).moves)
        → P (step h S (requested c m)).moves
    of_request (Direct c) m p = of_direct (call_of c m) (p (call_of c m) (entries_of_call c m))
    of_request Admit m p = of_admit m (λ t l. p (grant_level t l m) refl)

  pub moves_few : (c : Request) (m : ℕ) → length (step h S (requested c m)).moves ≤ 7
  moves_few c m =
      of_request (λ ms. length ms ≤ 7) zero-le c m (λ d _. omega (arith, Few.moves_few h S.table d, at_most_7 d))

  pub moves_fit : (c : Request) (m : ℕ) → length (step h S (requested c m)).moves ≤ m
  moves_fit c m =
      of_request (λ ms. length ms ≤ m) zero-le c m (λ d e. omega (arith, e, moves_within h S.table d (Few.moves_few h S.table d)))
