-- What the first refusal decides, and the length of a table that has passed.
use mathlib.Core.Path.{◌≡◌, refl}
use mathlib.Core.Bool.{not}
use mathlib.Core.List.{List, [], ◌∷◌}
use Prim.Native.Nat.{ℕ, zero, suc}
use native.Mathlib.Omega.{arith}
use lib.Dec.{eqb, ltb}
use lib.ListN.{length}
use Rattle.rules.specs.Step.{Outcome, refused, check, first, reserve_checks, unless}
use Rattle.rules.proofs.Checks.{rest_zero, length_passed}

-- a call whose first refusal is k
pub refused_unless : (k : ℕ) (T : List ℕ) (o : Outcome) → ¬ (k ≡ 0) → refused k T ≡ unless k T o
refused_unless zero T o ne = absurd (ne refl)
refused_unless (suc k) T o ne = refl

-- where neither 1 nor 2 applies, the table has 4,096 entries
pub table_length : (h : ℕ) (T : List ℕ) → first (reserve_checks h T) ≡ 0 → length T ≡ 4096
table_length h T passed = length_passed T [] (rest_zero 1 (ltb 12 h) (check 2 (not (eqb (length T) 4096)) ∷ []) (omega arith) passed)
