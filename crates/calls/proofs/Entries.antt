-- An answer 0 shows that the arguments were as they should be: the table has 4,096 entries, and the move list as many as the call takes at least.
-- So every move goes into the list.
use mathlib.Core.Path.{◌≡◌, refl}
use mathlib.Core.Bool.{not}
use mathlib.Core.List.{List, ◌∷◌}
use Prim.Native.Nat.{ℕ, zero, suc, ◌≤◌, zero-le}
use native.Mathlib.Omega.{arith}
use lib.ListN.{length}
use Rattle.table.specs.Table.{in_order?}
use Rattle.rules.specs.Call.{Call, entries_of, least_entries}
use Rattle.rules.specs.Step.{Outcome, check, first, holdings, checks, accepted, unless, step}
use Rattle.rules.specs.Value.{call_of}
use Rattle.rules.specs.declared.Call.{Call as Arguments}
use Rattle.rules.specs.declared.Call.TheVariants.{GrantLevel, GrantPages, Release, Grow}
use Rattle.rules.proofs.Cases.{both_zero}
use Rattle.rules.proofs.Checks.{valid_entries}
use Rattle.calls.proofs.Calling.{arguments, arguments_numbered, valid, ready}

pub entries_of_call : (c : Arguments) (m : ℕ) → entries_of (call_of c m) ≡ m
entries_of_call (GrantLevel t l) m = refl
entries_of_call (GrantPages t p) m = refl
entries_of_call (Release t) m = refl
entries_of_call (Grow t l) m = refl

pub zero_passes : (k : ℕ) (T : List ℕ) (o : Outcome) → (unless k T o).answer ≡ 0 → k ≡ 0
zero_passes zero T o e = refl
zero_passes (suc k) T o e = e

module _ (h : ℕ) (T : List ℕ) (c : Call) (none : first (checks h T c) ≡ 0) where
  passed : first (arguments h T c) ≡ 0
  passed = (both_zero (arguments h T c) (check 7 (not (in_order? h T)) ∷ holdings h T c) (arguments_numbered h T c) none).0

  passed_table : length T ≡ 4096
  passed_table = (ready h T c passed).entries

  passed_entries : least_entries c ≤ entries_of c
  passed_entries = valid_entries h c (valid h T c passed)

module _ (h : ℕ) (T : List ℕ) (c : Call) where
  pub done_table : (step h T c).answer ≡ 0 → length T ≡ 4096
  unfolding step
  done_table e = passed_table h T c (zero_passes (first (checks h T c)) T (accepted h T c) e)

  -- a refused call has no moves, and an accepted one has entries for them
  pub moves_within : length (step h T c).moves ≤ least_entries c → length (step h T c).moves ≤ entries_of c
  unfolding step
  moves_within = go (first (checks h T c)) (passed_entries h T c)
    where
      go : (k : ℕ) → (k ≡ 0 → least_entries c ≤ entries_of c) → length (unless k T (accepted h T c)).moves ≤ least_entries c
          → length (unless k T (accepted h T c)).moves ≤ entries_of c
      go zero enough few = omega (arith, enough refl)
      go (suc k) enough few = zero-le
