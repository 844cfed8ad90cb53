-- Every call, on every table, moves at most as many as the fewest entries that it takes.
use mathlib.Core.Path.{◌≡◌}
use mathlib.Core.List.{List}
use Prim.Native.Nat.{ℕ, ◌≤◌, zero-le}
use native.Mathlib.Decide.{ℕ_discrete}
use lib.ListN.{length}
use Rattle.rules.specs.Call.{Call, least_entries}
use Rattle.rules.specs.Step.{step}
use Rattle.rules.specs.History.{in_table}
use Rattle.rules.proofs.Accepted.{the_kept}
use Rattle.rules.proofs.Box.{report}
use Rattle.rules.proofs.Given.{step_refuses}

pub moves_few : (h : ℕ) (T : List ℕ) (c : Call) → length (step h T c).moves ≤ least_entries c
moves_few h T c = go (ℕ_discrete (step h T c).answer 0)
  where
    go : Dec ((step h T c).answer ≡ 0) → length (step h T c).moves ≤ least_entries c
    go (yes e) = (report h T (in_table h T) (the_kept h T c e) c).few
    go (no ne) = rw (step_refuses h T c ne) zero-le
