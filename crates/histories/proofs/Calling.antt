-- A record after the open is a call, and at a height up to 12 no call answers 1: so each has a line, and the listing goes on.
use mathlib.Core.Path.{◌≡◌, refl, ◌∙◌}
use mathlib.Core.List.{List, [], ◌∷◌}
use Prim.Native.Nat.{ℕ, ◌<◌}
use native.Mathlib.Omega.{arith}
use borrow.Author.Tests.{ne_eqb}
use Rattle.std.specs.Prelude.{Some, Ok}
use Rattle.journal.specs.declared.Record.{Record}
use Rattle.journal.specs.Format.{kind_of}
use Rattle.journal.specs.Reader.{found_record, read_at}
use Rattle.journal.specs.Journal.{CanStand}
use Rattle.rules.specs.Call.{grant_level, grant_pages, release, grow}
use Rattle.admission.specs.Call.{State as Reserve, Call, direct, join, admit, withdraw}
use Rattle.admission.specs.Step.{step}
use Rattle.replay.specs.Replay.{State, outcome_of, height_after, listed, turn}
use Rattle.replay.proofs.Turns.{turn_at}
use Rattle.histories.specs.Listing.{call_of}

-- ---- the call of a record

-- the record r stands for the call c
pub record Calling (r : Record) (c : Call) : Type 0 where
  pub calls : call_of r ≡ c ∷ []
  pub outcome : (h : ℕ) (S : Reserve) → outcome_of h S r ≡ step h S c
  pub height : (h : ℕ) → height_after h r ≡ h

-- where an open cannot stand, every record is a call
pub calling : (r : Record) (at : ℕ) → 0 < at → CanStand (kind_of r) at → (c : Call) × Calling r c
calling (Record.Open height) at q s = absurd (omega arith)
calling (Record.GrantLevel tenant level) at q s =
    (direct (grant_level tenant level 4), record { calls = refl; outcome = λ h S. refl; height = λ h. refl })
calling (Record.GrantPages tenant pages) at q s =
    (direct (grant_pages tenant pages 4), record { calls = refl; outcome = λ h S. refl; height = λ h. refl })
calling (Record.Release tenant) at q s = (direct (release tenant 4), record { calls = refl; outcome = λ h S. refl; height = λ h. refl })
calling (Record.Grow tenant level) at q s = (direct (grow tenant level 7), record { calls = refl; outcome = λ h S. refl; height = λ h. refl })
calling (Record.Join tenant level) at q s = (join tenant level, record { calls = refl; outcome = λ h S. refl; height = λ h. refl })
calling Record.Admit at q s = (admit 4, record { calls = refl; outcome = λ h S. refl; height = λ h. refl })
calling (Record.Withdraw tenant) at q s = (withdraw tenant, record { calls = refl; outcome = λ h S. refl; height = λ h. refl })

-- ---- its turn

-- a record whose outcome does not answer 1 has its line
pub turn_of_record : (journal : List ℕ) (s : State) (r : Record) (next : ℕ) → read_at journal s.offset ≡ Ok (Some (found_record r next))
    → ¬ ((outcome_of s.height s.reserve r).answer ≡ 1) → turn journal s ≡ listed s r next (outcome_of s.height s.reserve r)
turn_of_record journal s r next e other =
    turn_at journal s (Ok (Some (found_record r next))) e ∙ rw (ne_eqb (outcome_of s.height s.reserve r).answer 1 other)
