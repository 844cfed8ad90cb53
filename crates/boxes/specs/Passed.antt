-- How often one who waits is passed, said a second time: over the calls, by who got a block and who joined later, without the line and without the
-- book's `passes`. Document 02, L7.
use Rattle.std.specs.Prelude.{◌≡◌, Bool, false, ◌&&◌, List, [], ◌∷◌, ℕ, zero, suc, ◌+◌, ◌≤◌, eqb}
use Rattle.std.proofs.Math.Option.{Option, some, none}
use Rattle.tree.specs.Held.{one_if}
use Rattle.rules.specs.Call.{tenant_of}
use Rattle.rules.specs.History.{gave_block, in_table}
use Rattle.admission.specs.Call.{State, Call, direct, join, admit, withdraw}
use Rattle.admission.specs.Step.{step}
use Rattle.passes.specs.Events.{among}
use Rattle.boxes.specs.History.{History, state_after}

-- the call c on S gave tenant u a block: u had none in the table, and has one afterwards
abbrev pub gave_to : ℕ → State → Call → ℕ → Bool
gave_to h S c u = gave_block (in_table h S.table u) (in_table h (step h S c).state.table u)

-- whether the call c on S is a grant that passes one who waits: a direct one that gives a block, or an admit of one of those who joined later
unfoldable pub goes_past : ℕ → State → List ℕ → Call → Bool
goes_past h S later (direct c) = gave_to h S (direct c) (tenant_of c)
goes_past h S later (join t l) = false
goes_past h S later (admit m) = by_name (step h S (admit m)).named
  where
    by_name : Option ℕ → Bool
    by_name none = false
    by_name (some u) = gave_to h S (admit m) u && among u later
goes_past h S later (withdraw t) = false

-- those who joined later, after the call c on S too
unfoldable pub later_after : ℕ → State → List ℕ → Call → List ℕ
later_after h S later (direct c) = later
later_after h S later (join t l) = by_answer (step h S (join t l)).answer
  where
    by_answer : ℕ → List ℕ
    by_answer zero = t ∷ later
    by_answer (suc n) = later
later_after h S later (admit m) = later
later_after h S later (withdraw t) = later

-- how many of the calls, from S on, are grants that pass one who joined before those in `later`, and waits
unfoldable pub grants_past : ℕ → State → List ℕ → List Call → ℕ
grants_past h S later [] = 0
grants_past h S later (c ∷ cs) = one_if (goes_past h S later c) + grants_past h (step h S c).state (later_after h S later c) cs

-- whether tenant t leaves the line by the call c on S: its withdrawal is done, or an admit names it
unfoldable pub leaves_by : ℕ → State → ℕ → Call → Bool
leaves_by h S t (direct c) = false
leaves_by h S t (join u l) = false
leaves_by h S t (admit m) = by_name (step h S (admit m)).named
  where
    by_name : Option ℕ → Bool
    by_name none = false
    by_name (some u) = eqb u t
leaves_by h S t (withdraw u) = eqb u t && eqb (step h S (withdraw u)).answer 0

-- tenant t stays in line in the course of the calls from S on
unfoldable pub Stays : ℕ → State → ℕ → List Call → Type 0
Stays h S t [] = Unit {0}
Stays h S t (c ∷ cs) = (leaves_by h S t c ≡ false) × Stays h (step h S c).state t cs

-- The promise: after any history, when a tenant has joined the line, at most eight grants pass it in the course of any calls by which it does not
-- leave.
abbrev pub SeldomPassed : Type 0
SeldomPassed = (h : ℕ) (H : History h) (t l : ℕ) → (step h (state_after h H) (join t l)).answer ≡ 0 → (after : List Call)
    → Stays h (step h (state_after h H) (join t l)).state t after → grants_past h (step h (state_after h H) (join t l)).state [] after ≤ 8
