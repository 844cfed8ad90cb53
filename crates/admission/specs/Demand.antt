-- Demand 2, and what a refusal leaves (demand 1), of every call on every table and line, in order or not, after a history or not. Document 01,
-- "Calls", and document 02: the list of L2, the growth of L5, the repeated grant of L6, and the calls of L7. The blocks of L1 and L4 stand in
-- Pages.antt.
use Rattle.std.specs.Prelude.{◌≡◌, true, [], ℕ, ◌≤◌, ◌<◌, length}
use Rattle.std.proofs.Math.Option.{some, none}
use Rattle.line.specs.Line.{waiting_in, at_place}
use Rattle.rules.specs.Call.{Call as Direct, tenant_of}
use Rattle.rules.specs.History.{gave_block, in_table}
use Rattle.rules.specs.Demand.{Asks, Releases, Grows, changed}
use Rattle.rules.specs.Accepted.{AfterGrant, AfterRepetition, AfterRelease, AfterGrowth}
use Rattle.admission.specs.Call.{State, Call, direct, join, admit, withdraw}
use Rattle.admission.specs.Step.{Outcome, on_table, step}

-- what is left by a call that changes nothing in table and line: node 0, nobody named, and no moves
pub record LeavesAll (S : State) (o : Outcome) : Type 0 where
  pub node : o.node ≡ 0
  pub named : o.named ≡ none
  pub moves : o.moves ≡ []
  pub state : o.state ≡ S

-- a call that changes nothing but the line
pub record LeavesTable (S : State) (o : Outcome) : Type 0 where
  pub node : o.node ≡ 0
  pub named : o.named ≡ none
  pub moves : o.moves ≡ []
  pub table : o.state.table ≡ S.table

-- a grant that answers 0 and node n and changes nothing
pub record Again (S : State) (n : ℕ) (o : Outcome) : Type 0 where
  pub answer : o.answer ≡ 0
  pub node : o.node ≡ n
  pub named : o.named ≡ none
  pub moves : o.moves ≡ []
  pub state : o.state ≡ S

-- the direct call c gave its tenant a block
abbrev pub Gave : ℕ → State → Direct → Type 0
Gave h S c = gave_block (in_table h S.table (tenant_of c)) (in_table h (step h S (direct c)).state.table (tenant_of c)) ≡ true

-- an admit that named tenant t: t stands in line, and has got a block of the level that it waited for, as by a direct grant
pub record AfterAdmit (h : ℕ) (S : State) (t : ℕ) (o : Outcome) : Type 0 where
  pub answer : o.answer ≡ 0
  pub place : ℕ
  pub in_line : place < length (waiting_in S.line)
  pub waits : (at_place (waiting_in S.line) place).tenant ≡ t
  pub granted : AfterGrant h S.table t (at_place (waiting_in S.line) place).level (on_table o)

pub record Demand2 (h : ℕ) (S : State) : Type 0 where
  -- a call of any kind that is refused reports node 0, nobody and no moves, and leaves table and line as they were
  pub refuses : (c : Call) → ¬ ((step h S c).answer ≡ 0) → LeavesAll S (step h S c)
  -- a grant answered 0 gives a block, or is a repeated one, which leaves the line too; no other direct call gives one, and none names anybody
  pub grant : (c : Direct) (l : ℕ) → Asks h c l → Gave h S c → AfterGrant h S.table (tenant_of c) l (on_table (step h S (direct c)))
  pub repetition : (c : Direct) (l : ℕ) → Asks h c l → (step h S (direct c)).answer ≡ 0 → ¬ Gave h S c
      → AfterRepetition h S.table (tenant_of c) l (on_table (step h S (direct c))) × ((step h S (direct c)).state.line ≡ S.line)
  pub gives : (c : Direct) → Gave h S c → ((step h S (direct c)).answer ≡ 0) × ((l : ℕ) × Asks h c l)
  pub unnamed : (c : Direct) → (step h S (direct c)).named ≡ none
  -- a grant answered 0 and made again at once names the same node, and nothing changes
  pub again : (c : Direct) (l : ℕ) → Asks h c l → (step h S (direct c)).answer ≡ 0
      → Again (step h S (direct c)).state (step h S (direct c)).node (step h (step h S (direct c)).state (direct c))
  -- releases and growths, which leave the line
  pub release : (c : Direct) → Releases c → (step h S (direct c)).answer ≡ 0
      → AfterRelease h S.table (tenant_of c) (on_table (step h S (direct c))) × ((step h S (direct c)).state.line ≡ S.line)
  pub growth : (c : Direct) (l : ℕ) → Grows c l → (step h S (direct c)).answer ≡ 0
      → AfterGrowth h S.table (tenant_of c) l (on_table (step h S (direct c))) × ((step h S (direct c)).state.line ≡ S.line)
  -- an admit grants the tenant that it names, and changes nothing where it names nobody
  pub admits : (m t : ℕ) → (step h S (admit m)).named ≡ some t → AfterAdmit h S t (step h S (admit m))
  pub admits_nobody : (m : ℕ) → (step h S (admit m)).named ≡ none → LeavesAll S (step h S (admit m))
  -- joins and withdrawals change nothing but the line
  pub joins : (t l : ℕ) → LeavesTable S (step h S (join t l))
  pub withdrawals : (t : ℕ) → LeavesTable S (step h S (withdraw t))
  -- a direct call has as many moves as there are other tenants whose node changed; and no call has more than its kind may
  pub moves : (c : Direct) → length (step h S (direct c)).moves ≡ changed (tenant_of c) S.table (step h S (direct c)).state.table
  pub grant_moves : (c : Direct) (l : ℕ) → Asks h c l → length (step h S (direct c)).moves ≤ 3
  pub release_moves : (c : Direct) → Releases c → length (step h S (direct c)).moves ≤ 4
  pub growth_moves : (c : Direct) (l : ℕ) → Grows c l → length (step h S (direct c)).moves ≤ 7
  pub admit_moves : (m : ℕ) → length (step h S (admit m)).moves ≤ 3
