-- The calls of a reserve with a line, and what they go on. Document 02, L7.
use Rattle.std.specs.Prelude.{List, ℕ}
use Rattle.rules.specs.Call.{Call as Direct}

-- what a history hands on from call to call: the table and the line
pub record State : Type 0 where
  pub table : List ℕ
  pub line : List ℕ

-- A call that names its own tenant's block, as document 01 and L5 have them: a grant of either kind, a release or a growth; a join (tenant, level);
-- an admit, with the number of move entries lent; a withdrawal (tenant).
pub data Call : Type 0 where
  direct : Direct → Call
  join : ℕ → ℕ → Call
  admit : ℕ → Call
  withdraw : ℕ → Call
