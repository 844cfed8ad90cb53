-- The line of those who wait, and the 193 numbers that it is lent as. Document 02, L7.
use Rattle.std.specs.Prelude.{Option as Reported, Some, None, List, [], ◌∷◌, ◌++◌, ℕ, zero, suc, ◌+◌, ◌*◌, ◌-◌, length, get_or, replicate}
use Rattle.std.proofs.Math.Option.{Option, some, none}
use Rattle.line.specs.declared.Waiting as Declared

-- one who waits: its number, the level that it waits for, and its passed count
pub record Waiting : Type 0 where
  pub tenant : ℕ
  pub level : ℕ
  pub passed : ℕ

-- tenant, level and passed count of each
unfoldable pub triples : List Waiting → List ℕ
triples [] = []
triples (w ∷ W) = w.tenant ∷ w.level ∷ w.passed ∷ triples W

-- the numbers of the line W, oldest first: how many wait, then tenant, level and passed count of each, then zeros; of up to 64 they are 193
unfoldable pub line_of : List Waiting → List ℕ
line_of W = length W ∷ triples W ++ replicate (3 * (64 - length W)) 0

-- who stands at place i of the numbers L, the oldest at place 0
abbrev pub at : List ℕ → ℕ → Waiting
at L i = record { tenant = get_or L (3 * i + 1) 0; level = get_or L (3 * i + 2) 0; passed = get_or L (3 * i + 3) 0 }

-- the same of the program's type
abbrev pub waiting_of : Declared.Waiting → Waiting
waiting_of w = record { tenant = w.tenant; level = w.level; passed = w.passed }

-- those at n places from place i on
abbrev pub standing : List ℕ → ℕ → ℕ → List Waiting
standing L i zero = []
standing L i (suc n) = at L i ∷ standing L (suc i) n

-- how many wait by the numbers L, and who
abbrev pub waiting_count : List ℕ → ℕ
waiting_count L = get_or L 0 0

abbrev pub waiting_in : List ℕ → List Waiting
waiting_in L = standing L 0 (waiting_count L)

-- who stands at a place of a line, the oldest at place 0
abbrev pub at_place : List Waiting → ℕ → Waiting
at_place W k = get_or W k (record { tenant = 0; level = 0; passed = 0 })

-- the tenant that an admit named, if it did, as the functions report it
abbrev pub tenant_in : Reported ℕ → Option ℕ
tenant_in None = none
tenant_in (Some t) = some t
