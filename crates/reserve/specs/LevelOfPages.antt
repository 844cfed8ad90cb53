-- The level of a grant by pages, as the C door answers it, and what it is good for. Document 02, L1, L4 and L7.
use Rattle.std.specs.Prelude.{◌≡◌, cond, ℕ, ◌≤◌, ◌<◌, ltb, length}
use Rattle.sizes.specs.Level.{level_for}
use Rattle.rules.specs.Call.{grant_level, grant_pages}
use Rattle.rules.specs.Step.{pages_check}
use Rattle.admission.specs.Call.{State, direct}
use Rattle.admission.specs.Step.{step}
use Rattle.reserve.specs.declared.levels.Level.{Level}

-- a refusal: its number, and no level
abbrev pub no_level : ℕ → Level
no_level number = record { answer = number; level = 0 }

-- the answer for p pages at height h: 1 above height 12, 6 where a grant of so many pages is refused with it, else the level that the grant takes
unfoldable pub level_asked : ℕ → ℕ → Level
level_asked h p = cond (ltb 12 h) (no_level 1) (cond (pages_check h p).applies (no_level 6) (record { answer = 0; level = level_for h p }))

-- the level in the answer r is the one that a grant of p pages asks for: on every table and line, and with as many move entries, a grant of that
-- level is answered as the grant by pages is, and does the same. The reserve has it, so that a join can name it. Where none is told, the number is
-- the one with which the grant is refused, if lengths, entries and tenant are right.
pub record TellsLevel (h p : ℕ) (r : Level) : Type 0 where
  pub same_grant : r.answer ≡ 0 → (S : State) (t m : ℕ) → step h S (direct (grant_level t r.level m)) ≡ step h S (direct (grant_pages t p m))
  pub within : r.answer ≡ 0 → r.level ≤ h
  pub same_refusal : ¬ (r.answer ≡ 0) → (S : State) (t m : ℕ) → length S.table ≡ 4096 → length S.line ≡ 193 → 4 ≤ m → t < 4096
      → (step h S (direct (grant_pages t p m))).answer ≡ r.answer

-- for every height and number of pages
abbrev pub LevelTold : Type 0
LevelTold = (h p : ℕ) → TellsLevel h p (level_asked h p)
