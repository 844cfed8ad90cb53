-- The level that the C door tells for a number of pages: the cases of the definition, and that it is the one that a grant by pages asks for.
use mathlib.Core.Path.{◌≡◌, refl}
use Prim.Native.Nat.{ℕ, ◌^◌, ◌≤◌, ◌<◌}
use native.Mathlib.Omega.{arith}
use native.Mathlib.Decide.{dec_lt, dec_le}
use borrow.Author.Tests.{lt-ltb, le-ltb, le-leb, lt-leb, eq-eqb}
use lib.ListN.{length}
use Rattle.sizes.specs.Level.{level_for}
use Rattle.sizes.proofs.Level.{level_of_pages}
use Rattle.rules.specs.Call.{grant_level, grant_pages}
use Rattle.admission.specs.Call.{State, direct}
use Rattle.admission.specs.Step.{step}
use Rattle.reserve.specs.LevelOfPages.{no_level, level_asked, TellsLevel, LevelTold}

-- ---- the cases of the definition

pub level_above_12 : (h p : ℕ) → 12 < h → level_asked h p ≡ no_level 1
unfolding level_asked
level_above_12 h p q = rw (lt-ltb 12 h q)

pub level_of_too_many : (h p : ℕ) → h ≤ 12 → 2 ^ h ≤ p → level_asked h p ≡ no_level 6
unfolding level_asked
level_of_too_many h p low q = rw (le-ltb 12 h low, le-leb (2 ^ h) p q)

pub level_of_few : (h p : ℕ) → h ≤ 12 → p < 2 ^ h → level_asked h p ≡ record { answer = 0; level = level_for h p }
unfolding level_asked
level_of_few h p low q = rw (le-ltb 12 h low, lt-leb (2 ^ h) p q)

-- ---- the level of the grant

-- pages that go in take a level that the reserve has
in_height : (h p : ℕ) → p < 2 ^ h → level_for h p ≤ h
in_height h p q = go (dec_lt h (level_for h p))
  where
    go : Dec (h < level_for h p) → level_for h p ≤ h
    go (yes above) = absurd (omega (arith, (level_of_pages h p).above_height.1 above))
    go (no within) = omega arith

same_step : (h p : ℕ) → p < 2 ^ h → (S : State) (t m : ℕ)
    → step h S (direct (grant_level t (level_for h p) m)) ≡ step h S (direct (grant_pages t p m))
unfolding step
same_step h p q S t m = rw (le-ltb h (level_for h p) (in_height h p q), lt-leb (2 ^ h) p q)

module _ (h p : ℕ) (S : State) (t m : ℕ) where
  refused_above_12 : 12 < h → (step h S (direct (grant_pages t p m))).answer ≡ 1
  unfolding step
  refused_above_12 q = rw (lt-ltb 12 h q)

  refused_too_many : h ≤ 12 → 2 ^ h ≤ p → length S.table ≡ 4096 → length S.line ≡ 193 → 4 ≤ m → t < 4096
      → (step h S (direct (grant_pages t p m))).answer ≡ 6
  unfolding step
  refused_too_many low q table line entries tenant =
      rw (le-ltb 12 h low, eq-eqb (length S.table) 4096 table, eq-eqb (length S.line) 193 line, le-ltb m 4 entries)
      (rw (le-ltb 4095 t (omega arith), le-leb (2 ^ h) p q))

-- ---- the theorem

pub level_told : LevelTold
level_told h p = go (dec_le h 12) (dec_lt p (2 ^ h))
  where
    go : Dec (h ≤ 12) → Dec (p < 2 ^ h) → TellsLevel h p (level_asked h p)
    go (no above) d = rw (level_above_12 h p (omega arith)) (record {
      same_grant = λ z. absurd (omega arith);
      within = λ z. absurd (omega arith);
      same_refusal = λ _ S t m table line entries tenant. refused_above_12 h p S t m (omega arith);
    })
    go (yes low) (no many) = rw (level_of_too_many h p low (omega arith)) (record {
      same_grant = λ z. absurd (omega arith);
      within = λ z. absurd (omega arith);
      same_refusal = λ _ S t m. refused_too_many h p S t m low (omega arith);
    })
    go (yes low) (yes few) = rw (level_of_few h p low few) (record {
      same_grant = λ z. same_step h p few;
      within = λ z. in_height h p few;
      same_refusal = λ refused. absurd (refused refl);
    })
