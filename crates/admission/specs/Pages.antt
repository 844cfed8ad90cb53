-- What a grant by pages gets, as a statement in the words of document 02, L1 and L4.
use Rattle.std.specs.Prelude.{◌≡◌, ◌++◌, ◌↔◌, ℕ, ◌+◌, ◌^◌, ◌≤◌, ◌<◌}
use Rattle.tree.specs.Node.{level}
use Rattle.sizes.specs.Level.{level_for}
use Rattle.sizes.specs.Promise.{Least}
use Rattle.rules.specs.Call.{grant_pages}
use Rattle.rules.specs.Step.{first, list_checks}
use Rattle.admission.specs.Call.{State, direct}
use Rattle.admission.specs.Step.{Outcome, reserve_checks, step}

-- a grant of p pages to tenant t at height h on the state S, with m move entries lent; o is what it does
pub record GrantByPages (h : ℕ) (S : State) (t p m : ℕ) (o : Outcome) : Type 0 where
  -- p above 0 gets a block that has p pages and one more, and no smaller level has one
  pub guarded : 0 < p → o.answer ≡ 0 → Least (p + 1) (level h o.node)
  -- pages 0 gets level 4, or level h on a reserve under height 4
  pub unnamed : p ≡ 0 → 4 ≤ h → o.answer ≡ 0 → level h o.node ≡ 4
  pub unnamed_low : p ≡ 0 → h < 4 → o.answer ≡ 0 → level h o.node ≡ h
  -- and never 6
  pub unnamed_goes_in : p ≡ 0 → ¬ (o.answer ≡ 6)
  -- where none of 1 to 4 applies, 6 is answered from p = 2^h upwards and only there
  pub refused : first (reserve_checks h S ++ list_checks 4 t m) ≡ 0 → (o.answer ≡ 6) ↔ (2 ^ h ≤ p)
  -- that is exactly when the level that the pages take lies above the height
  pub no_level : (2 ^ h ≤ p) ↔ (h < level_for h p)
  -- so at height 0 each named size gets it
  pub height_0 : first (reserve_checks h S ++ list_checks 4 t m) ≡ 0 → h ≡ 0 → 0 < p → o.answer ≡ 6

-- the promise for every height, state and argument
abbrev pub PagesPromise : Type 0
PagesPromise = (h : ℕ) (S : State) (t p m : ℕ) → GrantByPages h S t p m (step h S (direct (grant_pages t p m)))
