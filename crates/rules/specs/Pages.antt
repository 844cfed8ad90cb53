-- What a grant by pages gets, as a statement in the words of document 02, L1 and L4.
use Rattle.std.specs.Prelude.{◌≡◌, List, ◌++◌, ◌↔◌, ℕ, ◌+◌, ◌^◌, ◌≤◌, ◌<◌, length}
use Rattle.tree.specs.Node.{level}
use Rattle.sizes.specs.Level.{level_for}
use Rattle.sizes.specs.Promise.{Least}
use Rattle.rules.specs.Call.{grant_pages}
use Rattle.rules.specs.Step.{Outcome, first, length_checks, list_checks, step}

-- a grant of p pages to tenant t at height h on the table T, with m move entries lent; o is what it does
pub record GrantByPages (h : ℕ) (T : List ℕ) (t p m : ℕ) (o : Outcome) : Type 0 where
  -- p above 0 gets a block that has p pages and one more, and no smaller level has one
  pub guarded : 0 < p → o.answer ≡ 0 → Least (p + 1) (level h o.node)
  -- pages 0 gets level 4, or level h on a reserve under height 4
  pub unnamed : p ≡ 0 → 4 ≤ h → o.answer ≡ 0 → level h o.node ≡ 4
  pub unnamed_low : p ≡ 0 → h < 4 → o.answer ≡ 0 → level h o.node ≡ h
  -- and never 6
  pub unnamed_goes_in : p ≡ 0 → ¬ (o.answer ≡ 6)
  -- where none of 1 to 4 applies, 6 is answered from p = 2^h upwards and only there
  pub refused : first (length_checks h (length T) ++ list_checks 4 t m) ≡ 0 → (o.answer ≡ 6) ↔ (2 ^ h ≤ p)
  -- that is exactly when the level that the pages take lies above the height
  pub no_level : (2 ^ h ≤ p) ↔ (h < level_for h p)
  -- so at height 0 each named size gets it
  pub height_0 : first (length_checks h (length T) ++ list_checks 4 t m) ≡ 0 → h ≡ 0 → 0 < p → o.answer ≡ 6

-- the promise for every height, table and argument
abbrev pub PagesPromise : Type 0
PagesPromise = (h : ℕ) (T : List ℕ) (t p m : ℕ) → GrantByPages h T t p m (step h T (grant_pages t p m))
