-- Which level a grant by pages takes, as a statement in the words of document 02, L1 and L4.
use Rattle.std.specs.Prelude.{◌≡◌, ◌↔◌, ℕ, ◌+◌, ◌^◌, ◌≤◌, ◌<◌}
use Rattle.sizes.specs.Level.{level_for}

-- l is the smallest level whose block has n pages
pub record Least (n l : ℕ) : Type 0 where
  pub enough : n ≤ 2 ^ l
  pub smallest : (m : ℕ) → n ≤ 2 ^ m → l ≤ m

-- p pages take level l at height h
pub record LevelOfPages (h p l : ℕ) : Type 0 where
  -- p above 0 takes the smallest level whose block has p pages and one more, the guard page
  pub with_guard : 0 < p → Least (p + 1) l
  -- pages 0 takes level 4, or level h on a reserve under height 4
  pub no_size : p ≡ 0 → 4 ≤ h → l ≡ 4
  pub no_size_low : p ≡ 0 → h < 4 → l ≡ h
  -- the level lies above the height from p = 2^h upwards and only there
  pub above_height : (2 ^ h ≤ p) ↔ (h < l)

-- the promise for every height and number of pages
abbrev pub LevelPromise : Type 0
LevelPromise = (h p : ℕ) → LevelOfPages h p (level_for h p)
