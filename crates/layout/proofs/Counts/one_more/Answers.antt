-- `layout::Counts::one_more` meets its contract: past the last level one more are the same.
use mathlib.Core.Path.{◌≡◌, sym}
use Prim.Native.Nat.{ℕ}
use native.Mathlib.Omega.{arith}
use borrow.Author.Rules.{rules}
use lib.ListN.{length}
use Rattle.layout.proofs.Counting.{more_saturated, more_past}
use Rattle.layout.proofs.Counts.one_more.Goals as goal

pub returns-then-l-lt-LEVELS : goal.returns-then-l-lt-LEVELS
returns-then-l-lt-LEVELS c = more_saturated c.args.self.at c.args.level _ (search rules) c.saturating_add.ensures

pub returns-else-l-lt-LEVELS : goal.returns-else-l-lt-LEVELS
returns-else-l-lt-LEVELS c =
    let cs = c.args.self.at in
    let e : ◌≡◌ {A = ℕ} (length cs) 13 = search rules in
    sym (more_past cs c.args.level (omega arith))
