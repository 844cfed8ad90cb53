-- Those who stand in a line in order.
use mathlib.Core.Path.{◌≡◌, subst}
use mathlib.Core.Bool.{true, false≢true}
use mathlib.Core.List.{List}
use Prim.Native.Nat.{ℕ}
use native.Mathlib.Decide.{ℕ_discrete}
use borrow.Author.Tests.{ne_eqb}
use Rattle.table.specs.Table.{node_at}
use Rattle.line.specs.Line.{Waiting}
use Rattle.line.specs.Order.{waits, Orderly, nobody, before}

-- one that waits holds nothing
pub waiting_holds_none : (h : ℕ) (T : List ℕ) (W : List Waiting) → Orderly h T W → (t : ℕ) → waits t W ≡ true → node_at T t ≡ 0
unfolding waits
waiting_holds_none h T W nobody t e = absurd (false≢true e)
waiting_holds_none h T W (before {w = w} {W = W'} may once rest) t e = go (ℕ_discrete w.tenant t) (waiting_holds_none h T W' rest t)
  where
    go : Dec (w.tenant ≡ t) → (waits t W' ≡ true → node_at T t ≡ 0) → node_at T t ≡ 0
    go (yes is) behind = subst (λ (u : ℕ). node_at T u ≡ 0) is may.holds_none
    go (no is_not) behind = behind (rw (ne_eqb w.tenant t is_not) at e)
