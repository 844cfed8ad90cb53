-- `granting::chosen::levels_that_fit` meets its contract: a level fits if its pages are no more than those that are free.
use mathlib.Core.Path.{◌≡◌, ap₂, ◌∙◌}
use Prim.Native.Nat.{ℕ, ◌-◌, ◌^◌}
use native.Mathlib.Omega.{arith}
use Rattle.tree.proofs.Highest.{leading_depth}
use Rattle.layout.specs.Layout.{pages}
use Rattle.granting.proofs.Admitting.{levels_fit}
use Rattle.granting.proofs.chosen.levels_that_fit.Goals as goal

pub overflow_add-result : goal.overflow_add-result
overflow_add-result c =
    let n = c.power-all.result - c.total.result in
    omega (arith, leading_depth 16 n (omega arith) (omega arith), c.depth.ensures)

pub returns : goal.returns
returns c =
    let free : c.power-all.result - c.total.result ≡ 2 ^ c.args.height - pages c.args.counts.at
    = ap₂ (λ (m n : ℕ). m - n) c.power-all.ensures c.total.ensures in
    rw (c.depth.ensures, free) (levels_fit _ _ c.requires.1 (λ z. c.if-free-eq0.false (free ∙ z)))
