-- `reserve::levels::reserve_level_of_pages` meets its contract: the cases of the definition.
use mathlib.Core.Path.{sym, ap, ◌∙◌}
use Prim.Native.Nat.{ℕ, ◌^◌, ◌≤◌, ◌<◌}
use native.Mathlib.Omega.{arith}
use Rattle.reserve.proofs.LevelOfPages.{level_above_12, level_of_too_many, level_of_few}
use Rattle.reserve.proofs.levels.reserve_level_of_pages.Goals as goal

pub returns-then-height-gt-MAX_HEIGHT : goal.returns-then-height-gt-MAX_HEIGHT
returns-then-height-gt-MAX_HEIGHT c =
    let a = c.args in
    c.from.ensures ∙ sym (level_above_12 a.height a.pages c.if-height-gt-MAX_HEIGHT.true)

pub returns-then-power-pages : goal.returns-then-power-pages
returns-then-power-pages c =
    let x = c in
    let a = x.args in
    let low : a.height ≤ 12 = omega (arith, x.if-height-gt-MAX_HEIGHT.false) in
    let many : 2 ^ a.height ≤ a.pages = omega (arith, x.power.ensures, c.if-power-pages.true) in
    c.from-then-power-pages.ensures ∙ sym (level_of_too_many a.height a.pages low many)

pub returns : goal.returns
returns c =
    let x = c in
    let a = x.args in
    let low : a.height ≤ 12 = omega (arith, x.if-height-gt-MAX_HEIGHT.false) in
    let few : a.pages < 2 ^ a.height = omega (arith, x.power.ensures, c.if-power-pages.false) in
    ap (λ (l : ℕ). record { answer = 0; level = l }) c.level_for-level.ensures ∙ sym (level_of_few a.height a.pages low few)
