-- `survey::settled` meets its contract. The loop's invariant: the levels above `level` have owners on all their rows, so that what is left
-- to test is the whole, and `first` is the first node of `level`.
use mathlib.Core.Path.{◌≡◌}
use Prim.Native.Nat.{suc, ◌-◌, ◌^◌, ◌≤◌}
use native.Mathlib.Omega.{arith}
use borrow.Author.Rules.{rules}
use lib.ListN.{length}
use Rattle.layout.specs.Layout.{pages}
use Rattle.layout.proofs.Bounds.{power_le_4096}
use Rattle.survey.proofs.Looked.{looked_none, looked_all, looked_gap, looked_next, run_in_nodes, lone_in_nodes}
use Rattle.survey.proofs.settled.Goals as goal

pub layout-rows-requires : goal.layout-rows-requires
layout-rows-requires c = omega (arith, power_le_4096 c.args.height (omega arith))

pub loop-level-init : goal.loop-level-init
loop-level-init c = rw c.from-level.ensures (looked_none c.args.height c.layout-rows.result c.args.owner.now)

pub level_settled-requires : goal.level_settled-requires
level_settled-requires c =
    let a = c.args in
    let rows = c.layout-rows in
    let low : a.height ≤ 12 = omega arith in
    let long : length rows.result.lone ≡ 13 = search rules in
    let fits : pages a.counts.at ≤ 2 ^ a.height = omega arith in (
      search rules,
      run_in_nodes low long c.loop-level.invariant a.counts.at fits rows.ensures,
      lone_in_nodes low long c.loop-level.invariant a.counts.at fits rows.ensures,
    )

pub returns-then-not-level_settled : goal.returns-then-not-level_settled
returns-then-not-level_settled c =
    let low : c.args.height ≤ 12 = omega arith in
    let long : length c.layout-rows.result.lone ≡ 13 = search rules in
    rw (← c.layout-rows.ensures) (looked_gap low long c.loop-level.invariant c.level_settled.ensures c.if-not-level_settled.true)

pub loop-level-preserved : goal.loop-level-preserved
loop-level-preserved c =
    let low : c.args.height ≤ 12 = omega arith in
    let long : length c.layout-rows.result.lone ≡ 13 = search rules in
    let level_is : suc (c.loop-level.level - 1) ≡ c.loop-level.level = omega arith in
    rw level_is (looked_next low long c.loop-level.invariant c.level_settled.ensures c.if-not-level_settled.false)

pub returns-else-not-level_settled : goal.returns-else-not-level_settled
returns-else-not-level_settled c =
    let low : c.args.height ≤ 12 = omega arith in
    let long : length c.layout-rows.result.lone ≡ 13 = search rules in
    let all : c.loop-level.level ≡ 0 = omega arith in
    rw (← c.layout-rows.ensures)
    (looked_all all (looked_next low long c.loop-level.invariant c.level_settled.ensures c.if-not-level_settled.false))
