-- `plan_moves` meets its contract: before each level the plan has the moves of the levels below.
use mathlib.Core.Path.{refl}
use native.Mathlib.Omega.{arith}
use Rattle.std.proofs.lemmas.Bool.Decides.{nat_tests}
use Rattle.plans.proofs.Planning.{rows_shiftable, rows_shifts, rows_planned, rows_spare_fits}
use Rattle.plans.proofs.Planning.{planning_begins, room_for_level, planning_ends}
use Rattle.plans.proofs.plan_moves.Goals.{then-level-wanted, else-level-wanted}
use Rattle.plans.proofs.plan_moves.Goals as goal

pub loop-level-init : goal.loop-level-init
loop-level-init c = planning_begins _ _ _ _ _ _ _ c.none.ensures refl

pub shift_rows-s-requires-clause-rows : goal.shift_rows-s-requires-clause-rows
shift_rows-s-requires-clause-rows c =
    rows_shiftable c.requires c.loop-level-test.true c.power-base.ensures c.index_on.ensures c.row_of-from.ensures c.row_of-to.ensures

pub shift_rows-s-requires-clause-room : goal.shift_rows-s-requires-clause-room
shift_rows-s-requires-clause-room c =
    let level = c.loop-level-test.true in
    let shifts = rows_shifts c.requires level c.power-base.ensures c.index_on.ensures c.row_of-from.ensures c.row_of-to.ensures in
    (rw shifts (omega (arith, room_for_level c.loop-level.invariant level, c.requires.few)), c.loop-level.invariant.whole)

pub node_on-node-requires : goal.node_on-node-requires
node_on-node-requires c =
    rows_spare_fits c.requires c.loop-level-test.true c.power-base.ensures c.index_on.ensures c.row_of-from.ensures c.row_of-to.ensures _
    c.shift_rows-s.ensures.spare

pub loop-level-preserved : goal.loop-level-preserved
loop-level-preserved c =
    rows_planned c.requires c.loop-level-test.true c.power-base.ensures c.index_on.ensures c.row_of-from.ensures c.row_of-to.ensures
    c.loop-level.invariant c.shift_rows-s.ensures
    (elim c.if-level-wanted.branch [ then-level-wanted w ↦ grind (arith, nat_tests) | else-level-wanted w ↦ grind (arith, nat_tests) ])

pub returns-after-level-wanted : goal.returns-after-level-wanted
returns-after-level-wanted c =
    planning_ends
    (rows_planned c.requires c.loop-level-test.true c.power-base.ensures c.index_on.ensures c.row_of-from.ensures c.row_of-to.ensures
    c.loop-level.invariant c.shift_rows-s.ensures
    (elim c.if-level-wanted.branch [ then-level-wanted w ↦ grind (arith, nat_tests) | else-level-wanted w ↦ grind (arith, nat_tests) ]))
    (omega arith)
