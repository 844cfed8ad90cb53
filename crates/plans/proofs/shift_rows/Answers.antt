-- `shift_rows` meets its contract: each turn pairs the next index of each row, and moves on to the one after it.
use mathlib.Core.Logic.{inl, inr}
use Prim.Native.Nat.{◌+◌}
use native.Mathlib.Omega.{arith}
use borrow.Author.Rules.{rules}
use Rattle.plans.proofs.LeastIndex.{least_found}
use Rattle.plans.proofs.Shifting.{shifting_begins, room_left, shifting_goes_on, shifting_ends, unshifted}
use Rattle.plans.proofs.shift_rows.Goals as goal

pub returns-then-eq : goal.returns-then-eq
returns-then-eq c = unshifted _ _ _ _ _ c.requires.room.1 (search rules)

pub loop-i-init : goal.loop-i-init
loop-i-init c = shifting_begins _ _ _ _ _ _ _ c.requires.room.1 c.least-i.ensures c.least-j.ensures

pub push-plan-requires : goal.push-plan-requires
push-plan-requires c = omega (arith, c.requires.room.0, room_left c.loop-i.invariant c.loop-i-test.true c.if-j-lt-NONE.true)

pub loop-i-smaller : goal.loop-i-smaller
loop-i-smaller c =
    let found = least_found c.args.old c.args.new (c.loop-i.i + 1) (omega arith) in
    omega (arith, found.from, c.least-i-in-loop-i.ensures)

pub loop-i-preserved : goal.loop-i-preserved
loop-i-preserved c =
    shifting_goes_on c.loop-i.invariant _ _ _ c.requires.room.0 c.loop-i-test.true c.if-j-lt-NONE.true
    (rw c.move_from.ensures at c.push-plan.ensures) c.least-i-in-loop-i.ensures c.least-j-in-loop-i.ensures

pub returns-else-j-lt-NONE : goal.returns-else-j-lt-NONE
returns-else-j-lt-NONE c = shifting_ends c.loop-i.invariant (inr c.if-j-lt-NONE.false)

pub returns-after-loop-i : goal.returns-after-loop-i
returns-after-loop-i c = shifting_ends c.loop-i.invariant (inl c.loop-i-test.false)
