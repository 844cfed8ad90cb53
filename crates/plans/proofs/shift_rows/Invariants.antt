-- `shift_rows` meets its contract: each turn pairs the next index of each row, and moves on to the one after it.
use Prim.Native.Nat.{◌-◌}
use Rattle.layout.specs.Rows.{no_index}
use Rattle.plans.proofs.Shifting.{Shifting}
use Rattle.plans.proofs.shift_rows.Given as goal

abbrev pub invariant-loop-i : goal.invariant-loop-i
invariant-loop-i l = Shifting l.base l.old l.new l.owners l.initial.plan l.plan l.i l.j

abbrev pub decreases-loop-i : goal.decreases-loop-i
decreases-loop-i l = no_index - l.i
