-- `calls::carry::carry_out` meets its contract: each move is one step of the list's writing.
use mathlib.Core.Path.{sym, ◌∙◌}
use lib.ListN.{take}
use Rattle.calls.proofs.Carried.{written_step, written_end}
use Rattle.calls.proofs.carry.carry_out.Goals as goal

pub loop-m-preserved : goal.loop-m-preserved
loop-m-preserved c =
    sym (written_step c.loop-m.table (take c.args.plan.n c.args.plan.moves) c.loop-m.m-index c.loop-m-test.true) ∙ c.loop-m.invariant

pub returns : goal.returns
returns c =
    let ms = take c.args.plan.n c.args.plan.moves in
    sym (written_end c.loop-m.table ms c.loop-m.m-index c.loop-m-test.false) ∙ c.loop-m.invariant
