-- `line::barred` meets its contract. The loop's invariant: somebody from place i on was passed eight times exactly if anybody was.
use mathlib.Core.Path.{◌≡◌, sym, ◌∙◌}
use native.Mathlib.Omega.{arith}
use Rattle.line.specs.Line.{waiting_count}
use Rattle.line.proofs.Scans.{barred_none, barred_here, barred_further}
use Rattle.line.proofs.barred.Goals as goal

pub returns-then-waiting_at-ge-LIMIT : goal.returns-then-waiting_at-ge-LIMIT
returns-then-waiting_at-ge-LIMIT c =
    let l = c.args.line.now in
    let here = barred_here l (waiting_count l) c.loop-i.i (omega arith) c.waiting_at.ensures c.if-waiting_at-ge-LIMIT.true in
    sym here ∙ c.loop-i.invariant

pub loop-i-preserved : goal.loop-i-preserved
loop-i-preserved c =
    let l = c.args.line.now in
    let further = barred_further l (waiting_count l) c.loop-i.i (omega arith) c.waiting_at.ensures c.if-waiting_at-ge-LIMIT.false in
    sym further ∙ c.loop-i.invariant

pub returns : goal.returns
returns c =
    let l = c.args.line.now in
    let end : c.loop-i.i ≡ waiting_count l = omega arith in
    sym (barred_none l (waiting_count l)) ∙ rw end at c.loop-i.invariant
