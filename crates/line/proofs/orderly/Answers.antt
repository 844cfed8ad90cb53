-- `line::orderly` meets its contract. The loop's invariant: those from place i on are orderly exactly if all are.
use mathlib.Core.Path.{◌≡◌, sym, ◌∙◌}
use native.Mathlib.Omega.{arith}
use Rattle.line.proofs.Scans.{orderly_none, disorder_here, disorder_behind, orderly_further}
use Rattle.line.proofs.orderly.Goals as goal

pub returns-then-not-may_wait : goal.returns-then-not-may_wait
returns-then-not-may_wait c =
    let a = c.args in
    let not-here = sym c.may_wait.ensures ∙ c.if-not-may_wait.true in
    sym (disorder_here a.line.now a.n c.loop-i.i (omega arith) c.waiting_at-w.ensures a.height a.table.now not-here) ∙ c.loop-i.invariant

pub returns-then-place_from-n : goal.returns-then-place_from-n
returns-then-place_from-n c =
    let a = c.args in
    let may = sym c.may_wait.ensures ∙ c.if-not-may_wait.false in
    let twice = disorder_behind a.line.now a.n c.loop-i.i (omega arith) c.waiting_at-w.ensures a.height a.table.now may c.place_from.result
    c.place_from.ensures c.if-place_from-n.true in
    sym twice ∙ c.loop-i.invariant

pub loop-i-preserved : goal.loop-i-preserved
loop-i-preserved c =
    let a = c.args in
    let may = sym c.may_wait.ensures ∙ c.if-not-may_wait.false in
    let further = orderly_further a.line.now a.n c.loop-i.i (omega arith) c.waiting_at-w.ensures a.height a.table.now may c.place_from.result
    c.place_from.ensures c.if-place_from-n.false in
    sym further ∙ c.loop-i.invariant

pub returns : goal.returns
returns c =
    let a = c.args in
    let end : c.loop-i.i ≡ a.n = omega arith in
    sym (orderly_none a.line.now a.n a.height a.table.now) ∙ rw end at c.loop-i.invariant
