-- `line::place_from` meets its contract. The loop's invariant: the place from i on is the place from `from` on.
use mathlib.Core.Path.{◌≡◌, sym, ◌∙◌}
use native.Mathlib.Omega.{arith}
use Rattle.line.proofs.Scans.{place_none, place_here, place_further}
use Rattle.line.proofs.place_from.Goals as goal

pub returns-then-waiting_at-tenant : goal.returns-then-waiting_at-tenant
returns-then-waiting_at-tenant c =
    let a = c.args in
    let here = place_here a.line.now a.n c.loop-i.i (omega arith) c.waiting_at.ensures a.tenant c.if-waiting_at-tenant.true in
    sym here ∙ c.loop-i.invariant

pub loop-i-preserved : goal.loop-i-preserved
loop-i-preserved c =
    let a = c.args in
    let further = place_further a.line.now a.n c.loop-i.i (omega arith) c.waiting_at.ensures a.tenant c.if-waiting_at-tenant.false in
    sym further ∙ c.loop-i.invariant

pub returns : goal.returns
returns c =
    let a = c.args in
    let end : c.loop-i.i ≡ a.n = omega arith in
    sym (place_none a.line.now a.n a.tenant) ∙ rw end at c.loop-i.invariant
