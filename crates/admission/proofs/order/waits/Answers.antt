-- `admission::order::waits` meets its contract: a tenant waits if its place is not behind the last.
use native.Mathlib.Omega.{arith}
use Rattle.line.specs.Line.{waiting_in, waiting_count}
use Rattle.line.proofs.Numbers.{length_standing, length_in_form}
use Rattle.line.proofs.Places.{waits_by_place}
use Rattle.admission.proofs.order.waits.Goals as goal

pub bounds-line-0 : goal.bounds-line-0
bounds-line-0 c = omega (arith, length_in_form c.args.line.now c.requires)

pub returns : goal.returns
returns c =
    let l = c.args.line.now in
    rw (c.place_of.ensures, waits_by_place c.args.tenant (waiting_in l), length_standing l 0 (waiting_count l))
