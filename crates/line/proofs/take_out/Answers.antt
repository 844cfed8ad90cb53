-- `line::take_out` meets its contract: the numbers of the one at the place are taken out, and the count is stored again, one less.
use Prim.Native.Nat.{◌<◌}
use native.Mathlib.Omega.{arith}
use lib.ListN.{length}
use Rattle.line.specs.Line.{waiting_in, waiting_count}
use Rattle.line.proofs.Numbers.{length_standing, line_without}
use Rattle.line.proofs.take_out.Goals as goal

pub overflow_sub-line : goal.overflow_sub-line
overflow_sub-line c =
    let l = c.args.line.now in
    let waits : c.args.place < length (waiting_in l) = omega (arith, length_standing l 0 (waiting_count l)) in
    let form = c.requires.0 in
    (line_without l (waiting_in l) c.args.place c.close_gap.new.line form.numbers form.few waits c.close_gap.ensures).0

pub returns : goal.returns
returns c =
    let l = c.args.line.now in
    let waits : c.args.place < length (waiting_in l) = omega (arith, length_standing l 0 (waiting_count l)) in
    let form = c.requires.0 in
    (line_without l (waiting_in l) c.args.place c.close_gap.new.line form.numbers form.few waits c.close_gap.ensures).1
