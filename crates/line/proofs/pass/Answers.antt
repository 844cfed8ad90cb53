-- `line::pass` meets its contract. The loop's invariant: those at the first i places are passed once more.
use mathlib.Core.Path.{ap}
use Prim.Native.Nat.{◌<◌}
use native.Mathlib.Omega.{arith}
use lib.ListN.{length}
use Rattle.line.specs.Line.{Waiting, at, waiting_in, waiting_count}
use Rattle.line.proofs.Numbers.{length_standing, getD_waiting, passed_at, passed_more}
use Rattle.line.proofs.pass.Goals as goal

pub overflow_add-line-in-loop-i : goal.overflow_add-line-in-loop-i
overflow_add-line-in-loop-i c =
    let L = c.args.line.now in
    let i = c.loop-i.i in
    let waiting : i < length (waiting_in L) = omega (arith, length_standing L 0 (waiting_count L)) in
    omega (
      arith,
      passed_at (waiting_in L) i (at L i) waiting c.loop-i.line c.loop-i.invariant,
      ap (λ (v : Waiting). v.passed) (getD_waiting L i (at L i) (omega arith)),
      c.requires.0.seldom i (omega arith),
    )

pub loop-i-preserved : goal.loop-i-preserved
loop-i-preserved c =
    let L = c.args.line.now in
    let i = c.loop-i.i in
    let waiting : i < length (waiting_in L) = omega (arith, length_standing L 0 (waiting_count L)) in
    passed_more (waiting_in L) i (at L i) waiting c.loop-i.line c.loop-i.invariant
