-- `line::join` meets its contract.
use mathlib.Core.Path.{sym}
use native.Mathlib.Omega.{arith}
use lib.ListN.{length-set}
use Rattle.line.specs.Line.{waiting_in, waiting_count}
use Rattle.line.proofs.Numbers.{length_in_form, length_standing, line_joined}
use Rattle.line.proofs.join.Goals as goal

pub bounds-line-n : goal.bounds-line-n
bounds-line-n c = simp length-set (omega (arith, length_in_form c.args.line.now c.requires.0))

pub bounds-line-n-2 : goal.bounds-line-n-2
bounds-line-n-2 c = simp length-set (omega (arith, length_in_form c.args.line.now c.requires.0))

pub returns : goal.returns
returns c =
    let a = c.args in
    let l = a.line.now in
    let count_is = sym (length_standing l 0 (waiting_count l)) in
    line_joined l (waiting_in l) (waiting_count l) a.tenant a.level c.requires.0.numbers count_is c.requires.1
