-- `layout::Climb::risen` meets its contract, by the three cases of going up.
use mathlib.Core.Path.{sym}
use Rattle.layout.proofs.Climbing.{rise_full_up, rise_lone_even, rise_lone_odd}
use Rattle.layout.proofs.Climb.risen.Goals.{in_default-via-in-Some+else-self-eq0 as settled, in_default-via-in_default as none}
use Rattle.layout.proofs.Climb.risen.Goals as goal

pub returns-in-Some : goal.returns-in-Some
returns-in-Some c = rw c.in-Some.is (sym (rise_lone_even c.args.self.before _ _ c.if-self-eq0.true))

pub returns-in_default : goal.returns-in_default
returns-in_default c =
    let v = c.args.self.before in
    elim c.in_default.branch [
      | settled w ↦ rw (c.div_ceil.ensures, w.in-Some.is) (sym (rise_lone_odd v _ _ w.if-self-eq0.false))
      | none w ↦ rw (c.div_ceil.ensures, w.in_default.is) (sym (rise_full_up v))
    ]
