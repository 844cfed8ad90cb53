-- `granting::chosen::admit_at` meets its contract: the tenant at the place gets its level, leaves the line, and those in front of it are passed.
use mathlib.Core.Path.{refl, ap₂, ◌∙◌}
use native.Mathlib.Omega.{arith}
use Rattle.refusal.proofs.Numbers.{not_zero}
use Rattle.line.specs.Line.{at}
use Rattle.line.proofs.Ordered.{in_form}
use Rattle.rules.specs.declared.Call.TheVariants.{GrantLevel}
use Rattle.calls.proofs.Calling.{ready_to_change, sized_to_change}
use Rattle.admission.specs.Value.{lent}
use Rattle.granting.proofs.Behind.{settled}
use Rattle.granting.proofs.Admitting.{place_bounds, chosen_arguments, chosen_granted, form_without, place_without, front_passed}
use Rattle.granting.proofs.chosen.admit_at.Goals as goal

pub bounds-line-place : goal.bounds-line-place
bounds-line-place c = let r = c.requires in omega (arith, place_bounds _ _ _ r.place.0 _ r.place.1)

pub bounds-line-place-2 : goal.bounds-line-place-2
bounds-line-place-2 c = let r = c.requires in omega (arith, place_bounds _ _ _ r.place.0 _ r.place.1)

pub settle-requires-clause-ready : goal.settle-requires-clause-ready
settle-requires-clause-ready c =
    let a = c.args in
    let r = c.requires in
    let w = at a.line.now a.place in
    ready_to_change a.height a.table.now (GrantLevel w.tenant w.level) 7
    (chosen_arguments _ _ _ r.place.0 _ r.place.1 r.lengths.0 r.lengths.1)

pub settle-requires-clause-size : goal.settle-requires-clause-size
settle-requires-clause-size c =
    let a = c.args in
    let r = c.requires in
    let w = at a.line.now a.place in
    sized_to_change a.height a.table.now (GrantLevel w.tenant w.level) 7
    (chosen_arguments _ _ _ r.place.0 _ r.place.1 r.lengths.0 r.lengths.1)

pub returns-in_err-done : goal.returns-in_err-done
returns-in_err-done c =
    let r = c.requires in
    let done = chosen_granted _ _ _ r.place.0 _ r.place.1 r.lengths.0 r.lengths.1 r.looked.in_order r.fits in
    let a = c.args in
    let w = at a.line.now a.place in
    let passed = chosen_arguments _ _ _ r.place.0 _ r.place.1 r.lengths.0 r.lengths.1 in
    let e = c.in_err-done.field-0.0 in
    let same = (settled a.height a.table.now (GrantLevel w.tenant w.level) 7 passed c.in_err-done.ensures).answer in
    absurd (not_zero e _ same done)

pub take_out-requires : goal.take_out-requires
take_out-requires c = (in_form _ _ _ c.requires.place.0, c.requires.place.1)

pub pass-requires : goal.pass-requires
pass-requires c =
    let p = c.requires.place in
    (form_without _ _ _ p.0 _ p.1 _ c.take_out.ensures, place_without _ _ _ p.0 _ p.1 _ c.take_out.ensures)

pub returns : goal.returns
returns c =
    let a = c.args in
    let r = c.requires in
    let w = at a.line.now a.place in
    let passed = chosen_arguments _ _ _ r.place.0 _ r.place.1 r.lengths.0 r.lengths.1 in
    let done = settled a.height a.table.now (GrantLevel w.tenant w.level) 7 passed c.in_ok-done.ensures in
    let left = front_passed _ _ _ r.place.0 _ r.place.1 _ c.take_out.ensures in
    record { answer = done.answer; node = done.node; named = refl; plan = done.plan; state = ap₂ lent done.table (c.pass.ensures ∙ left) }
