-- `calls::change::place` meets its contract: no room, or the others resettled and the tenant in the place that they leave over.
use mathlib.Core.Path.{sym, subst}
use mathlib.Core.List.{List}
use Prim.Native.Nat.{ℕ}
use native.Mathlib.Omega.{arith}
use Rattle.refusal.specs.declared.Refusal.TheVariants.{NoRoom}
use Rattle.calls.specs.Changes.{Target, placed}
use Rattle.rules.proofs.Given.{gives_same, refusal_given}
use Rattle.calls.proofs.Changing.{others_counted, room_found, no_room_found, place_without_room}
use Rattle.calls.proofs.Changed.{others_fit, newcomer_counted, place_gives}
use Rattle.calls.proofs.change.place.Goals as goal

pub has_room-requires : goal.has_room-requires
has_room-requires c =
    let rest = others_counted c.args.tenant c.requires.looked c.without-rest.ensures in
    let fit = others_fit c.requires.ready c.requires.looked.in_order in
    (c.requires.ready.height, omega (arith, c.requires.level, c.requires.ready.height), rw rest fit)

pub returns-then-not-has_room : goal.returns-then-not-has_room
returns-then-not-has_room c =
    let rest = others_counted c.args.tenant c.requires.looked c.without-rest.ensures in
    gives_same (refusal_given NoRoom _) (place_without_room _ _ _ _ (no_room_found _ _ rest c.has_room.ensures c.if-not-has_room.true))

pub resettle-requires : goal.resettle-requires
resettle-requires c =
    let rest = others_counted c.args.tenant c.requires.looked c.without-rest.ensures in
    let counted = newcomer_counted c.requires.ready c.requires.looked.in_order c.requires.level rest c.one_more.ensures in
    let room = room_found _ _ rest c.has_room.ensures c.if-not-has_room.false in
    let goal : List ℕ → Type 0 = λ cs. Target c.args.height c.args.table.now c.args.tenant cs c.args.level in
    record { ready = c.requires.ready; looked = c.requires.looked; target = subst goal (sym counted) (placed _ c.requires.level room) }

pub returns : goal.returns
returns c =
    let rest = others_counted c.args.tenant c.requires.looked c.without-rest.ensures in
    let counted = newcomer_counted c.requires.ready c.requires.looked.in_order c.requires.level rest c.one_more.ensures in
    let room = room_found _ _ rest c.has_room.ensures c.if-not-has_room.false in
    place_gives c.requires.ready c.requires.looked.in_order c.requires.level room (rw counted at c.resettle.ensures)
