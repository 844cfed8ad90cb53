-- `run_alone` meets its contract, by what `calls::run` does to the table of the image.
use Rattle.rules.specs.Value.{call_of}
use Rattle.reserve.specs.Door.{entries_in}
use Rattle.reserve.proofs.Reports.{call_room, call_finishes, call_reported}
use Rattle.reserve.proofs.run_alone.Goals as goal

pub finish-requires-clause-whole : goal.finish-requires-clause-whole
finish-requires-clause-whole c =
    call_finishes c.args.height (call_of c.args.call (entries_in c.args.moves.now)) c.decode-n.auto.numbers c.decode-n.ensures.front
    c.run-called.auto.table c.run-called.ensures

pub finish-requires-clause-room : goal.finish-requires-clause-room
finish-requires-clause-room c = call_room c.args.height c.args.call _ c.args.moves.now c.run-called.ensures

pub returns : goal.returns
returns c =
    call_reported c.args.height (call_of c.args.call (entries_in c.args.moves.now)) c.decode-n.auto.numbers c.decode-n.ensures.front
    c.run-called.auto.table c.run-called.ensures c.finish.ensures
