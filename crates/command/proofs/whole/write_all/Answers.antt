-- What a write took of the bytes that were left, the target has behind those before.
use Rattle.std.proofs.Common.{rules, subst}
use Rattle.std.specs.Io.KnownBytes.{Appends}
use Rattle.std.proofs.KnownBytes.{Appends-trans}
use Rattle.command.proofs.Parts.{written_more}
use Rattle.command.proofs.whole.write_all.Goals as goal

pub loop-done-preserved-in-Ok : goal.loop-done-preserved-in-Ok
loop-done-preserved-in-Ok g c =
    let more = written_more c.loop-done.done c.in-Ok.n c.args.bytes.now in
    (search rules, subst (Appends _ _) more (Appends-trans _ _ _ _ _ c.loop-done.invariant.1 c.in-Ok.ensures.bytes))
