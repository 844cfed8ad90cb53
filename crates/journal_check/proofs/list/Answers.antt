-- By `next_offset`, a record ends behind where it begins, and within the journal.
use Rattle.std.proofs.Common.{sym, arith, ◌∙◌}
use Rattle.journal.proofs.Theorems.{next_offset}
use Rattle.journal_check.proofs.list.Goals as goal

pub loop-found-smaller : goal.loop-found-smaller
loop-found-smaller c =
    let found = rw c.in-Ok-Some.field-0-is at (sym c.read_at.ensures ∙ c.in-Ok-Some.is) in
    omega (arith, next_offset c.args.journal.now c.loop-found.offset c.in-Ok-Some.found.record c.in-Ok-Some.found.next found)
