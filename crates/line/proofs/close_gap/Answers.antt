-- `line::close_gap` meets its contract.
use Rattle.line.proofs.Gap.{gap_is_closed}
use Rattle.line.proofs.close_gap.Goals as goal

pub returns : goal.returns
returns c =
    let copied = c.copy_within in
    gap_is_closed c.args.line.now c.args.from c.requires.0 c.requires.1 copied.new.self copied.ensures.after copied.ensures.len
    c.fill.new.self (c.fill.ensures.after (λ y q. q))
