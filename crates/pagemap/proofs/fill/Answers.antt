-- `pagemap::fill` meets its contract.
use Rattle.std.proofs.Common.{rules}
use Rattle.pagemap.proofs.Filled.{filled_part}
use Rattle.pagemap.proofs.fill.Goals as goal

pub returns : goal.returns
returns c =
    rw (c.fill.ensures.after (λ y same. search rules), c.min.ensures, c.min-2.ensures)
    (filled_part c.args.from c.args.to c.args.pages.now 4096 c.told-pages c.requires)
