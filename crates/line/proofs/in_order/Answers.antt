-- `line::in_order` meets its contract: it tests one condition after the other.
use mathlib.Core.Path.{sym, ◌∙◌}
use Rattle.line.proofs.Ordered.{disorder_many, disorder_used, in_order_if_orderly}
use Rattle.line.proofs.in_order.Goals as goal

pub returns-then-count-gt-MOST : goal.returns-then-count-gt-MOST
returns-then-count-gt-MOST c =
    let a = c.args in
    sym (disorder_many a.height a.table.now a.line.now c.if-count-gt-MOST.true)

pub returns-then-used-ne0 : goal.returns-then-used-ne0
returns-then-used-ne0 c =
    let a = c.args in
    let few = c.if-count-gt-MOST.false in
    sym (disorder_used a.height a.table.now a.line.now few c.used.result c.used.ensures c.if-used-ne0.true)

pub returns : goal.returns
returns c =
    let a = c.args in
    let used = c.used in
    let few = c.if-count-gt-MOST.false in
    c.orderly.ensures
    ∙ sym (in_order_if_orderly a.height a.table.now a.line.now few used.result used.ensures c.if-used-ne0.false)
