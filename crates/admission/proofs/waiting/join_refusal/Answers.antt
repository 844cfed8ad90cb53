-- `admission::waiting::join_refusal` meets its contract: where it looks into the line, that is in order, and its length is what decides at last.
use mathlib.Core.Path.{sym, ◌∙◌}
use borrow.Author.Tests.{le-leb, lt-leb}
use Rattle.line.proofs.Ordered.{in_form}
use Rattle.admission.specs.Value.{lent}
use Rattle.admission.proofs.Joining.{line_ordered, join_lengths, join_by_count}
use Rattle.admission.proofs.waiting.join_refusal.Goals as goal

pub waits-requires : goal.waits-requires
waits-requires c =
    let a = c.args in
    let S = lent a.table.now a.line.now in
    let lengths = join_lengths a.height S a.tenant a.level (sym c.in_ok-level_refusal.ensures) in
    in_form _ _ _ (line_ordered a.height S lengths.numbers (sym c.both_in_order.ensures ∙ c.if-not-both_in_order.false))

pub returns-then-line-ge-MOST : goal.returns-then-line-ge-MOST
returns-then-line-ge-MOST c =
    let a = c.args in
    let by_count = join_by_count a.height (lent a.table.now a.line.now) a.tenant a.level (sym c.in_ok-level_refusal.ensures)
    (sym c.both_in_order.ensures ∙ c.if-not-both_in_order.false) c.if-table-tenant-ne0.false (sym c.waits.ensures ∙ c.if-waits.false) in
    rw (by_count, le-leb 64 _ c.if-line-ge-MOST.true)

pub returns : goal.returns
returns c =
    let a = c.args in
    let by_count = join_by_count a.height (lent a.table.now a.line.now) a.tenant a.level (sym c.in_ok-level_refusal.ensures)
    (sym c.both_in_order.ensures ∙ c.if-not-both_in_order.false) c.if-table-tenant-ne0.false (sym c.waits.ensures ∙ c.if-waits.false) in
    rw (by_count, lt-leb 64 _ c.if-line-ge-MOST.false)
