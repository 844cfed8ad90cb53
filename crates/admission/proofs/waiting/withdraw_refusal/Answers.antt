-- `admission::waiting::withdraw_refusal` meets its contract: where it looks into the line, that is in order.
use mathlib.Core.Path.{sym, ◌∙◌}
use Rattle.line.proofs.Ordered.{in_form}
use Rattle.admission.specs.Value.{lent}
use Rattle.admission.proofs.Joining.{line_ordered, withdraw_lengths}
use Rattle.admission.proofs.waiting.withdraw_refusal.Goals as goal

pub waits-requires : goal.waits-requires
waits-requires c =
    let a = c.args in
    let S = lent a.table.now a.line.now in
    let lengths = withdraw_lengths a.height S a.tenant (sym c.in_ok-tenant_refusal.ensures) in
    in_form _ _ _ (line_ordered a.height S lengths.numbers (sym c.both_in_order.ensures ∙ c.if-not-both_in_order.false))
