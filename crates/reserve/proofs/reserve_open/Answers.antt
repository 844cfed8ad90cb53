-- `reserve_open` meets its contract: only the lengths decide whether it is refused, and then every byte stays, else all become 0.
use Rattle.refusal.proofs.Numbers.{not_zero}
use Rattle.std.proofs.Common.{refl, sym, ◌∙◌}
use Rattle.reserve.proofs.Behind.{open_refused, open_done}
use Rattle.reserve.proofs.reserve_open.Goals as goal

pub returns-in-Err : goal.returns-in-Err
returns-in-Err c =
    open_refused c.args.height c.args.table.now c.args.line.now c.lent_count-entries.ensures c.lent_count-numbers.ensures
    (c.from.ensures ∙ c.in-Err.ensures) (not_zero c.in-Err.refusal c.from.result (sym c.from.ensures))

pub returns : goal.returns
returns c =
    open_done c.args.height c.args.table.now c.args.line.now c.lent_count-entries.ensures c.lent_count-numbers.ensures c.in_default.ensures refl
    (c.fill.ensures.after (λ y is. is)) (c.fill-2.ensures.after (λ y is. is))
