-- `survey::ordered` meets its contract: each test that fails shows that the table is not in order, and the last one decides.
use mathlib.Core.Path.{sym, ◌∙◌}
use Prim.Native.Nat.{◌^◌, ◌≤◌, ◌<◌}
use native.Mathlib.Omega.{arith}
use Rattle.layout.specs.Layout.{pages}
use Rattle.survey.proofs.Gathered.{twice_not_in_order, no_room_not_in_order, owned_is_in_order}
use Rattle.survey.proofs.ordered.Goals as goal

pub returns-then-entries-nodes : goal.returns-then-entries-nodes
returns-then-entries-nodes c =
    twice_not_in_order c.requires
    (λ e. c.if-entries-nodes.true (c.used-entries.ensures ∙ e ∙ sym c.held-nodes.ensures))

pub returns-then-from-total : goal.returns-then-from-total
returns-then-from-total c =
    let over : 2 ^ c.args.height < pages c.args.counts.at = omega (arith, c.power.ensures, c.from.ensures, c.total.ensures) in
    no_room_not_in_order c.requires (sym c.used-entries.ensures ∙ c.if-entries-nodes.false ∙ c.held-nodes.ensures) over

pub returns : goal.returns
returns c =
    let fits : pages c.args.counts.at ≤ 2 ^ c.args.height = omega (arith, c.power.ensures, c.from.ensures, c.total.ensures) in
    let counted = sym c.used-entries.ensures ∙ c.if-entries-nodes.false ∙ c.held-nodes.ensures in
    c.settled.ensures ∙ owned_is_in_order c.requires counted fits
