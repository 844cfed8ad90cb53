-- `can_go` meets its contract.
use mathlib.Core.Path.{sym, ◌∙◌}
use Rattle.staging.proofs.Steps.{can_go_by_groups}
use Rattle.staging.proofs.movers.Movers.can_go.Goals as goal

pub returns-then-not-has : goal.returns-then-not-has
returns-then-not-has c =
    c.within.ensures ∙ can_go_by_groups c.args.self c.args.away c.args.k c.requires (sym c.has.ensures ∙ c.if-not-has.true)
