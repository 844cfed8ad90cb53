-- `works` meets its contract.
use mathlib.Core.Path.{◌∙◌}
use Rattle.staging.proofs.Steps.{works_by_groups}
use Rattle.staging.proofs.movers.Movers.works.Goals as goal

pub returns : goal.returns
returns c =
    c.within.ensures
    ∙ works_by_groups c.args.self c.args.staged c.all.result c.all_gone.result c.all.ensures c.all_gone.ensures
