-- `better` meets its contract.
use mathlib.Core.Path.{◌≡◌, sym, ◌∙◌}
use mathlib.Core.Bool.{Bool, cond}
use Rattle.staging.specs.Choice.{graph_of, cheaper_of, better_of}
use Rattle.staging.proofs.Steps.{better_by_groups}
use Rattle.staging.proofs.movers.Movers.better.Goals.{After-apart}
use Rattle.staging.proofs.movers.Movers.better.Goals as goal

-- by the test of the two groups
by_test : (c : After-apart) (t : Bool) → c.apart.result ≡ t
    → cond t (cheaper_of (graph_of c.args.self) c.args.group c.args.best.group) c.args.best.group
    ≡ better_of (graph_of c.args.self) c.args.group c.args.best.group
by_test c t e =
    let a = c.args in
    better_by_groups (graph_of a.self) a.group a.free a.best.group t c.requires.2 c.requires.1 (sym c.apart.ensures ∙ e)

pub returns-then-apart-clause-group : goal.returns-then-apart-clause-group
returns-then-apart-clause-group c =
    c.cheaper.ensures.group ∙ by_test (goal.at.returns-then-apart-clause-group c).After-apart _ c.if-apart.true

pub returns-else-apart-clause-group : goal.returns-else-apart-clause-group
returns-else-apart-clause-group c = by_test (goal.at.returns-else-apart-clause-group c).After-apart _ c.if-apart.false
