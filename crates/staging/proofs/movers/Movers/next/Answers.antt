-- `next` meets its contract: nobody from `k` on can go.
use mathlib.Core.Path.{refl, sym, ◌∙◌}
use Rattle.staging.specs.Choice.{next_of}
use Rattle.staging.proofs.Highest.{highest_goes_on, highest_found, found_below}
use Rattle.staging.proofs.movers.Movers.next.Goals as goal

pub loop-k-init : goal.loop-k-init
unfolding next_of
loop-k-init c = refl

pub returns-then-can_go : goal.returns-then-can_go
returns-then-can_go c =
    found_below _ _ c.loop-k-test.true
    (sym (highest_found _ _ c.loop-k-test.true (sym c.can_go.ensures ∙ c.if-can_go.true)) ∙ c.loop-k.invariant)

pub loop-k-preserved : goal.loop-k-preserved
loop-k-preserved c =
    sym (highest_goes_on _ _ c.loop-k-test.true (sym c.can_go.ensures ∙ c.if-can_go.false)) ∙ c.loop-k.invariant
