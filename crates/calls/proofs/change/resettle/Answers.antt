-- `calls::change::resettle` meets its contract: what the planner plans, carried out on the table without the tenant's entry.
use Rattle.calls.proofs.Changed.{old_counts_fit, target_fits, target_plannable, target_tenants, target_orderable, target_resettled}
use Rattle.calls.proofs.change.resettle.Goals as goal

pub layout-from-requires : goal.layout-from-requires
layout-from-requires c = old_counts_fit c.requires.ready c.requires.looked c.requires.target

pub layout-to-requires : goal.layout-to-requires
layout-to-requires c = target_fits c.requires.ready c.requires.looked.in_order c.requires.target

pub plan_moves-planned-requires : goal.plan_moves-planned-requires
plan_moves-planned-requires c =
    rw (c.layout-from.ensures, c.layout-to.ensures) (target_plannable c.requires.ready c.requires.looked c.requires.target)

pub carry_out-requires : goal.carry_out-requires
carry_out-requires c =
    target_tenants c.requires.ready c.requires.looked c.requires.target
    (rw (c.layout-from.ensures, c.layout-to.ensures) at c.plan_moves-planned.ensures)

pub in_order-requires : goal.in_order-requires
in_order-requires c =
    target_orderable c.requires.ready c.requires.looked c.requires.target
    (rw (c.layout-from.ensures, c.layout-to.ensures) at c.plan_moves-planned.ensures)

pub returns : goal.returns
returns c =
    target_resettled c.requires.ready c.requires.looked c.requires.target
    (rw (c.layout-from.ensures, c.layout-to.ensures) at c.plan_moves-planned.ensures) c.carry_out.ensures c.in_order.ensures
