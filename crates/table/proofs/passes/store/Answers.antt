-- `table::passes::store` meets its contract. The loop's invariant: the entries from `tenant` on, stored over what is stored so far, make the whole.
use mathlib.Core.Path.{sym, ◌∙◌}
use native.Mathlib.Omega.{arith}
use native.Mathlib.Numerals.{add-one}
use Rattle.table.proofs.Owners.{owners_step, owners_end, node_below}
use Rattle.table.proofs.passes.store.Goals as goal

pub bounds-owner-from : goal.bounds-owner-from
bounds-owner-from c = omega (arith, c.from.ensures, node_below 8192 c.args.table.now c.requires.1 c.loop-tenant.tenant (omega arith))

pub loop-tenant-preserved : goal.loop-tenant-preserved
loop-tenant-preserved c =
    let at = c.loop-tenant in
    rw (add-one at.tenant, c.from.ensures) (sym (owners_step at.owner c.args.table.now at.tenant (omega arith)) ∙ at.invariant)

pub returns : goal.returns
returns c =
    let at = c.loop-tenant in
    sym (owners_end at.owner c.args.table.now at.tenant (omega arith)) ∙ at.invariant
