-- `table::passes::store` meets its contract. The loop's invariant: the entries from `tenant` on, stored over what is stored so far, make the whole.
use mathlib.Core.Path.{◌≡◌}
use lib.ListN.{drop}
use Rattle.table.specs.Owners.{owners_from}
use Rattle.table.proofs.passes.store.Given as goal

abbrev pub invariant-loop-tenant : goal.invariant-loop-tenant
invariant-loop-tenant l = owners_from l.owner l.tenant (drop l.tenant l.table) ≡ owners_from l.initial.owner 0 l.table
