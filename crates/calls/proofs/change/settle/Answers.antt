-- `calls::change::settle` meets its contract: the call goes by its kind.
use mathlib.Core.Path.{ap, ◌∙◌}
use Rattle.refusal.specs.declared.Refusal.TheVariants.{HoldsNone}
use Rattle.rules.specs.Demand.{by_pages}
use Rattle.calls.specs.Changes.{grant_on}
use Rattle.rules.proofs.Checks.{asked_in_height}
use Rattle.rules.proofs.Given.{gives_same, refusal_given}
use Rattle.calls.proofs.Changing.{grow_of_nobody, grow_places, change_grants, change_grants_pages, change_releases, change_grows}
use Rattle.calls.proofs.change.settle.Goals as goal

pub grant-requires-in-GrantPages-clause-level : goal.grant-requires-in-GrantPages-clause-level
grant-requires-in-GrantPages-clause-level c =
    rw c.level_for.ensures (asked_in_height _ _ _ (by_pages {t = 0} {m = 0}) (rw c.in-GrantPages.is at c.requires.size))

pub returns-then-table-tenant-eq0 : goal.returns-then-table-tenant-eq0
returns-then-table-tenant-eq0 c =
    let T = c.args.table.now in
    rw c.in-Grow.is
    (gives_same (refusal_given HoldsNone T)
    (grow_of_nobody _ _ _ _ c.if-table-tenant-eq0.true ∙ change_grows _ _ c.requires.looked.in_order _ _))

pub returns-in-GrantLevel : goal.returns-in-GrantLevel
returns-in-GrantLevel c = rw c.in-GrantLevel.is (gives_same c.grant.ensures (change_grants _ _ c.requires.looked.in_order _ _))

pub returns-in-GrantPages : goal.returns-in-GrantPages
returns-in-GrantPages c =
    let rounded = ap (grant_on c.args.height c.args.table.now _) c.level_for.ensures in
    rw c.in-GrantPages.is
    (gives_same c.grant-in-GrantPages.ensures (rounded ∙ change_grants_pages _ _ c.requires.looked.in_order _ _))

pub returns-in-Release : goal.returns-in-Release
returns-in-Release c = rw c.in-Release.is (gives_same c.give_up.ensures (change_releases _ _ c.requires.looked.in_order _))

pub returns-else-table-tenant-eq0 : goal.returns-else-table-tenant-eq0
returns-else-table-tenant-eq0 c =
    rw c.in-Grow.is
    (gives_same c.place.ensures
    (grow_places _ _ _ _ c.if-table-tenant-eq0.false ∙ change_grows _ _ c.requires.looked.in_order _ _))
