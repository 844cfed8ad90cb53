-- `reserve::entries::reserve_look` meets its contract: the cases of the definition.
use mathlib.Core.Path.{sym, ◌∙◌, ap}
use Prim.Native.Nat.{ℕ}
use native.Mathlib.Omega.{arith}
use Rattle.reserve.proofs.Look.{no_table, no_tenant, entry_of_tenant}
use Rattle.reserve.proofs.entries.reserve_look.Goals as goal

pub returns-then-table : goal.returns-then-table
returns-then-table c =
    let a = c.args in
    c.from.ensures ∙ sym (no_table a.table.now a.tenant c.if-table.true)

pub returns-then-t-ge-TENANTS : goal.returns-then-t-ge-TENANTS
returns-then-t-ge-TENANTS c =
    let x = c in
    let a = x.args in
    c.from-then-t-ge-TENANTS.ensures
    ∙ sym (no_tenant a.table.now a.tenant (omega (arith, x.if-table.false)) (omega (arith, c.if-t-ge-TENANTS.true)))

pub returns : goal.returns
returns c =
    let y = c in
    let x = y.before in
    let a = x.args in
    ap (λ (n : ℕ). record { answer = 0; node = n }) c.word-node.ensures
    ∙ sym (entry_of_tenant a.table.now a.tenant (omega (arith, x.if-table.false)) (omega (arith, y.if-t-ge-TENANTS.false)))
