-- `granting::grant::give` meets its contract: the table is changed as without a line, and a block given passes everybody in line.
use mathlib.Core.Path.{refl, sym, ap, ◌∙◌}
use native.Mathlib.Omega.{arith}
use Rattle.std.proofs.lemmas.Result.{err_from_is_err_and}
use Rattle.refusal.proofs.Numbers.{not_zero}
use Rattle.table.specs.Table.{node_at}
use Rattle.rules.specs.Value.{call_of}
use Rattle.granting.proofs.Behind.{form_of_line, refused_given, holder_given, block_given}
use Rattle.granting.proofs.grant.give.Goals as goal

pub returns-in_err-done : goal.returns-in_err-done
returns-in_err-done c =
    let p = err_from_is_err_and c.from_residual.result c.from_residual.ensures.1 in
    let r = c.requires in
    rw (p.1, p.2) (refused_given _ _ _ _ r.asks r.looked.in_order r.unopposed c.in_err-done.ensures (not_zero c.in_err-done.field-0.0 _ refl))

pub pass-requires : goal.pass-requires
pass-requires c = let u = c.requires.unopposed in (form_of_line _ _ (call_of c.args.call 7) u.arguments u.line, omega arith)

pub returns-then-had-eq0 : goal.returns-then-had-eq0
returns-then-had-eq0 c =
    let r = c.requires in
    let nothing = ap (node_at c.args.table.now) (sym c.tenant.ensures) ∙ c.if-had-eq0.true in
    block_given _ _ _ _ r.asks r.looked.in_order r.unopposed c.in_ok-done.ensures nothing refl c.pass.ensures

pub returns-else-had-eq0 : goal.returns-else-had-eq0
returns-else-had-eq0 c =
    let r = c.requires in
    holder_given _ _ _ _ r.asks r.looked.in_order r.unopposed c.in_ok-done.ensures
    (λ z. c.if-had-eq0.false (ap (node_at c.args.table.now) c.tenant.ensures ∙ z))
