-- `survey::level_settled` meets its contract: it looks at the run, and then at the lone node if there is one.
use mathlib.Core.Path.{◌≡◌, refl, ◌∙◌}
use mathlib.Core.Bool.{true, false, not}
use mathlib.Core.List.{List}
use Prim.Native.Nat.{ℕ, zero, suc, ◌+◌, ◌-◌}
use native.Mathlib.Omega.{arith}
use borrow.Author.Tests.{eq-eqb, ne_eqb, lt-ltb}
use lib.Dec.{eqb, ltb}
use lib.ListN.{get_or, take, drop}
use Rattle.layout.specs.Rows.{no_index}
use Rattle.table.specs.Owners.{used_in}
use Rattle.survey.specs.Owned.{owned, run_owned, row_owned}
use Rattle.survey.proofs.level_settled.Goals as goal

-- r of the run's nodes are found to have an owner
module _ (o : List ℕ) (w s n x r : ℕ) (found : r ≡ used_in (take (w + s + n - (w + s)) (drop (w + s) o))) where
  run_is : run_owned o (w + s) n ≡ eqb r n
  unfolding run_owned
  run_is = let width : w + s + n - (w + s) ≡ n = omega arith in rw (found, width)

  row-with-gap : ¬ (r ≡ n) → false ≡ row_owned o w s n x
  unfolding row_owned
  row-with-gap d = rw (run_is, ne_eqb r n d)

  row-without-lone : r ≡ n → x ≡ no_index → true ≡ row_owned o w s n x
  unfolding row_owned
  row-without-lone e f = rw (run_is, eq-eqb r n e, eq-eqb x no_index f)

  row-with-lone : r ≡ n → ¬ (x ≡ no_index) → owned o (w + x) ≡ row_owned o w s n x
  unfolding row_owned
  row-with-lone e d = rw (run_is, eq-eqb r n e, ne_eqb x no_index d)

not_zero_is_positive : (v : ℕ) → not (eqb v 0) ≡ ltb 0 v
not_zero_is_positive zero = refl
not_zero_is_positive (suc v) =
    let some : ¬ (suc v ≡ 0) = omega arith in
    rw (ne_eqb (suc v) 0 some, lt-ltb 0 (suc v) (omega arith))

pub returns-then-used-width : goal.returns-then-used-width
returns-then-used-width c =
    let a = c.args in
    rw (← c.from.ensures, ← c.from-width.ensures)
    (row-with-gap a.nodes.now a.first c.from.result c.from-width.result a.lone c.used.result c.used.ensures c.if-used-width.true)

pub returns-then-lone-eq-NONE : goal.returns-then-lone-eq-NONE
returns-then-lone-eq-NONE c =
    let a = c.args in
    rw (← c.from.ensures, ← c.from-width.ensures)
    (row-without-lone a.nodes.now a.first c.from.result c.from-width.result a.lone c.used.result c.used.ensures c.if-used-width.false
    c.if-lone-eq-NONE.true)

pub returns : goal.returns
returns c =
    let a = c.args in
    let lone_is = row-with-lone a.nodes.now a.first c.from.result c.from-width.result a.lone c.used.result c.used.ensures
    c.if-used-width.false c.if-lone-eq-NONE.false in
    rw (c.from-2.ensures, ← c.from.ensures, ← c.from-width.ensures) (not_zero_is_positive (get_or a.nodes.now (a.first + a.lone) 0) ∙ lone_is)
