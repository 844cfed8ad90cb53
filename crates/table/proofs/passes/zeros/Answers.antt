-- `table::passes::zeros` meets its contract. The loop's invariant: the count so far and the count from here on make the whole.
use mathlib.Core.Path.{◌≡◌, refl}
use mathlib.Core.Bool.{Bool, true, false}
use mir.Val.{bool_byte}
use native.Mathlib.Omega.{arith}
use native.Mathlib.Numerals.{add-one}
use lib.Dec.{eqb}
use Rattle.tree.specs.Held.{one_if}
use Rattle.table.specs.Table.{node_at}
use Rattle.table.proofs.Used.{tally_le_length, tally_from, tally_from_end}
use Rattle.table.proofs.passes.zeros.Goals as goal

-- an entry adds one exactly if it is 0
added : (b : Bool) → bool_byte b ≡ one_if b
added true = refl
added false = refl

pub overflow_add-n : goal.overflow_add-n
overflow_add-n c =
    let part = c.args.part.now in
    let i = c.loop-entry.entry-index in
    let more = tally_from (λ e. eqb e 0) part i (omega arith) in
    omega (arith, c.from-n.ensures, added (eqb (node_at part i) 0), more, tally_le_length (λ e. eqb e 0) part)

pub loop-entry-preserved : goal.loop-entry-preserved
loop-entry-preserved c =
    let part = c.args.part.now in
    let i = c.loop-entry.entry-index in
    let more = tally_from (λ e. eqb e 0) part i (omega arith) in
    rw (add-one i) (omega (arith, c.from-n.ensures, added (eqb (node_at part i) 0), more))

pub returns : goal.returns
returns c = omega (arith, tally_from_end (λ e. eqb e 0) c.args.part.now c.loop-entry.entry-index (omega arith))
