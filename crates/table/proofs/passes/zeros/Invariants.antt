-- `table::passes::zeros` meets its contract. The loop's invariant: the count so far and the count from here on make the whole.
use mathlib.Core.Path.{◌≡◌}
use Prim.Native.Nat.{◌+◌}
use lib.Dec.{eqb}
use lib.ListN.{drop}
use Rattle.table.specs.Table.{tally}
use Rattle.table.proofs.passes.zeros.Given as goal

abbrev pub invariant-loop-entry : goal.invariant-loop-entry
invariant-loop-entry l = l.n + tally (λ e. eqb e 0) (drop l.entry-index l.part) ≡ tally (λ e. eqb e 0) l.part
