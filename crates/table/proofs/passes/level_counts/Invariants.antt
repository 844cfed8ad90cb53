-- `table::passes::level_counts` meets its contract. The loop's invariant: the levels above `level` are counted, and `first` is the first
-- node of `level`.
use mathlib.Core.Path.{◌≡◌}
use Prim.Native.Nat.{suc, ◌-◌, ◌^◌, ◌≤◌}
use Rattle.table.specs.Table.{tabulate}
use Rattle.table.specs.Owners.{count_up_to}
use Rattle.table.proofs.Tabulate.{from}
use Rattle.table.proofs.passes.level_counts.Given as goal

abbrev pub invariant-loop-level : goal.invariant-loop-level
invariant-loop-level l =
    (l.level ≤ l.height) × (l.first ≡ 2 ^ (l.height - l.level)) × (l.counts ≡ tabulate 0 13 (from (suc l.level) (count_up_to l.height l.owner)))
