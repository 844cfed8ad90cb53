-- `pagemap::write_map` meets its contract. The loop's invariant: the rows of the levels below `level` are set.
use Rattle.std.proofs.Common.{◌≡◌}
use Rattle.layout.specs.Rows.{rows_hold}
use Rattle.pagemap.specs.Flags.{flags}
use Rattle.pagemap.proofs.Rows.{covered_below}
use Rattle.pagemap.proofs.write_map.Given as goal

abbrev pub invariant-loop-level : goal.invariant-loop-level
invariant-loop-level l = l.pages ≡ flags 4096 (covered_below l.level (rows_hold (record { start = l.start; run = l.run; lone = l.lone })))
