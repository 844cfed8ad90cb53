-- The loop's invariant: to carry out the moves left on the table as it is gives what all of them give on the table as it was.
use mathlib.Core.Path.{◌≡◌}
use lib.ListN.{drop}
use Rattle.table.specs.Pairing.{written}
use Rattle.calls.proofs.carry.carry_out.Given as goal

abbrev pub invariant-loop-m : goal.invariant-loop-m
invariant-loop-m l = written l.table (drop l.m-index l.m-items) ≡ written l.initial.table l.m-items
