-- A mover as the program has it.
use Rattle.staging.specs.declared.movers.Mover.{Mover}

-- what stands for a mover past the end of a list
abbrev pub nobody : Mover
nobody = record { waits = 0; pages = 0 }
