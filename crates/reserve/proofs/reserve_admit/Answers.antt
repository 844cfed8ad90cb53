-- `reserve_admit` meets its contract, by that of `run`.
use Rattle.reserve.specs.Door.{an_admit}
use Rattle.reserve.proofs.reserve_admit.Goals as goal

pub run-requires : goal.run-requires
run-requires c = an_admit
