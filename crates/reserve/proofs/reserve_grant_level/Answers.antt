-- `reserve_grant_level` meets its contract, by that of `run`.
use Rattle.reserve.specs.Door.{by_level}
use Rattle.reserve.proofs.reserve_grant_level.Goals as goal

pub run-requires : goal.run-requires
run-requires c = by_level
