-- `reserve_grant_pages` meets its contract, by that of `run`.
use Rattle.reserve.specs.Door.{by_pages}
use Rattle.reserve.proofs.reserve_grant_pages.Goals as goal

pub run-requires : goal.run-requires
run-requires c = by_pages
