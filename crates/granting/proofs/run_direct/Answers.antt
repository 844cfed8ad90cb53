-- `granting::run_direct` meets its contract: a grant goes behind the line, and a release or a growth to the table alone.
use Rattle.granting.proofs.Behind.{grant_level_asked, alone_given}
use Rattle.granting.proofs.run_direct.Goals as goal

pub grant-requires-clause-asks : goal.grant-requires-clause-asks
grant-requires-clause-asks c = grant_level_asked _ _ c.in-GrantLevel.is

pub returns-in-Release : goal.returns-in-Release
returns-in-Release c = alone_given _ _ _ _ c.in-Release.is c.requires.arguments c.settle.ensures
