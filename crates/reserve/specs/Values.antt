-- What values stand for at the door.
use Rattle.admission.specs.Call.{Call, join, withdraw}
use Rattle.reserve.specs.declared.Change.{Change}

-- the call that changes the line
abbrev pub changing : Change → Call
changing (Change.Join t l) = join t l
changing (Change.Withdraw t) = withdraw t
