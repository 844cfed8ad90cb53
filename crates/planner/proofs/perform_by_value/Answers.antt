-- `perform_by_value` meets its contract: a list of seven entries is as good as any that the call takes.
use Rattle.admission.specs.Value.{lent}
use Rattle.admission.proofs.Answering.{admitted_same}
use Rattle.admission.proofs.Requests.{seven_enough}
use Rattle.planner.proofs.perform_by_value.Goals as goal

pub returns : goal.returns
returns c =
    let a = c.args in
    let enough = rw c.least_entries.ensures at c.if-entries-least_entries.false in
    admitted_same c.perform_on_seven.ensures (seven_enough a.height (lent a.table.now a.line.now) a.request a.entries enough)
