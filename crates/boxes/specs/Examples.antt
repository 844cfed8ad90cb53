-- Who waits by the book after each row of the worked examples, of those that begin with nobody in line. The rows themselves are what `step` does.
use Rattle.std.specs.Prelude.{◌≡◌, List, [], ◌∷◌, ℕ}
use Rattle.rules.specs.History.{in_table}
use Rattle.admission.specs.Examples.{Row, Example, state_with}
use Rattle.boxes.specs.History.{Book, enter}
use Rattle.boxes.specs.Demand.{line_by}

-- the book when an example begins: the holdings, and no events
abbrev pub book_for : Example → Book
book_for e = record { holdings = in_table e.height (state_with e.nodes []).table; events = [] }

-- the book after a row
abbrev pub entered : ℕ → Book → Row → Book
entered h B r = enter h r.call (record { answer = r.answer; named = r.named }) B

-- after each row those wait by the book whom the row names
unfoldable pub WaitAsWritten : ℕ → Book → List Row → Type 0
WaitAsWritten h B [] = Unit {0}
WaitAsWritten h B (r ∷ rs) = (line_by (entered h B r) ≡ r.waiting) × WaitAsWritten h (entered h B r) rs

unfoldable pub AllWaitAsWritten : List Example → Type 0
AllWaitAsWritten [] = Unit {0}
AllWaitAsWritten (e ∷ es) = (e.waiting ≡ [] → WaitAsWritten e.height (book_for e) e.rows) × AllWaitAsWritten es
