-- Histories of calls on a table and a line, and the book that is kept of them. Document 01, "Histories", and document 02, L7.
use Rattle.std.specs.Prelude.{◌≡◌, Bool, true, false, cond, List, [], ◌∷◌, ◌++◌, ℕ, zero, suc, eqb}
use Rattle.std.proofs.Math.Option.{Option, some, none}
use Rattle.line.specs.Line.{Waiting}
use Rattle.passes.specs.Events.{Event, joins, withdraws, admitted, granted, waiting_after}
use Rattle.rules.specs.Call.{Call as Direct, tenant_of}
use Rattle.rules.specs.History.{Book as Holdings, write, enter as enter_holding, gave_block}
use Rattle.admission.specs.Call.{State, Call, direct, join, admit, withdraw}
use Rattle.admission.specs.Step.{Outcome, step, open_reserve}

-- a history at height h: an accepted opening of a lent table and a lent line, then any list of calls, each on what the last one left
pub record History (h : ℕ) : Type 0 where
  pub lent : State
  pub opened : (open_reserve h lent).answer ≡ 0
  pub calls : List Call

-- what the book is told of a call beside its arguments: the number that it answered, and the tenant that it named
pub record Reply : Type 0 where
  pub answer : ℕ
  pub named : Option ℕ

abbrev pub reply : Outcome → Reply
reply o = record { answer = o.answer; named = o.named }

-- the state after some calls, and their replies
unfoldable pub state_from : ℕ → State → List Call → State
state_from h S [] = S
state_from h S (c ∷ cs) = state_from h (step h S c).state cs

unfoldable pub replies_from : ℕ → State → List Call → List Reply
replies_from h S [] = []
replies_from h S (c ∷ cs) = reply (step h S c) ∷ replies_from h (step h S c).state cs

-- of a whole history
abbrev pub state_after : (h : ℕ) → History h → State
state_after h H = state_from h (open_reserve h H.lent).state H.calls

abbrev pub replies_of : (h : ℕ) → History h → List Reply
replies_of h H = replies_from h (open_reserve h H.lent).state H.calls

-- ---- the book, from the calls' arguments, answers and named tenants alone

-- for each tenant a level or nothing, and what happened to the line, the oldest first; `waiting_after` says who waits by that
pub record Book : Type 0 where
  pub holdings : Holdings
  pub events : List Event

-- the level that tenant t waits for
abbrev pub level_in : ℕ → List Waiting → Option ℕ
level_in t [] = none
level_in t (w ∷ W) = cond (eqb w.tenant t) (some w.level) (level_in t W)

-- one event more, if it happened
abbrev pub happened : Bool → Event → List Event → List Event
happened false e es = es
happened true e es = es ++ e ∷ []

-- a direct call: the holdings as they are kept without a line, and a direct grant that gave a block
abbrev pub enter_direct : ℕ → Direct → ℕ → Book → Book
enter_direct h c a B =
    let H = enter_holding h c a B.holdings in
    record { holdings = H; events = happened (gave_block (B.holdings (tenant_of c)) (H (tenant_of c))) granted B.events }

-- an admit that named tenant t: it holds the level that it waited for
abbrev pub enter_admitted : ℕ → Book → Book
enter_admitted t B = record { holdings = write t (level_in t (waiting_after B.events)) B.holdings; events = B.events ++ admitted t ∷ [] }

abbrev pub enter_event : Event → Book → Book
enter_event e B = record { holdings = B.holdings; events = B.events ++ e ∷ [] }

-- one call at height h with its reply
abbrev pub enter : ℕ → Call → Reply → Book → Book
enter h (direct c) r B = enter_direct h c r.answer B
enter h (join t l) r B = by_answer r.answer
  where
    by_answer : ℕ → Book
    by_answer zero = enter_event (joins t l) B
    by_answer (suc n) = B
enter h (admit m) r B = by_name r.named
  where
    by_name : Option ℕ → Book
    by_name none = B
    by_name (some t) = enter_admitted t B
enter h (withdraw t) r B = by_answer r.answer
  where
    by_answer : ℕ → Book
    by_answer zero = enter_event (withdraws t) B
    by_answer (suc n) = B

-- the book after some calls, fed each one's arguments and reply
unfoldable pub book_from : ℕ → Book → List Call → List Reply → Book
book_from h B [] rs = B
book_from h B (c ∷ cs) [] = B
book_from h B (c ∷ cs) (r ∷ rs) = book_from h (enter h c r B) cs rs

-- after the opening nobody holds or waits
abbrev pub book_after : (h : ℕ) → History h → Book
book_after h H = book_from h (record { holdings = λ t. none; events = [] }) H.calls (replies_of h H)
