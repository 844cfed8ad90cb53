-- What a call through the C door reports and leaves in the lent bytes, from what the same call does to the table and list that they stand for.
use Rattle.std.specs.Prelude.{◌≡◌, cond, List, ◌++◌, ℕ, ◌*◌, ◌/◌, eqb, length, drop}
use Rattle.std.proofs.Math.Option.{Option, some, none}
use Rattle.rules.specs.Call.{Call}
use Rattle.rules.specs.Step.{Outcome as TableOutcome, step as table_step}
use Rattle.rules.specs.declared.Call.{Call as Arguments}
use Rattle.admission.specs.Call.{State, direct, admit}
use Rattle.admission.specs.Step.{Outcome as StateOutcome, on_table, step, open_reserve}
use Rattle.admission.specs.Value.{lent}
use Rattle.admission.specs.declared.Request.{Request}
use Rattle.image.specs.Image.{image_of, table_of, line_in, move_bytes}
use Rattle.pagemap.specs.Count.{Counted as Bits}
use Rattle.reserve.specs.declared.Admission.{Admission}
use Rattle.reserve.specs.declared.Outcome.{Outcome}
use Rattle.reserve.specs.declared.page_map.Counted.{Counted}

-- lent bytes afterwards, by what a call answered: those of the new numbers; a refusal leaves every byte
abbrev pub bytes_after : ℕ → List ℕ → List ℕ → List ℕ
bytes_after answer numbers bytes = cond (eqb answer 0) (image_of numbers) bytes

-- the image of the table afterwards
abbrev pub image_after : TableOutcome → List ℕ → List ℕ
image_after o image = bytes_after o.answer o.table image

-- the list afterwards: the moves, eight bytes each, and the bytes after them as they were; a refusal leaves every byte
abbrev pub list_after : TableOutcome → List ℕ → List ℕ
list_after o list = cond (eqb o.answer 0) (move_bytes o.moves ++ drop (8 * length o.moves) list) list

-- r is the report of o, and the bytes afterwards are image' and list'
pub record Reported (o : TableOutcome) (image list : List ℕ) (r : Outcome) (image' list' : List ℕ) : Type 0 where
  pub answer : r.answer ≡ o.answer
  pub node : r.node ≡ o.node
  pub count : r.moves ≡ length o.moves
  pub table : image' ≡ image_after o image
  pub moves : list' ≡ list_after o list

-- so many entries has a list of bytes
abbrev pub entries_in : List ℕ → ℕ
entries_in list = length list / 8

-- r, image' and list' are what a call that takes no line, at height h and given the list's entries, makes of the image and the list
abbrev pub CalledOn : ℕ → (ℕ → Call) → List ℕ → List ℕ → Outcome → List ℕ → List ℕ → Type 0
CalledOn h call image list r image' list' = Reported (table_step h (table_of image) (call (entries_in list))) image list r image' list'

-- ---- calls that take a line

-- the table and the line that bytes stand for
abbrev pub state_in : List ℕ → List ℕ → State
state_in image line = lent (table_of image) (line_in line)

-- r is the report of o, and the bytes afterwards are image', line' and list'
pub record ReportedBehind (o : StateOutcome) (image line list : List ℕ) (r : Outcome) (image' line' list' : List ℕ) : Type 0 where
  pub of_table : Reported (on_table o) image list r image' list'
  pub line_bytes : line' ≡ bytes_after o.answer o.state.line line

-- r, image', line' and list' are what the call at height h, given the list's entries, makes of image, line and list
abbrev pub CalledBehind : ℕ → (ℕ → Call) → List ℕ → List ℕ → List ℕ → Outcome → List ℕ → List ℕ → List ℕ → Type 0
CalledBehind h call image line list r image' line' list' =
    ReportedBehind (step h (state_in image line) (direct (call (entries_in list)))) image line list r image' line' list'

-- the number that stands for the tenant named, and for nobody
abbrev pub tenant_number : Option ℕ → ℕ
tenant_number none = 65535
tenant_number (some t) = t

-- a report without the tenant named
abbrev pub without_tenant : Admission → Outcome
without_tenant r = record { answer = r.answer; node = r.node; moves = r.moves }

-- r is the report of o, with the tenant that it names
pub record ReportedAdmission (o : StateOutcome) (image line list : List ℕ) (r : Admission) (image' line' list' : List ℕ) : Type 0 where
  pub behind : ReportedBehind o image line list (without_tenant r) image' line' list'
  pub tenant : r.tenant ≡ tenant_number o.named

-- r, image', line' and list' are what an admit at height h, given the list's entries, makes of image, line and list
abbrev pub AdmittedOn : ℕ → List ℕ → List ℕ → List ℕ → Admission → List ℕ → List ℕ → List ℕ → Type 0
AdmittedOn h image line list r image' line' list' =
    ReportedAdmission (step h (state_in image line) (admit (entries_in list))) image line list r image' line' list'

-- a call that changes the line alone has answered r, and the line's bytes afterwards are line'
pub record LineCalled (o : StateOutcome) (line : List ℕ) (r : ℕ) (line' : List ℕ) : Type 0 where
  pub answer : r ≡ o.answer
  pub line_bytes : line' ≡ bytes_after o.answer o.state.line line

-- an opening has answered r, and the bytes afterwards are image' and line'
pub record OpenedOn (h : ℕ) (image line : List ℕ) (r : ℕ) (image' line' : List ℕ) : Type 0 where
  pub called : LineCalled (open_reserve h (state_in image line)) line r line'
  pub table_bytes : image' ≡ bytes_after (open_reserve h (state_in image line)).answer (open_reserve h (state_in image line)).state.table image

-- requests that take a line: grants of either kind, and admits
pub data TakesLine : Request → Type 0 where
  by_level : {t l : ℕ} → TakesLine (Request.Direct (Arguments.GrantLevel t l))
  by_pages : {t p : ℕ} → TakesLine (Request.Direct (Arguments.GrantPages t p))
  an_admit : TakesLine Request.Admit

-- ---- the page map

-- the count of a map
abbrev pub count_of : Bits → Counted
count_of b = record { answer = b.answer; count = b.count }
