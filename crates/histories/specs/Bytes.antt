-- Demand 3 for the C door, with the growth of document 02, L5, the repeated grant of L6 and the line of L7: two histories of lent bytes, led on by
-- nothing but what the contracts of the exported functions say of the bytes.
use Rattle.std.specs.Prelude.{◌≡◌, false, cond, List, [], ◌∷◌, ◌++◌, ℕ, ◌≤◌, eqb}
use Rattle.std.proofs.Math.Option.{none, some}
use Rattle.table.specs.Table.{node_at}
use Rattle.line.specs.Order.{waits}
use Rattle.rules.specs.Call.{Call as Direct, grant_level, grant_pages, release, grow, tenant_of}
use Rattle.rules.specs.History.{held}
use Rattle.rules.specs.Demand.{Valid, Asks, Releases, Grows, NoPlacement, NoExchange}
use Rattle.admission.specs.Call.{Call, direct, join, admit, withdraw}
use Rattle.admission.specs.Step.{step}
use Rattle.boxes.specs.History.{Reply, reply, Book}
use Rattle.boxes.specs.Demand.{line_by, SomebodyAtEight, Boxes}
use Rattle.image.specs.Image.{image_of, table_of, line_in}
use Rattle.reserve.specs.Door.{entries_in, CalledOn, state_in, CalledBehind, AdmittedOn, LineCalled, OpenedOn}
use Rattle.reserve.specs.declared.Outcome.{Outcome}
use Rattle.reserve.specs.declared.Admission.{Admission}
use Rattle.histories.specs.Listing.{book_of}

-- a reply that names nobody, and one that names the tenant whose number was reported, if that is not the number of nobody
abbrev pub unnamed : ℕ → Reply
unnamed answer = record { answer = answer; named = none }

abbrev pub naming : ℕ → ℕ → Reply
naming answer tenant = record { answer = answer; named = cond (eqb tenant 65535) none (some tenant) }

-- The calls that the exported functions make on an image of a table and one of a line, by what stands in their contracts, with r for what is returned
-- and a prime for the bytes afterwards: the call, with as many entries as the list lent has, its reply, and the two images afterwards.
pub data Exported (h : ℕ) (image line : List ℕ) : Call → Reply → List ℕ → List ℕ → Type 0 where
  reserve_grant_level : {list image' line' list' : List ℕ} {r : Outcome} (tenant level : ℕ)
      → CalledBehind h (grant_level tenant level) image line list r image' line' list'
      → Exported h image line (direct (grant_level tenant level (entries_in list))) (unnamed r.answer) image' line'
  reserve_grant_pages : {list image' line' list' : List ℕ} {r : Outcome} (tenant pages : ℕ)
      → CalledBehind h (grant_pages tenant pages) image line list r image' line' list'
      → Exported h image line (direct (grant_pages tenant pages (entries_in list))) (unnamed r.answer) image' line'
  reserve_release : {list image' list' : List ℕ} {r : Outcome} (tenant : ℕ) → CalledOn h (release tenant) image list r image' list'
      → Exported h image line (direct (release tenant (entries_in list))) (unnamed r.answer) image' line
  reserve_grow : {list image' list' : List ℕ} {r : Outcome} (tenant level : ℕ) → CalledOn h (grow tenant level) image list r image' list'
      → Exported h image line (direct (grow tenant level (entries_in list))) (unnamed r.answer) image' line
  reserve_join : {line' : List ℕ} {r : ℕ} (tenant level : ℕ) → LineCalled (step h (state_in image line) (join tenant level)) line r line'
      → Exported h image line (join tenant level) (unnamed r) image line'
  reserve_withdraw : {line' : List ℕ} {r : ℕ} (tenant : ℕ) → LineCalled (step h (state_in image line) (withdraw tenant)) line r line'
      → Exported h image line (withdraw tenant) (unnamed r) image line'
  reserve_admit : {list image' line' list' : List ℕ} {r : Admission} → AdmittedOn h image line list r image' line' list'
      → Exported h image line (admit (entries_in list)) (naming r.answer r.tenant) image' line'

-- A history of lent bytes at height h: the images of table and line now, the calls so far and their replies, the last one at the end. It begins with
-- a `reserve_open` that reported 0, on any bytes; then come calls on the images that the last one left, refused ones too, each with any list.
pub data Led (h : ℕ) : List ℕ → List ℕ → List Call → List Reply → Type 0 where
  opened : (image line : List ℕ) {image' line' : List ℕ} {r : ℕ} → OpenedOn h image line r image' line' → r ≡ 0 → Led h image' line' [] []
  called : {image line image' line' : List ℕ} {calls : List Call} {replies : List Reply} {c : Call} {r : Reply} → Led h image line calls replies
      → Exported h image line c r image' line' → Led h image' line' (calls ++ c ∷ []) (replies ++ r ∷ [])

-- two reports: both "no room", and nothing is legal; or both 0, and each with at most so many moves
pub data SameReport (nothing_legal : Type 0) (most : ℕ) (one two : Outcome) : Type 0 where
  no_room : one.answer ≡ 10 → two.answer ≡ 10 → nothing_legal → SameReport nothing_legal most one two
  room : one.answer ≡ 0 → two.answer ≡ 0 → one.moves ≤ most → two.moves ≤ most → ¬ nothing_legal → SameReport nothing_legal most one two

-- a report of 0, the node n and no moves, that leaves every byte lent as it was
pub record Untouched (n : ℕ) (image line list : List ℕ) (r : Outcome) (image' line' list' : List ℕ) : Type 0 where
  pub answer : r.answer ≡ 0
  pub node : r.node ≡ n
  pub moves : r.moves ≡ 0
  pub table_bytes : image' ≡ image
  pub line_bytes : line' ≡ line
  pub list_bytes : list' ≡ list

-- the bytes of one box, and its book
pub record BytesOfBox (h : ℕ) (image line : List ℕ) (B : Book) : Type 0 where
  -- they are the images of the table and the line that they stand for, and hold nothing else
  pub image_of_table : image ≡ image_of (table_of image)
  pub image_of_line : line ≡ image_of (line_in line)
  -- after the next call they stand for what `step` leaves, and its reply is that of `step`
  pub next_state : (c : Call) (r : Reply) (image' line' : List ℕ) → Exported h image line c r image' line'
      → state_in image' line' ≡ (step h (state_in image line) c).state
  pub next_reply : (c : Call) (r : Reply) (image' line' : List ℕ) → Exported h image line c r image' line'
      → r ≡ reply (step h (state_in image line) c)
  -- a grant of the level that the book has for its tenant, which is a repeated one, names the tenant's node and leaves every byte
  pub repeated_grants : (call : ℕ → Direct) (list image' line' list' : List ℕ) (r : Outcome)
      → CalledBehind h call image line list r image' line' list'
      → (l : ℕ) → Asks h (call (entries_in list)) l → Valid h (call (entries_in list)) → B.holdings (tenant_of (call (entries_in list))) ≡ some l
      → Untouched (node_at (table_of image) (tenant_of (call (entries_in list)))) image line list r image' line' list'
  -- no call reports more moves than its kind may: a grant and an admit three, a release four, a growth seven
  pub grant_reports : (call : ℕ → Direct) (list image' line' list' : List ℕ) (r : Outcome) → CalledBehind h call image line list r image' line' list'
      → (l : ℕ) → Asks h (call (entries_in list)) l → r.moves ≤ 3
  pub admit_reports : (list image' line' list' : List ℕ) (r : Admission) → AdmittedOn h image line list r image' line' list' → r.moves ≤ 3
  pub release_reports : (call : ℕ → Direct) (list image' list' : List ℕ) (r : Outcome) → CalledOn h call image list r image' list'
      → Releases (call (entries_in list)) → r.moves ≤ 4
  pub growth_reports : (call : ℕ → Direct) (list image' list' : List ℕ) (r : Outcome) → CalledOn h call image list r image' list'
      → (l : ℕ) → Grows (call (entries_in list)) l → r.moves ≤ 7

-- what two requests for one level report next, on two boxes whose books hold equal sizes
abbrev pub SameReports : ℕ → List ℕ → List ℕ → List ℕ → List ℕ → Book → Book → Type 0
SameReports h image₁ line₁ image₂ line₂ B₁ B₂ =
    (call₁ call₂ : ℕ → Direct) (list₁ list₂ image₁' image₂' line₁' line₂' list₁' list₂' : List ℕ) (r₁ r₂ : Outcome)
    → CalledBehind h call₁ image₁ line₁ list₁ r₁ image₁' line₁' list₁' → CalledBehind h call₂ image₂ line₂ list₂ r₂ image₂' line₂' list₂'
    → (l : ℕ) → Asks h (call₁ (entries_in list₁)) l → Asks h (call₂ (entries_in list₂)) l
    → Valid h (call₁ (entries_in list₁)) → Valid h (call₂ (entries_in list₂))
    → B₁.holdings (tenant_of (call₁ (entries_in list₁))) ≡ none → B₂.holdings (tenant_of (call₂ (entries_in list₂))) ≡ none
    → waits (tenant_of (call₁ (entries_in list₁))) (line_by B₁) ≡ false → waits (tenant_of (call₂ (entries_in list₂))) (line_by B₂) ≡ false
    → SameReport (NoPlacement h B₁.holdings l) 3 r₁ r₂

-- two boxes by their bytes and their books
pub record BoxesOfBytes (h : ℕ) (image₁ line₁ image₂ line₂ : List ℕ) (B₁ B₂ : Book) : Type 0 where
  -- demand 3's conclusion, for the tables and lines that the bytes stand for
  pub boxes : Boxes h (state_in image₁ line₁) (state_in image₂ line₂) B₁ B₂
  pub bytes_one : BytesOfBox h image₁ line₁ B₁
  pub bytes_two : BytesOfBox h image₂ line₂ B₂
  -- of tenants that neither hold nor wait, behind lines in which nobody was passed eight times; with nobody in line it is demand 3's sentence
  pub same_reports : ((l : ℕ) → held B₁.holdings l ≡ held B₂.holdings l) → ¬ SomebodyAtEight (line_by B₁) → ¬ SomebodyAtEight (line_by B₂)
      → SameReports h image₁ line₁ image₂ line₂ B₁ B₂
  -- and what two tenants of one level that grow to one level report
  pub same_growths : ((l : ℕ) → held B₁.holdings l ≡ held B₂.holdings l) → (call₁ call₂ : ℕ → Direct)
      (list₁ list₂ image₁' image₂' list₁' list₂' : List ℕ) (r₁ r₂ : Outcome)
      → CalledOn h call₁ image₁ list₁ r₁ image₁' list₁' → CalledOn h call₂ image₂ list₂ r₂ image₂' list₂'
      → (l k : ℕ) → Grows (call₁ (entries_in list₁)) l → Grows (call₂ (entries_in list₂)) l
      → Valid h (call₁ (entries_in list₁)) → Valid h (call₂ (entries_in list₂))
      → B₁.holdings (tenant_of (call₁ (entries_in list₁))) ≡ some k → B₂.holdings (tenant_of (call₂ (entries_in list₂))) ≡ some k
      → SameReport (NoExchange h B₁.holdings (tenant_of (call₁ (entries_in list₁))) l) 7 r₁ r₂

-- demand 3 over bytes: what holds of the bytes and the books after any two such histories of one height
abbrev pub BytesDemand3 : Type 0
BytesDemand3 = (h : ℕ) (image₁ line₁ image₂ line₂ : List ℕ) (calls₁ calls₂ : List Call) (replies₁ replies₂ : List Reply)
    → Led h image₁ line₁ calls₁ replies₁ → Led h image₂ line₂ calls₂ replies₂
    → BoxesOfBytes h image₁ line₁ image₂ line₂ (book_of h calls₁ replies₁) (book_of h calls₂ replies₂)
