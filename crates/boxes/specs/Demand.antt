-- Demand 3 and document 01's list under "Histories" for reserves with a line, with what document 02, L7, promises to those who wait, as one statement
-- about two whole histories of one height. `Demand3`, near the end, is all of these, of both boxes, by name in the papers' order:
--
--   01  who has a level in the book has a node of that level, everybody else 0: `agrees`
--       the places are the one legal and safe set of the held sizes: `within`, `legal`, `safe`, `sized`, `only`
--       a grant is answered 8, or 10 exactly where there is no legal placement, or 0: `holder_asks`, `nobody_in_line`
--       a release is answered 9 or 0: `other_releases`, `holder_releases`; what is not valid, the first of 3 to 6: `not_valid`, and of L7's calls
--       `join_tenant`, `join_level`, `admit_entries`, `withdraw_tenant`
--       moves are the tenants whose node changed, at most three or four of them: `moves`, `grant_moves`, `release_moves`
--   00  two boxes with equal holdings occupy the same places and have the same fate: `same_places`, `same_fate_unlined`, `same_fate`
--   L5  growths: `other_grows`, `holder_grows`, `same_level`, `growth_moves`, `same_growth`
--   L6  repeated starts: `holder_repeats`, `book_stays`, `gave`
--   L7  the line is in order and true, and nobody is passed more than eight times: `in_order`, `true_line`, `seldom`; who joins, withdraws and is
--       admitted: from `holder_joins` to `end`; the other calls beside it: `waiting_asks`, `other_asks`, `releases_leave_line`,
--       `growths_leave_line`, `admit_moves`
--
-- `SafeToRepeat`, at the end, says of lists of calls that starts may be repeated (L6); it holds on every table and line. So does demand 2, in
-- admission/specs/Demand.antt. That nobody who waits is passed more than eight times is said a second time in Passed.antt, over the calls alone.
use Rattle.std.specs.Prelude.{◌≡◌, Bool, true, false, cond, List, [], ◌∷◌, ◌⊎◌, ◌↔◌, ℕ, zero, suc, ◌+◌, ◌^◌, ◌≤◌, ◌<◌, length}
use Rattle.std.proofs.Math.Option.{some, none}
use Rattle.tree.specs.Held.{Nodes, Within, Legal, Safe, sizes}
use Rattle.layout.specs.Layout.{pages}
use Rattle.table.specs.Table.{node_at, occupied, tabulate}
use Rattle.line.specs.Line.{Waiting, waiting_in, at_place}
use Rattle.line.specs.Order.{waits, LineInOrder}
use Rattle.passes.specs.Events.{waiting_after}
use Rattle.rules.specs.Call.{Call as Direct, grant_level, tenant_of}
use Rattle.rules.specs.Step.{first, validity, step as table_step}
use Rattle.rules.specs.History.{Book as Holdings, enter as enter_holding, is_grant as grants, gave_block, held}
use Rattle.rules.specs.Demand.{Valid, Asks, Releases, Grows, Agrees, NoPlacement, NoExchange, Unchanged, SameFate, changed}
use Rattle.admission.specs.Call.{State, Call, direct, join, admit, withdraw}
use Rattle.admission.specs.Step.{Outcome, on_table, step}
use Rattle.boxes.specs.History.{History, reply, state_from, replies_from, state_after, Book, enter, book_after}

-- ---- who waits, by the book

-- the line by the book: who waits, for which level, and how often each was passed
abbrev pub line_by : Book → List Waiting
line_by B = waiting_after B.events

-- somebody in line was passed eight times
abbrev pub SomebodyAtEight : List Waiting → Type 0
SomebodyAtEight W = (k : ℕ) × (k < length W) × ((at_place W k).passed ≡ 8)

-- the pages held, by the book
abbrev pub pages_held : Holdings → ℕ
pages_held H = pages (tabulate 0 13 (held H))

-- level l lacks its pages on a reserve of height h
abbrev pub Lacks : ℕ → Holdings → ℕ → Type 0
Lacks h H l = 2 ^ h < pages_held H + 2 ^ l

-- the one at place k fits, and is not behind one passed eight times
pub record MayEnter (h : ℕ) (B : Book) (k : ℕ) : Type 0 where
  pub in_line : k < length (line_by B)
  pub fits : pages_held B.holdings + 2 ^ (at_place (line_by B) k).level ≤ 2 ^ h
  pub not_barred : (i : ℕ) → i < k → (at_place (line_by B) i).passed < 8

-- a call that answers 0 and changes nothing in table or line
pub record Idle (S : State) (o : Outcome) : Type 0 where
  pub answer : o.answer ≡ 0
  pub node : o.node ≡ 0
  pub named : o.named ≡ none
  pub moves : o.moves ≡ []
  pub state : o.state ≡ S

-- an admit that grants w, just as a direct grant with nobody in line would, and names it
pub record Admits (h : ℕ) (S : State) (m : ℕ) (w : Waiting) (o : Outcome) : Type 0 where
  pub answer : o.answer ≡ 0
  pub named : o.named ≡ some w.tenant
  pub a_node : 0 < o.node
  pub as_direct : on_table o ≡ table_step h S.table (grant_level w.tenant w.level m)

-- n admits in a row, each with m move entries
abbrev pub admits : ℕ → ℕ → List Call
admits zero m = []
admits (suc n) m = admit m ∷ admits n m

-- what holds of those who wait
pub record Line (h : ℕ) (S : State) (B : Book) : Type 0 where
  -- the line is in order, and what it says is true
  pub in_order : LineInOrder h S.table S.line
  pub true_line : waiting_in S.line ≡ line_by B
  -- nobody in line was passed more than eight times
  pub seldom : (k : ℕ) → k < length (line_by B) → (at_place (line_by B) k).passed ≤ 8
  -- joins, admits and withdrawals that are not valid answer the first of 3 to 6 that applies
  pub join_tenant : (t l : ℕ) → 4095 < t → (step h S (join t l)).answer ≡ 4
  pub join_level : (t l : ℕ) → t ≤ 4095 → h < l → (step h S (join t l)).answer ≡ 5
  pub admit_entries : (m : ℕ) → m < 4 → (step h S (admit m)).answer ≡ 3
  pub withdraw_tenant : (t : ℕ) → 4095 < t → (step h S (withdraw t)).answer ≡ 4
  -- a join that is valid: 8 to one that holds, 18 to one that waits, 17 behind 64, else 0
  pub holder_joins : (t l k : ℕ) → t < 4096 → l ≤ h → B.holdings t ≡ some k → (step h S (join t l)).answer ≡ 8
  pub waiting_joins : (t l : ℕ) → t < 4096 → l ≤ h → waits t (line_by B) ≡ true → (step h S (join t l)).answer ≡ 18
  pub full_line : (t l : ℕ) → t < 4096 → l ≤ h → B.holdings t ≡ none → waits t (line_by B) ≡ false → length (line_by B) ≡ 64
      → (step h S (join t l)).answer ≡ 17
  pub other_joins : (t l : ℕ) → t < 4096 → l ≤ h → B.holdings t ≡ none → waits t (line_by B) ≡ false → length (line_by B) < 64
      → (step h S (join t l)).answer ≡ 0
  -- a withdrawal: 0 to one that waits, else 9
  pub waiting_withdraws : (t : ℕ) → t < 4096 → waits t (line_by B) ≡ true → (step h S (withdraw t)).answer ≡ 0
  pub other_withdraws : (t : ℕ) → t < 4096 → waits t (line_by B) ≡ false → (step h S (withdraw t)).answer ≡ 9
  -- an admit grants the first who may be granted, as a direct grant would; where nobody may, it changes nothing
  pub admits_first : (m k : ℕ) → 4 ≤ m → MayEnter h B k → ((i : ℕ) → i < k → ¬ MayEnter h B i)
      → Admits h S m (at_place (line_by B) k) (step h S (admit m))
  pub names_waiting : (m t : ℕ) → (step h S (admit m)).named ≡ some t → (t < 4096) × (waits t (line_by B) ≡ true)
  pub admits_nobody : (m : ℕ) → 4 ≤ m → ((k : ℕ) → ¬ MayEnter h B k) → Idle S (step h S (admit m))
  pub node_0 : (m : ℕ) → (step h S (admit m)).answer ≡ 0 → (step h S (admit m)).node ≡ 0 → (k : ℕ) → ¬ MayEnter h B k
  -- so the oldest that was passed eight times then lacks its pages
  pub oldest_lacks : (m k : ℕ) → (step h S (admit m)).answer ≡ 0 → (step h S (admit m)).node ≡ 0 → k < length (line_by B)
      → (at_place (line_by B) k).passed ≡ 8 → ((i : ℕ) → i < k → (at_place (line_by B) i).passed < 8)
      → Lacks h B.holdings (at_place (line_by B) k).level
  -- a call that is refused leaves table and line
  pub refused_keeps : (c : Call) → ¬ ((step h S c).answer ≡ 0) → (step h S c).state ≡ S
  -- admits until node 0 end after at most 64 that granted somebody
  pub end : (m : ℕ) → 4 ≤ m → (n : ℕ) × (n ≤ 64) × Idle (state_from h S (admits n m)) (step h (state_from h S (admits n m)) (admit m))

-- ---- the direct calls

-- what holds of one box, by its state S and its book B
pub record Box (h : ℕ) (S : State) (B : Book) : Type 0 where
  -- the places: the one legal and safe set of the held sizes
  pub agrees : (t : ℕ) → t < 4096 → Agrees h (B.holdings t) (node_at S.table t)
  pub within : Within h (occupied S.table)
  pub legal : Legal (occupied S.table)
  pub safe : Safe h (occupied S.table)
  pub sized : (l : ℕ) → sizes h (occupied S.table) l ≡ held B.holdings l
  pub only : (A : Nodes) → Within h A → Legal A → Safe h A → ((l : ℕ) → sizes h A l ≡ held B.holdings l) → (n : ℕ) → A n ≡ occupied S.table n
  -- those who wait
  pub line : Line h S B
  -- a call that is not valid
  pub not_valid : (c : Direct) → ¬ Valid h c → (step h S (direct c)).answer ≡ first (validity h c)
  -- a repeated grant is answered 0, with its tenant's node and without moves, and passes nobody; one of another level 8
  pub holder_repeats : (c : Direct) (l : ℕ) → Asks h c l → Valid h c → B.holdings (tenant_of c) ≡ some l
      → Unchanged (tenant_of c) S.table (on_table (step h S (direct c))) × ((step h S (direct c)).state.line ≡ S.line)
  pub holder_asks : (c : Direct) (l k : ℕ) → Asks h c l → Valid h c → B.holdings (tenant_of c) ≡ some k → ¬ (k ≡ l) → (step h S (direct c)).answer ≡ 8
  -- either way the book stays, those who wait included
  pub book_stays : (c : Direct) (l k : ℕ) → Asks h c l → Valid h c → B.holdings (tenant_of c) ≡ some k
      → ((u : ℕ) → (enter h (direct c) (reply (step h S (direct c))) B).holdings u ≡ B.holdings u)
      × ((enter h (direct c) (reply (step h S (direct c))) B).events ≡ B.events)
  -- a grant to one that waits is answered 18; to another that holds nothing 10 exactly if somebody in line was passed eight times or there is no
  -- legal placement, and otherwise 0
  pub waiting_asks : (c : Direct) (l : ℕ) → Asks h c l → Valid h c → waits (tenant_of c) (line_by B) ≡ true → (step h S (direct c)).answer ≡ 18
  pub other_asks : (c : Direct) (l : ℕ) → Asks h c l → Valid h c → B.holdings (tenant_of c) ≡ none → waits (tenant_of c) (line_by B) ≡ false
      → (((step h S (direct c)).answer ≡ 10) ↔ (SomebodyAtEight (line_by B) ⊎ NoPlacement h B.holdings l))
      × (((step h S (direct c)).answer ≡ 10) ⊎ ((step h S (direct c)).answer ≡ 0))
  -- document 01's sentence, with nobody in line
  pub nobody_in_line : (c : Direct) (l : ℕ) → line_by B ≡ [] → Asks h c l → Valid h c → B.holdings (tenant_of c) ≡ none
      → (((step h S (direct c)).answer ≡ 10) ↔ NoPlacement h B.holdings l)
      × (((step h S (direct c)).answer ≡ 10) ⊎ ((step h S (direct c)).answer ≡ 0))
  -- releases and growths take no line, and leave it
  pub holder_releases : (c : Direct) (k : ℕ) → Releases c → Valid h c → B.holdings (tenant_of c) ≡ some k → (step h S (direct c)).answer ≡ 0
  pub other_releases : (c : Direct) → Releases c → Valid h c → B.holdings (tenant_of c) ≡ none → (step h S (direct c)).answer ≡ 9
  pub other_grows : (c : Direct) (l : ℕ) → Grows c l → Valid h c → B.holdings (tenant_of c) ≡ none → (step h S (direct c)).answer ≡ 9
  pub same_level : (c : Direct) (l : ℕ) → Grows c l → Valid h c → B.holdings (tenant_of c) ≡ some l
      → Unchanged (tenant_of c) S.table (on_table (step h S (direct c)))
  pub holder_grows : (c : Direct) (l k : ℕ) → Grows c l → Valid h c → B.holdings (tenant_of c) ≡ some k
      → (((step h S (direct c)).answer ≡ 10) ↔ NoExchange h B.holdings (tenant_of c) l)
      × (((step h S (direct c)).answer ≡ 10) ⊎ ((step h S (direct c)).answer ≡ 0))
  pub releases_leave_line : (c : Direct) → Releases c → (step h S (direct c)).state.line ≡ S.line
  pub growths_leave_line : (c : Direct) (l : ℕ) → Grows c l → (step h S (direct c)).state.line ≡ S.line
  -- by the book a call gave a block exactly if its tenant had no node and has one now
  pub gave : (c : Direct)
      → (gave_block (B.holdings (tenant_of c)) (enter_holding h c (step h S (direct c)).answer B.holdings (tenant_of c)) ≡ true)
      ↔ ((node_at S.table (tenant_of c) ≡ 0) × (0 < node_at (step h S (direct c)).state.table (tenant_of c)))
  -- each move is a tenant whose node changed; and they are few
  pub moves : (c : Direct) → length (step h S (direct c)).moves ≡ changed (tenant_of c) S.table (step h S (direct c)).state.table
  pub grant_moves : (c : Direct) (l : ℕ) → Asks h c l → (step h S (direct c)).answer ≡ 0 → length (step h S (direct c)).moves ≤ 3
  pub admit_moves : (m t : ℕ) → (step h S (admit m)).named ≡ some t
      → (length (step h S (admit m)).moves ≡ changed t S.table (step h S (admit m)).state.table) × (length (step h S (admit m)).moves ≤ 3)
  pub release_moves : (c : Direct) → Releases c → (step h S (direct c)).answer ≡ 0 → length (step h S (direct c)).moves ≤ 4
  pub growth_moves : (c : Direct) (l : ℕ) → Grows c l → (step h S (direct c)).answer ≡ 0 → length (step h S (direct c)).moves ≤ 7

-- two boxes of one height, each with its own history
pub record Boxes (h : ℕ) (S₁ S₂ : State) (B₁ B₂ : Book) : Type 0 where
  pub one : Box h S₁ B₁
  pub two : Box h S₂ B₂
  pub same_places : ((l : ℕ) → held B₁.holdings l ≡ held B₂.holdings l) → (n : ℕ) → occupied S₁.table n ≡ occupied S₂.table n
  -- a grant of one level to a tenant that neither holds nor waits, behind lines in which nobody was passed eight times
  pub same_fate : ((l : ℕ) → held B₁.holdings l ≡ held B₂.holdings l) → ¬ SomebodyAtEight (line_by B₁) → ¬ SomebodyAtEight (line_by B₂)
      → (c₁ c₂ : Direct) (l : ℕ) → Asks h c₁ l → Asks h c₂ l → Valid h c₁ → Valid h c₂
      → B₁.holdings (tenant_of c₁) ≡ none → B₂.holdings (tenant_of c₂) ≡ none
      → waits (tenant_of c₁) (line_by B₁) ≡ false → waits (tenant_of c₂) (line_by B₂) ≡ false
      → SameFate (NoPlacement h B₁.holdings l) 3 (on_table (step h S₁ (direct c₁))) (on_table (step h S₂ (direct c₂)))
  -- demand 3's sentence: with nobody in line
  pub same_fate_unlined : ((l : ℕ) → held B₁.holdings l ≡ held B₂.holdings l) → line_by B₁ ≡ [] → line_by B₂ ≡ []
      → (c₁ c₂ : Direct) (l : ℕ) → Asks h c₁ l → Asks h c₂ l → Valid h c₁ → Valid h c₂
      → B₁.holdings (tenant_of c₁) ≡ none → B₂.holdings (tenant_of c₂) ≡ none
      → SameFate (NoPlacement h B₁.holdings l) 3 (on_table (step h S₁ (direct c₁))) (on_table (step h S₂ (direct c₂)))
  -- and of two tenants of one level that grow
  pub same_growth : ((l : ℕ) → held B₁.holdings l ≡ held B₂.holdings l) → (c₁ c₂ : Direct) (l k : ℕ) → Grows c₁ l → Grows c₂ l
      → Valid h c₁ → Valid h c₂ → B₁.holdings (tenant_of c₁) ≡ some k → B₂.holdings (tenant_of c₂) ≡ some k
      → SameFate (NoExchange h B₁.holdings (tenant_of c₁) l) 7 (on_table (step h S₁ (direct c₁))) (on_table (step h S₂ (direct c₂)))

-- demand 3: what holds of the states and the books after any two histories of one height
abbrev pub Demand3 : (h : ℕ) → History h → History h → Type 0
Demand3 h H₁ H₂ = Boxes h (state_after h H₁) (state_after h H₂) (book_after h H₁) (book_after h H₂)

-- ---- starts that are repeated

-- a grant of either kind
abbrev pub is_grant : Call → Bool
is_grant (direct c) = grants c
is_grant (join t l) = false
is_grant (admit m) = false
is_grant (withdraw t) = false

-- the elements beside calls, those beside grants twice: of the calls themselves, each grant made again at once
unfoldable pub grants_twice : {A : Type 0} → List Call → List A → List A
grants_twice [] xs = []
grants_twice (c ∷ cs) [] = []
grants_twice (c ∷ cs) (x ∷ xs) = cond (is_grant c) (x ∷ x ∷ grants_twice cs xs) (x ∷ grants_twice cs xs)

-- calls with each grant made again at once, as by a client that lost the reply, end in the same table and the same line; and each is answered as the
-- one that it repeats. Document 02, L6.
pub record SafeToRepeat (h : ℕ) (S : State) (cs : List Call) : Type 0 where
  pub state : state_from h S (grants_twice cs cs) ≡ state_from h S cs
  pub replies : replies_from h S (grants_twice cs cs) ≡ grants_twice cs (replies_from h S cs)
