-- Demand 3 and document 01's list under "Histories", with the growth of document 02, L5, and the repeated grant of L6, as one statement about two
-- whole histories of one height.
use Rattle.std.specs.Prelude.{◌≡◌, true, not, ◌&&◌, List, [], ◌⊎◌, ◌↔◌, ℕ, ◌+◌, ◌≤◌, ◌<◌, eqb, ltb, length}
use Rattle.std.proofs.Math.Option.{Option, some, none}
use Rattle.tree.specs.Node.{InTree, level}
use Rattle.tree.specs.Held.{Nodes, Within, Legal, Safe, sizes, count, one_if}
use Rattle.table.specs.Table.{node_at, occupied}
use Rattle.sizes.specs.Level.{level_for}
use Rattle.rules.specs.Call.{Call, grant_level, grant_pages, release, grow, tenant_of}
use Rattle.rules.specs.Step.{Outcome, first, validity, step}
use Rattle.rules.specs.History.{History, table_after, Book, write, enter, book_after, gave_block, held}

-- valid: none of 3 to 6 applies
abbrev pub Valid : ℕ → Call → Type 0
Valid h c = first (validity h c) ≡ 0

-- c is a request at height h, a grant of either kind, for level l
pub data Asks (h : ℕ) : Call → ℕ → Type 0 where
  by_level : {t l m : ℕ} → Asks h (grant_level t l m) l
  by_pages : {t p m : ℕ} → Asks h (grant_pages t p m) (level_for h p)

-- c is a release
pub data Releases : Call → Type 0 where
  releases : {t m : ℕ} → Releases (release t m)

-- c is a growth, up or down, to level l
pub data Grows : Call → ℕ → Type 0 where
  grows : {t l m : ℕ} → Grows (grow t l m) l

-- what the book has for a tenant, and what the table has
abbrev pub Agrees : ℕ → Option ℕ → ℕ → Type 0
Agrees h none n = n ≡ 0
Agrees h (some l) n = InTree h n × (level h n ≡ l)

-- the held sizes with one more at level l
abbrev pub with_one : Book → ℕ → ℕ → ℕ
with_one B l m = held B m + one_if (eqb m l)

-- every set of nodes of the tree with those sizes fails to be legal
abbrev pub NoLegalSet : ℕ → (ℕ → ℕ) → Type 0
NoLegalSet h sized = (A : Nodes) → Within h A → ((m : ℕ) → sizes h A m ≡ sized m) → ¬ Legal A

-- no legal placement: none has the held sizes and one more at level l
abbrev pub NoPlacement : ℕ → Book → ℕ → Type 0
NoPlacement h B l = NoLegalSet h (with_one B l)

-- no legal exchange: none has the held sizes with tenant t's level exchanged for l
abbrev pub NoExchange : ℕ → Book → ℕ → ℕ → Type 0
NoExchange h B t l = NoLegalSet h (held (write t (some l) B))

-- a call that changes nothing: it answers 0 and the node that its tenant t has
pub record Unchanged (t : ℕ) (T : List ℕ) (o : Outcome) : Type 0 where
  pub answer : o.answer ≡ 0
  pub node : o.node ≡ node_at T t
  pub moves : o.moves ≡ []
  pub table : o.table ≡ T

-- how many tenants but t have a node before and a different node after
unfoldable pub changed : ℕ → List ℕ → List ℕ → ℕ
changed t T T' = count 4096 (λ u. not (eqb u t) && (ltb 0 (node_at T u) && (ltb 0 (node_at T' u) && not (eqb (node_at T' u) (node_at T u)))))

-- what holds of one box, by its table T and its book B
pub record Box (h : ℕ) (T : List ℕ) (B : Book) : Type 0 where
  pub agrees : (t : ℕ) → t < 4096 → Agrees h (B t) (node_at T t)
  pub within : Within h (occupied T)
  pub legal : Legal (occupied T)
  pub safe : Safe h (occupied T)
  pub sized : (l : ℕ) → sizes h (occupied T) l ≡ held B l
  pub only : (A : Nodes) → Within h A → Legal A → Safe h A → ((l : ℕ) → sizes h A l ≡ held B l) → (n : ℕ) → A n ≡ occupied T n
  pub not_valid : (c : Call) → ¬ Valid h c → (step h T c).answer ≡ first (validity h c)
  -- a repeated grant is answered 0, with its tenant's node and without moves; one of another level 8; either way the book stays
  pub holder_repeats : (c : Call) (l : ℕ) → Asks h c l → Valid h c → B (tenant_of c) ≡ some l → Unchanged (tenant_of c) T (step h T c)
  pub holder_asks : (c : Call) (l k : ℕ) → Asks h c l → Valid h c → B (tenant_of c) ≡ some k → ¬ (k ≡ l) → (step h T c).answer ≡ 8
  pub book_stays : (c : Call) (l k : ℕ) → Asks h c l → Valid h c → B (tenant_of c) ≡ some k → (u : ℕ) → enter h c (step h T c).answer B u ≡ B u
  pub other_asks : (c : Call) (l : ℕ) → Asks h c l → Valid h c → B (tenant_of c) ≡ none
      → (((step h T c).answer ≡ 10) ↔ NoPlacement h B l) × (((step h T c).answer ≡ 10) ⊎ ((step h T c).answer ≡ 0))
  pub holder_releases : (c : Call) (k : ℕ) → Releases c → Valid h c → B (tenant_of c) ≡ some k → (step h T c).answer ≡ 0
  pub other_releases : (c : Call) → Releases c → Valid h c → B (tenant_of c) ≡ none → (step h T c).answer ≡ 9
  pub other_grows : (c : Call) (l : ℕ) → Grows c l → Valid h c → B (tenant_of c) ≡ none → (step h T c).answer ≡ 9
  pub same_level : (c : Call) (l : ℕ) → Grows c l → Valid h c → B (tenant_of c) ≡ some l → Unchanged (tenant_of c) T (step h T c)
  pub holder_grows : (c : Call) (l k : ℕ) → Grows c l → Valid h c → B (tenant_of c) ≡ some k
      → (((step h T c).answer ≡ 10) ↔ NoExchange h B (tenant_of c) l) × (((step h T c).answer ≡ 10) ⊎ ((step h T c).answer ≡ 0))
  -- by the book a call gave a block exactly if its tenant had no node and has one now
  pub gave : (c : Call) → (gave_block (B (tenant_of c)) (enter h c (step h T c).answer B (tenant_of c)) ≡ true)
      ↔ ((node_at T (tenant_of c) ≡ 0) × (0 < node_at (step h T c).table (tenant_of c)))
  pub moves : (c : Call) → length (step h T c).moves ≡ changed (tenant_of c) T (step h T c).table
  pub grant_moves : (c : Call) (l : ℕ) → Asks h c l → (step h T c).answer ≡ 0 → length (step h T c).moves ≤ 3
  pub release_moves : (c : Call) → Releases c → (step h T c).answer ≡ 0 → length (step h T c).moves ≤ 4
  pub growth_moves : (c : Call) (l : ℕ) → Grows c l → (step h T c).answer ≡ 0 → length (step h T c).moves ≤ 7

-- both answer "no room", and nothing is legal; or both answer 0, and each moves at most so many
pub data SameFate (nothing_legal : Type 0) (most : ℕ) (one two : Outcome) : Type 0 where
  no_room : one.answer ≡ 10 → two.answer ≡ 10 → nothing_legal → SameFate nothing_legal most one two
  room : one.answer ≡ 0 → two.answer ≡ 0 → length one.moves ≤ most → length two.moves ≤ most → ¬ nothing_legal
      → SameFate nothing_legal most one two

-- two boxes of one height, each with its own history
pub record Boxes (h : ℕ) (T₁ T₂ : List ℕ) (B₁ B₂ : Book) : Type 0 where
  pub one : Box h T₁ B₁
  pub two : Box h T₂ B₂
  pub same_places : ((l : ℕ) → held B₁ l ≡ held B₂ l) → (n : ℕ) → occupied T₁ n ≡ occupied T₂ n
  pub same_fate : ((l : ℕ) → held B₁ l ≡ held B₂ l) → (c₁ c₂ : Call) (l : ℕ) → Asks h c₁ l → Asks h c₂ l → Valid h c₁ → Valid h c₂
      → B₁ (tenant_of c₁) ≡ none → B₂ (tenant_of c₂) ≡ none → SameFate (NoPlacement h B₁ l) 3 (step h T₁ c₁) (step h T₂ c₂)
  -- and of two tenants of one level that grow
  pub same_growth : ((l : ℕ) → held B₁ l ≡ held B₂ l) → (c₁ c₂ : Call) (l k : ℕ) → Grows c₁ l → Grows c₂ l → Valid h c₁ → Valid h c₂
      → B₁ (tenant_of c₁) ≡ some k → B₂ (tenant_of c₂) ≡ some k → SameFate (NoExchange h B₁ (tenant_of c₁) l) 7 (step h T₁ c₁) (step h T₂ c₂)

-- demand 3: what holds of the tables and the books after any two histories of one height
abbrev pub Demand3 : (h : ℕ) → History h → History h → Type 0
Demand3 h H₁ H₂ = Boxes h (table_after h H₁) (table_after h H₂) (book_after h H₁) (book_after h H₂)
