-- Histories, and the book that is kept of them. Document 01, "Histories", and document 02, L5 and L6.
use Rattle.std.specs.Prelude.{◌≡◌, Bool, true, false, cond, List, [], ◌∷◌, ℕ, zero, suc, eqb}
use Rattle.std.proofs.Math.Option.{Option, some, none}
use Rattle.tree.specs.Node.{level}
use Rattle.tree.specs.Held.{count}
use Rattle.table.specs.Table.{node_at}
use Rattle.sizes.specs.Level.{level_for}
use Rattle.rules.specs.Call.{Call, grant_level, grant_pages, release, grow}
use Rattle.rules.specs.Step.{step, open_reserve}

-- a history at height h: an accepted opening of a lent table, then any list of calls, each on the table that the last one left
pub record History (h : ℕ) : Type 0 where
  pub lent : List ℕ
  pub opened : (open_reserve h lent).answer ≡ 0
  pub calls : List Call

-- the table after some calls, and the numbers that they answer
unfoldable pub table_from : ℕ → List ℕ → List Call → List ℕ
table_from h T [] = T
table_from h T (c ∷ cs) = table_from h (step h T c).table cs

unfoldable pub answers_from : ℕ → List ℕ → List Call → List ℕ
answers_from h T [] = []
answers_from h T (c ∷ cs) = (step h T c).answer ∷ answers_from h (step h T c).table cs

-- the table and the numbers of a whole history
abbrev pub table_after : (h : ℕ) → History h → List ℕ
table_after h H = table_from h (open_reserve h H.lent).table H.calls

abbrev pub answers_of : (h : ℕ) → History h → List ℕ
answers_of h H = answers_from h (open_reserve h H.lent).table H.calls

-- ---- starts that are repeated

-- a grant of either kind
abbrev pub is_grant : Call → Bool
is_grant (grant_level t l m) = true
is_grant (grant_pages t p m) = true
is_grant (release t m) = false
is_grant (grow t l m) = false

-- the elements beside calls, those beside grants twice: of the calls themselves, each grant made again at once
unfoldable pub grants_twice : {A : Type 0} → List Call → List A → List A
grants_twice [] xs = []
grants_twice (c ∷ cs) [] = []
grants_twice (c ∷ cs) (x ∷ xs) = cond (is_grant c) (x ∷ x ∷ grants_twice cs xs) (x ∷ grants_twice cs xs)

-- ---- the book: for each tenant a level or nothing, from the calls' arguments and answers alone

abbrev pub Book : Type 0
Book = ℕ → Option ℕ

-- the book with another entry for tenant t
abbrev pub write : ℕ → Option ℕ → Book → Book
write t e B u = cond (eqb u t) e (B u)

-- one call at height h with the number that it answered: a grant answered 0 writes the tenant's level down, and a repeated one the same level
-- again; a release answered 0 strikes it out, a growth answered 0 writes the new level
abbrev pub enter : ℕ → Call → ℕ → Book → Book
enter h c (suc a) B = B
enter h (grant_level t l m) zero B = write t (some l) B
enter h (grant_pages t p m) zero B = write t (some (level_for h p)) B
enter h (release t m) zero B = write t none B
enter h (grow t l m) zero B = write t (some l) B

-- the book after some calls, fed each one's arguments and the number that it answered
unfoldable pub book_from : ℕ → Book → List Call → List ℕ → Book
book_from h B [] as' = B
book_from h B (c ∷ cs) [] = B
book_from h B (c ∷ cs) (a ∷ as') = book_from h (enter h c a B) cs as'

-- after the opening it has nothing for anyone
abbrev pub book_after : (h : ℕ) → History h → Book
book_after h H = book_from h (λ t. none) H.calls (answers_of h H)

-- Whether a call gave a block, by the entry of its tenant before and after it: nothing, and then a level. A repeated grant (document 02, L6) gave
-- none, though it answers 0; nor did a growth. Where grants are counted, those that gave a block are.
abbrev pub gave_block : Option ℕ → Option ℕ → Bool
gave_block none none = false
gave_block none (some l) = true
gave_block (some k) after = false

-- the entry that a table in order has for a tenant: the level of its node
abbrev pub in_table : ℕ → List ℕ → Book
in_table h T t = cond (eqb (node_at T t) 0) none (some (level h (node_at T t)))

-- whether an entry of the book is level l
abbrev pub at_level : Option ℕ → ℕ → Bool
at_level none l = false
at_level (some k) l = eqb k l

-- the held sizes: the number of tenants at each level in the book
unfoldable pub held : Book → ℕ → ℕ
held B l = count 4096 (λ t. at_level (B t) l)
