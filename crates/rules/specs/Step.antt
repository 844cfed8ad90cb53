-- What each call answers and what it leaves in the table, for every height, table and argument. Document 01, "Calls" and "Refusals by place";
-- refusal 6 as document 02, L1, has it, the list of moves as L2, the level that pages 0 takes as L4, a growth as L5, and a repeated grant as L6.
use Rattle.std.specs.Prelude.{Bool, not, cond, ◌&&◌, List, [], ◌∷◌, ◌++◌, ℕ, zero, suc, ◌+◌, ◌^◌, eqb, ltb, leb, length, set, replicate}
use Rattle.tree.specs.Node.{level}
use Rattle.tree.specs.Held.{Nodes}
use Rattle.layout.specs.Layout.{pages}
use Rattle.layout.specs.Set.{layout_set}
use Rattle.layout.specs.Change.{one_block_more, one_block_fewer}
use Rattle.table.specs.Table.{with_node, node_at, occupied, counts_of, in_order?}
use Rattle.table.specs.Pairing.{newcomer, moved, moves_of}
use Rattle.table.specs.declared.Move.{Move}
use Rattle.carrying.specs.Order.{moves_in_order}
use Rattle.sizes.specs.Level.{level_for}
use Rattle.rules.specs.Call.{Call, grant_level, grant_pages, release, grow, tenant_of, entries_of, least_entries}

-- what a call reports, and the table afterwards
pub record Outcome : Type 0 where
  pub answer : ℕ
  pub node : ℕ
  pub moves : List Move
  pub table : List ℕ

-- a refusal: its number, node 0, no moves, and the table as it was
abbrev pub refused : ℕ → List ℕ → Outcome
refused number T = record { answer = number; node = 0; moves = []; table = T }

-- a refusal's number, and whether its condition holds
pub record Check : Type 0 where
  pub number : ℕ
  pub applies : Bool

abbrev pub check : ℕ → Bool → Check
check n b = record { number = n; applies = b }

-- the number of the first that applies, or 0
abbrev pub first : List Check → ℕ
first [] = 0
first (c ∷ cs) = cond c.applies c.number (first cs)

-- ---- the conditions, in order

-- 1 and 2, of a table with n entries
abbrev pub length_checks : ℕ → ℕ → List Check
length_checks h n = check 1 (ltb 12 h) ∷ check 2 (not (eqb n 4096)) ∷ []

abbrev pub reserve_checks : ℕ → List ℕ → List Check
reserve_checks h T = length_checks h (length T)

-- 3 and 4, of a call that takes n entries or more
abbrev pub list_checks : ℕ → ℕ → ℕ → List Check
list_checks n t m = check 3 (ltb m n) ∷ check 4 (ltb 4095 t) ∷ []

-- 5 for level l
abbrev pub level_check : ℕ → ℕ → Check
level_check h l = check 5 (ltb h l)

-- 6 for p pages: from 2^h upwards, since the guard page has to go in too; so never for 0
abbrev pub pages_check : ℕ → ℕ → Check
pages_check h p = check 6 (leb (2 ^ h) p)

-- 5 and 6
abbrev pub size_checks : ℕ → Call → List Check
size_checks h (grant_level t l m) = level_check h l ∷ []
size_checks h (grant_pages t p m) = pages_check h p ∷ []
size_checks h (release t m) = []
size_checks h (grow t l m) = level_check h l ∷ []

-- 3 to 6: those by which a call is not valid
abbrev pub validity : ℕ → Call → List Check
validity h c = list_checks (least_entries c) (tenant_of c) (entries_of c) ++ size_checks h c

-- whether a grant of level l to tenant t is a repeated one: t holds a block of just that level
unfoldable pub repeats : ℕ → List ℕ → ℕ → ℕ → Bool
repeats h T t l = ltb 0 (node_at T t) && eqb (level h (node_at T t)) l

-- 8 and 10, of a grant that is no repeated one
abbrev pub block_checks : ℕ → List ℕ → ℕ → ℕ → List Check
block_checks h T t l = check 8 (ltb 0 (node_at T t)) ∷ check 10 (ltb (2 ^ h) (pages (counts_of h T) + 2 ^ l)) ∷ []

-- neither applies to a repeated one
abbrev pub grant_holdings : ℕ → List ℕ → ℕ → ℕ → List Check
grant_holdings h T t l = cond (repeats h T t l) [] (block_checks h T t l)

-- the counts without the block of tenant t, which holds one
abbrev pub counts_but : ℕ → List ℕ → ℕ → List ℕ
counts_but h T t = one_block_fewer (counts_of h T) (level h (node_at T t))

-- 9 and 10 for a growth: the pages after the change
abbrev pub grow_holdings : ℕ → List ℕ → ℕ → ℕ → List Check
grow_holdings h T t l = check 9 (eqb (node_at T t) 0) ∷ check 10 (ltb (2 ^ h) (pages (counts_but h T t) + 2 ^ l)) ∷ []

-- 8, 9 and 10
abbrev pub holdings : ℕ → List ℕ → Call → List Check
holdings h T (grant_level t l m) = grant_holdings h T t l
holdings h T (grant_pages t p m) = grant_holdings h T t (level_for h p)
holdings h T (release t m) = check 9 (eqb (node_at T t) 0) ∷ []
holdings h T (grow t l m) = grow_holdings h T t l

-- all of them, place by place
abbrev pub checks : ℕ → List ℕ → Call → List Check
checks h T c = reserve_checks h T ++ validity h c ++ check 7 (not (in_order? h T)) ∷ holdings h T c

-- ---- the accepted calls

-- the table and the moves with everybody in the set N, and the newcomer t on level l
abbrev pub granted : ℕ → List ℕ → Nodes → ℕ → ℕ → Outcome
granted h T N t l = record {
  answer = 0;
  node = newcomer h (occupied T) N l;
  moves = moves_in_order h (moves_of h N T);
  table = set (moved h N T) t (with_node 0 (newcomer h (occupied T) N l));
}

-- a repeated grant, to one that holds node n: it names n, nobody moves, and the table stays as it was
abbrev pub repeated : List ℕ → ℕ → Outcome
repeated T n = record { answer = 0; node = n; moves = []; table = T }

-- a grant of level l to tenant t, which holds a block of just that level or none
abbrev pub block_for : ℕ → List ℕ → ℕ → ℕ → Outcome
block_for h T t l = cond (repeats h T t l) (repeated T (node_at T t)) (granted h T (layout_set h (one_block_more (counts_of h T) l)) t l)

-- the table and the moves with everybody but t in the set N, and t's entry struck out
abbrev pub released : ℕ → List ℕ → Nodes → ℕ → Outcome
released h T N t = record {
  answer = 0;
  node = node_at T t;
  moves = moves_in_order h (moves_of h N (set T t 0));
  table = moved h N (set T t 0);
}

-- What an accepted call does: the counts with one more or one fewer decide the new set, and a repeated grant leaves everything as it was. Who
-- grows is out of the way first, and then comes as a newcomer does.
abbrev pub accepted : ℕ → List ℕ → Call → Outcome
accepted h T (grant_level t l m) = block_for h T t l
accepted h T (grant_pages t p m) = block_for h T t (level_for h p)
accepted h T (release t m) = released h T (layout_set h (counts_but h T t)) t
accepted h T (grow t l m) = granted h (set T t 0) (layout_set h (one_block_more (counts_but h T t) l)) t l

-- the refusal with this number, or what is done where it is 0
abbrev pub unless : ℕ → List ℕ → Outcome → Outcome
unless zero T done = done
unless (suc n) T done = refused (suc n) T

-- a call at height h on the table T
unfoldable pub step : ℕ → List ℕ → Call → Outcome
step h T c = unless (first (checks h T c)) T (accepted h T c)

-- opening at height h on a lent table T: every entry 0
unfoldable pub open_reserve : ℕ → List ℕ → Outcome
open_reserve h T = unless (first (reserve_checks h T)) T (record { answer = 0; node = 0; moves = []; table = replicate 4096 0 })
