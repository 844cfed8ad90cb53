-- What the inner functions of a call ask and give.
use Rattle.std.specs.Prelude.{◌≡◌, true, not, cond, List, [], ◌∷◌, ℕ, ◌+◌, ◌^◌, ◌≤◌, ◌<◌, eqb, leb, ltb, length, set}
use Rattle.tree.specs.Node.{level}
use Rattle.layout.specs.Layout.{pages}
use Rattle.layout.specs.Change.{one_block_more, one_block_fewer}
use Rattle.layout.specs.Rows.{no_level}
use Rattle.layout.specs.Set.{layout_set}
use Rattle.table.specs.Table.{node_at, occupied, counts_of, in_order?}
use Rattle.table.specs.Owners.{owners_of}
use Rattle.table.specs.Pairing.{newcomer, moved, moves_of}
use Rattle.plans.specs.Plan.{plan_of}
use Rattle.carrying.specs.Order.{moves_in_order}
use Rattle.rules.specs.declared.Done.{Done}
use Rattle.calls.specs.declared.change.Look.{Look}
use Rattle.rules.specs.Call.{Call}
use Rattle.rules.specs.Step.{Outcome, refused, check, first, grant_holdings, grow_holdings, counts_but, holdings}
use Rattle.rules.specs.Step.{granted, repeated, block_for, released, accepted, unless}

-- the arguments have passed 1, 2 and 4
pub record Ready (h : ℕ) (T : List ℕ) (t : ℕ) : Type 0 where
  pub height : h ≤ 12
  pub entries : length T ≡ 4096
  pub tenant : t < 4096

-- the table is in order, and the look has its counts and the owner of each node
pub record Looked (h : ℕ) (T : List ℕ) (k : Look) : Type 0 where
  pub in_order : in_order? h T ≡ true
  pub counts : k.counts.at ≡ counts_of h T
  pub owners : k.owners.now ≡ owners_of 8192 T

-- the counts without the block on node n, if that is one
unfoldable pub without : ℕ → List ℕ → ℕ → List ℕ
without h cs n = cond (eqb n 0) cs (one_block_fewer cs (level h n))

-- those of the others: without tenant t's block, if it has one
abbrev pub others : ℕ → List ℕ → ℕ → List ℕ
others h T t = without h (counts_of h T) (node_at T t)

-- The counts that the table is laid out for, and the level that t then has: those of the others and none, or one more at a level for which there
-- is room.
pub data Target (h : ℕ) (T : List ℕ) (t : ℕ) : List ℕ → ℕ → Type 0 where
  given_up : 0 < node_at T t → Target h T t (others h T t) no_level
  placed : (l : ℕ) → l ≤ h → pages (others h T t) + 2 ^ l ≤ 2 ^ h → Target h T t (one_block_more (others h T t) l) l

-- tenant t is out of the way, the others are in the layout of the counts ds, and t has the place on level x that they leave over, if it wants one
pub record Resettled (h : ℕ) (T : List ℕ) (t : ℕ) (ds : List ℕ) (x : ℕ) (r : Done) (T' : List ℕ) : Type 0 where
  pub plan : r.plan ≡ plan_of (moves_in_order h (moves_of h (layout_set h ds) (set T t 0)))
  pub node : r.node ≡ cond (leb x h) (newcomer h (occupied (set T t 0)) (layout_set h ds) x) 0
  pub table : T' ≡ set (moved h (layout_set h ds) (set T t 0)) t r.node

-- a block of level l for tenant t, in the place of the one that it has, if it has one: 10, or the block
unfoldable pub place_on : ℕ → List ℕ → ℕ → ℕ → Outcome
place_on h T t l =
    unless (first (check 10 (ltb (2 ^ h) (pages (others h T t) + 2 ^ l)) ∷ [])) T
    (granted h (set T t 0) (layout_set h (one_block_more (others h T t) l)) t l)

-- a grant of level l to one that holds node n: 8, or the node
unfoldable pub to_holder : ℕ → List ℕ → ℕ → ℕ → Outcome
to_holder h T n l = cond (eqb (level h n) l) (repeated T n) (refused 8 T)

-- a grant at level l on a table in order: 8, 10, or the block
unfoldable pub grant_on : ℕ → List ℕ → ℕ → ℕ → Outcome
grant_on h T t l = unless (first (grant_holdings h T t l)) T (block_for h T t l)

-- a release: 9, or the node given up
unfoldable pub release_on : ℕ → List ℕ → ℕ → Outcome
release_on h T t = unless (first (check 9 (eqb (node_at T t) 0) ∷ [])) T (released h T (layout_set h (counts_but h T t)) t)

-- a growth to level l: 9, 10, or the block
unfoldable pub grow_on : ℕ → List ℕ → ℕ → ℕ → Outcome
grow_on h T t l = unless (first (grow_holdings h T t l)) T (granted h (set T t 0) (layout_set h (one_block_more (counts_but h T t) l)) t l)

-- a call whose arguments are valid: 7, or what the table decides
unfoldable pub change_on : ℕ → List ℕ → Call → Outcome
change_on h T c = unless (first (check 7 (not (in_order? h T)) ∷ holdings h T c)) T (accepted h T c)
