-- What an accepted call does, for every height and table. Demand 2, document 01's "Calls", and document 02: the list of L2, the growth of L5, and the
-- repeated grant of L6.
use Rattle.std.specs.Prelude.{◌≡◌, true, List, ℕ, ◌+◌, ◌<◌, eqb, length, get_or}
use Rattle.tree.specs.Node.{level}
use Rattle.tree.specs.Held.{Within, Legal, Safe, sizes, one_if}
use Rattle.table.specs.Table.{node_at, occupied}
use Rattle.table.specs.Paired.{MoversPaired, MoversFill, NewcomerPaired}
use Rattle.plans.specs.Plan.{no_move}
use Rattle.table.specs.declared.Move.{Move}
use Rattle.carrying.specs.Carrying.{Workable}
use Rattle.rules.specs.Call.{Call, tenant_of}
use Rattle.rules.specs.Step.{Outcome, repeated, step}
use Rattle.rules.specs.History.{table_from, answers_from, grants_twice, gave_block, in_table}
use Rattle.rules.specs.Demand.{Asks, Releases, Grows, Unchanged}

-- m takes a tenant other than t from its node in T to a different one, its node in T'
pub record Shifted (t : ℕ) (T T' : List ℕ) (m : Move) : Type 0 where
  pub other : ¬ (m.tenant ≡ t)
  pub old : m.from ≡ node_at T m.tenant
  pub new : m.to ≡ node_at T' m.tenant
  pub had_one : 0 < m.from
  pub has_one : 0 < m.to
  pub differ : ¬ (m.from ≡ m.to)

-- what every kind of call does to the tenants but its own, t
pub record Settled (h t : ℕ) (T : List ℕ) (o : Outcome) : Type 0 where
  -- the places occupied are a legal and safe set
  pub within : Within h (occupied o.table)
  pub legal : Legal (occupied o.table)
  pub safe : Safe h (occupied o.table)
  -- a tenant whose node is in the new set stays
  pub stays : (u : ℕ) → ¬ (u ≡ t) → 0 < node_at T u → occupied o.table (node_at T u) ≡ true → node_at o.table u ≡ node_at T u
  -- the others keep their level, and who has nothing gets nothing
  pub same_level : (u : ℕ) → ¬ (u ≡ t) → 0 < node_at T u → level h (node_at o.table u) ≡ level h (node_at T u)
  pub still_holds : (u : ℕ) → ¬ (u ≡ t) → 0 < node_at T u → 0 < node_at o.table u
  pub still_nothing : (u : ℕ) → ¬ (u ≡ t) → node_at T u ≡ 0 → node_at o.table u ≡ 0
  -- the movers take nodes of the new set that nobody stays on, and on each level they keep their order
  pub movers_paired : MoversPaired h (occupied o.table) t T o.table
  -- the moves are exactly those tenants whose node differs, each once
  pub listed : (i : ℕ) → i < length o.moves → Shifted t T o.table (get_or o.moves i no_move)
  pub all_listed : (u : ℕ) → ¬ (u ≡ t) → 0 < node_at T u → ¬ (node_at o.table u ≡ node_at T u)
      → (i : ℕ) × (i < length o.moves) × ((get_or o.moves i no_move).tenant ≡ u)
  pub once : (i j : ℕ) → i < length o.moves → j < length o.moves
      → (get_or o.moves i no_move).tenant ≡ (get_or o.moves j no_move).tenant → i ≡ j
  -- the list can be carried out, and is the one that document 02, L2, chooses among all plans
  pub workable : Workable h t T o.table o.moves

-- the newcomer t has a block of level l, and the answer names it
pub record Placed (h : ℕ) (T : List ℕ) (t l : ℕ) (o : Outcome) : Type 0 where
  pub newcomer : node_at o.table t ≡ o.node
  pub on_level : level h o.node ≡ l
  pub a_node : 0 < o.node
  -- the newcomer and the movers take all the nodes that nobody stays on, and the newcomer's is right of the movers' on its level
  pub newcomer_paired : NewcomerPaired h (occupied o.table) t T o.table

-- a grant at level l: one more block there, for one that had nothing
pub record AfterGrant (h : ℕ) (T : List ℕ) (t l : ℕ) (o : Outcome) : Type 0 where
  pub settled : Settled h t T o
  pub sized : (m : ℕ) → sizes h (occupied o.table) m ≡ sizes h (occupied T) m + one_if (eqb m l)
  pub had_nothing : node_at T t ≡ 0
  pub placed : Placed h T t l o

-- a repeated grant: the tenant holds a block of just that level, and nothing changes
pub record AfterRepetition (h : ℕ) (T : List ℕ) (t l : ℕ) (o : Outcome) : Type 0 where
  pub had_one : 0 < node_at T t
  pub on_level : level h (node_at T t) ≡ l
  pub unchanged : Unchanged t T o

-- a release: one block fewer at the level of the node given up, which the answer names
pub record AfterRelease (h : ℕ) (T : List ℕ) (t : ℕ) (o : Outcome) : Type 0 where
  pub settled : Settled h t T o
  pub sized : (m : ℕ) → sizes h (occupied o.table) m + one_if (eqb m (level h o.node)) ≡ sizes h (occupied T) m
  pub given_up : o.node ≡ node_at T t
  pub a_node : 0 < o.node
  pub struck_out : node_at o.table t ≡ 0
  -- the movers take all the nodes that nobody stays on
  pub movers_fill : MoversFill (occupied o.table) t T o.table

-- a growth up or down to level l: one more block there and one fewer at the level that t had; at the same level nothing changes
pub record AfterGrowth (h : ℕ) (T : List ℕ) (t l : ℕ) (o : Outcome) : Type 0 where
  pub settled : Settled h t T o
  pub sized : (m : ℕ) → sizes h (occupied o.table) m + one_if (eqb m (level h (node_at T t))) ≡ sizes h (occupied T) m + one_if (eqb m l)
  pub had_one : 0 < node_at T t
  pub placed : Placed h T t l o
  pub same_level : level h (node_at T t) ≡ l → Unchanged t T o

-- the call c gave a block
abbrev pub Gave : ℕ → List ℕ → Call → Type 0
Gave h T c = gave_block (in_table h T (tenant_of c)) (in_table h (step h T c).table (tenant_of c)) ≡ true

-- From any table on, calls with each grant made again at once, as by a client that lost the reply, end in the same table; and each is answered as the
-- one that it repeats. Document 02, L6.
pub record SafeToRepeat (h : ℕ) (T : List ℕ) (cs : List Call) : Type 0 where
  pub table : table_from h T (grants_twice cs cs) ≡ table_from h T cs
  pub numbers : answers_from h T (grants_twice cs cs) ≡ grants_twice cs (answers_from h T cs)

-- demand 2: what an accepted call c does to the table T at height h
pub record Demand2 (h : ℕ) (T : List ℕ) (c : Call) : Type 0 where
  -- a grant answered 0 gives a block, or is a repeated one; no other call gives one
  pub grant : (l : ℕ) → Asks h c l → Gave h T c → AfterGrant h T (tenant_of c) l (step h T c)
  pub repetition : (l : ℕ) → Asks h c l → (step h T c).answer ≡ 0 → ¬ Gave h T c → AfterRepetition h T (tenant_of c) l (step h T c)
  pub gives : Gave h T c → ((step h T c).answer ≡ 0) × ((l : ℕ) × Asks h c l)
  -- a grant answered 0 and made again at once names the same node, and nothing changes
  pub again : (l : ℕ) → Asks h c l → (step h T c).answer ≡ 0 → step h (step h T c).table c ≡ repeated (step h T c).table (step h T c).node
  pub release : Releases c → (step h T c).answer ≡ 0 → AfterRelease h T (tenant_of c) (step h T c)
  pub growth : (l : ℕ) → Grows c l → (step h T c).answer ≡ 0 → AfterGrowth h T (tenant_of c) l (step h T c)
