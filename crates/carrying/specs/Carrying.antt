-- Carrying out moves, over pages: what document 02, L2, asks of a list of moves, among all plans. T is the table before a call of tenant t, and T'
-- the one after it.
use Rattle.std.specs.Prelude.{◌≡◌, Bool, true, false, ◌||◌, cond, ◌↔◌, List, [], ◌∷◌, ◌++◌, ℕ, ◌+◌, ◌^◌, ◌≤◌, ◌<◌, eqb, length, get_or}
use Rattle.tree.specs.Node.{level, Covers}
use Rattle.table.specs.Table.{node_at}
use Rattle.table.specs.Paired.{Mover}
use Rattle.plans.specs.Plan.{no_move}
use Rattle.table.specs.declared.Move.{Move}

-- ---- blocks that lie on pages

-- where each tenant's block lies: its node, or 0 while it does not lie in the reserve
abbrev pub Lying : Type 0
Lying = ℕ → ℕ

-- the pages of node n are free: no block that lies in the reserve has one of them
abbrev pub FreePages : ℕ → Lying → ℕ → Type 0
FreePages h L n = (u p : ℕ) → 0 < L u → Covers h (L u) p → ¬ Covers h n p

-- tenant u's block lies on node n now, and no longer where it lay; the others lie where they lay
abbrev pub laid : Lying → ℕ → ℕ → Lying
laid L u n v = cond (eqb v u) n (L v)

-- u stands in the list
abbrev pub among : ℕ → List ℕ → Bool
among u [] = false
among u (v ∷ vs) = eqb u v || among u vs

-- nobody stands in it twice
abbrev pub Once : List ℕ → Type 0
Once [] = Unit {0}
Once (u ∷ us) = (among u us ≡ false) × Once us

-- before the first move each block lies on its node of T, but not that of t, which is released, grows or is yet to come, and not those of the
-- staged, which are lifted out
abbrev pub lifted_out : ℕ → List ℕ → List ℕ → Lying
lifted_out t T staged u = cond (eqb u t || among u staged) 0 (node_at T u)

-- the tenants us come to lie on their nodes of T' one by one, each on pages that are free at that moment
pub data LaidDown (h : ℕ) (T' : List ℕ) : Lying → List ℕ → Type 0 where
  nobody : (L : Lying) → LaidDown h T' L []
  next : (L : Lying) (u : ℕ) (us : List ℕ) → FreePages h L (node_at T' u) → LaidDown h T' (laid L u (node_at T' u)) us → LaidDown h T' L (u ∷ us)

-- where the blocks lie afterwards
abbrev pub lying_after : List ℕ → Lying → List ℕ → Lying
lying_after T' L [] = L
lying_after T' L (u ∷ us) = lying_after T' (laid L u (node_at T' u)) us

-- ---- plans

-- a plan: the direct movers in the order of their going, and the staged in the order of their being set down
pub record Plan : Type 0 where
  pub direct : List ℕ
  pub staged : List ℕ

-- the newcomer: t, if it has a node in T'; one that grows comes as if it had had none
abbrev pub newcomer_in : List ℕ → ℕ → List ℕ
newcomer_in T' t = cond (eqb (node_at T' t) 0) [] (t ∷ [])

-- all who come to lie on a node, in their order: the direct ones, then the staged, then the newcomer
abbrev pub everybody_in : Plan → List ℕ → ℕ → List ℕ
everybody_in p T' t = p.direct ++ p.staged ++ newcomer_in T' t

-- the plan can be carried out
pub record CarriedOut (h t : ℕ) (T T' : List ℕ) (p : Plan) : Type 0 where
  -- just the movers stand in it, each once
  pub movers : (u : ℕ) → (among u (p.direct ++ p.staged) ≡ true) ↔ Mover t T T' u
  pub once : Once (p.direct ++ p.staged)
  -- the staged are lifted out, and then each comes onto free pages
  pub works : LaidDown h T' (lifted_out t T p.staged) (everybody_in p T' t)

-- the pages that the tenants us have in T
abbrev pub pages_at : ℕ → List ℕ → List ℕ → ℕ
pages_at h T [] = 0
pages_at h T (u ∷ us) = 2 ^ level h (node_at T u) + pages_at h T us

-- each number is below all those after it
abbrev pub Ascending : List ℕ → Type 0
Ascending [] = Unit {0}
Ascending (u ∷ us) = ((v : ℕ) → among v us ≡ true → u < v) × Ascending us

-- us comes before vs: it has the lower number at the first place where they differ
pub data Before : List ℕ → List ℕ → Type 0 where
  lower : (u v : ℕ) (us vs : List ℕ) → u < v → Before (u ∷ us) (v ∷ vs)
  alike : (u : ℕ) (us vs : List ℕ) → Before us vs → Before (u ∷ us) (u ∷ vs)

-- vs is the list of the ascending tenant numbers of us
pub record AscendingOf (us vs : List ℕ) : Type 0 where
  pub ascending : Ascending vs
  pub members : (u : ℕ) → among u vs ≡ among u us

-- p is the plan to be listed
pub record BestPlan (h t : ℕ) (T T' : List ℕ) (p : Plan) : Type 0 where
  pub carried_out : CarriedOut h t T T' p
  -- no plan stages fewer pages
  pub fewest_pages : (q : Plan) → CarriedOut h t T T' q → pages_at h T p.staged ≤ pages_at h T q.staged
  -- among those with as few pages none stages fewer tenants
  pub fewest_tenants : (q : Plan) → CarriedOut h t T T' q → pages_at h T q.staged ≡ pages_at h T p.staged
      → length p.staged ≤ length q.staged
  -- among those none has an earlier list of ascending tenant numbers
  pub first_list : (q : Plan) → CarriedOut h t T T' q → pages_at h T q.staged ≡ pages_at h T p.staged
      → length q.staged ≡ length p.staged → (vs : List ℕ) → AscendingOf q.staged vs → ¬ Before vs p.staged
  -- the direct moves go lowest possible tenant number first: when u goes, the new pages of no lower one that is to go later are free
  pub lowest_first : (us vs : List ℕ) (u v : ℕ) → p.direct ≡ us ++ (u ∷ vs) → among v vs ≡ true → v < u
      → ¬ FreePages h (lying_after T' (lifted_out t T p.staged) us) (node_at T' v)
  -- the staged follow by tenant number
  pub by_number : Ascending p.staged

-- ---- lists of moves

-- the tenants of the moves whose fourth number is s
abbrev pub tenants_with : ℕ → List Move → List ℕ
tenants_with s [] = []
tenants_with s (m ∷ ms) = cond (eqb m.staged s) (m.tenant ∷ tenants_with s ms) (tenants_with s ms)

-- the plan that a list of moves spells
abbrev pub plan_in : List Move → Plan
plan_in ms = record { direct = tenants_with 0 ms; staged = tenants_with 1 ms }

-- the list of moves is that of document 02: the best plan's, with 1 for the staged, 0 for the others, who stand first
pub record Workable (h t : ℕ) (T T' : List ℕ) (ms : List Move) : Type 0 where
  pub best : BestPlan h t T T' (plan_in ms)
  -- carried out, it brings every block to where the table afterwards has it
  pub arrives : (u : ℕ) → lying_after T' (lifted_out t T (plan_in ms).staged) (everybody_in (plan_in ms) T' t) u ≡ node_at T' u
  pub zero_or_one : (i : ℕ) → i < length ms → (get_or ms i no_move).staged ≤ 1
  pub direct_first : (i j : ℕ) → i < j → j < length ms → (get_or ms i no_move).staged ≤ (get_or ms j no_move).staged
