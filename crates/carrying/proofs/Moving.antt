-- The movers of a call, and the two tables that they move between.
use mathlib.Core.Path.{◌≡◌}
use mathlib.Core.List.{List}
use Prim.Native.Nat.{ℕ, ◌≤◌, ◌<◌}
use lib.ListN.{length, get_or}
use Rattle.tree.specs.Held.{Within, Legal}
use Rattle.table.specs.Table.{node_at, occupied}
use Rattle.table.specs.Paired.{Mover}
use Rattle.plans.specs.Plan.{no_move}
use Rattle.table.specs.declared.Move.{Move}

-- no tenant stands at two places of a list of moves
abbrev pub TenantsOnce : List Move → Type 0
TenantsOnce ms = (i j : ℕ) → i < length ms → j < length ms → (get_or ms i no_move).tenant ≡ (get_or ms j no_move).tenant → i ≡ j

-- each move has a lower tenant number than those before it
abbrev pub Falling : List Move → Type 0
Falling ms = (i j : ℕ) → i < j → j < length ms → (get_or ms j no_move).tenant < (get_or ms i no_move).tenant

-- T is the table before a call of tenant t, T' the one after it, and ms has the movers, each with its nodes, as R says
pub record MovingBy (R : List Move → Type 0) (h t : ℕ) (T T' : List ℕ) (ms : List Move) : Type 0 where
  pub standing : R ms
  pub few : length ms ≤ 7
  pub listed : (i : ℕ) → i < length ms → Mover t T T' (get_or ms i no_move).tenant
  pub old : (i : ℕ) → i < length ms → (get_or ms i no_move).from ≡ node_at T (get_or ms i no_move).tenant
  pub new : (i : ℕ) → i < length ms → (get_or ms i no_move).to ≡ node_at T' (get_or ms i no_move).tenant
  pub all_listed : (u : ℕ) → Mover t T T' u → (i : ℕ) × (i < length ms) × ((get_or ms i no_move).tenant ≡ u)
  pub new_within : Within h (occupied T')
  pub new_legal : Legal (occupied T')
  pub new_once : (u v : ℕ) → 0 < node_at T' u → node_at T' u ≡ node_at T' v → u ≡ v
  pub still_holds : (u : ℕ) → ¬ (u ≡ t) → 0 < node_at T u → 0 < node_at T' u
  pub still_nothing : (u : ℕ) → ¬ (u ≡ t) → node_at T u ≡ 0 → node_at T' u ≡ 0

-- each once, in any order
abbrev pub Unsorted : ℕ → ℕ → List ℕ → List ℕ → List Move → Type 0
Unsorted = MovingBy TenantsOnce

-- by falling tenant number
abbrev pub Moving : ℕ → ℕ → List ℕ → List ℕ → List Move → Type 0
Moving = MovingBy Falling
