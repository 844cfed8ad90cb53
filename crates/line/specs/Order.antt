-- When a line is in order. Document 02, L7: the conditions of refusal 7 for a line.
use Rattle.std.specs.Prelude.{◌≡◌, Bool, true, false, not, ◌&&◌, ◌||◌, List, [], ◌∷◌, ℕ, ◌+◌, ◌*◌, ◌≤◌, eqb, leb, length, drop}
use Rattle.table.specs.Table.{node_at}
use Rattle.line.specs.Line.{Waiting, line_of, waiting_count, waiting_in}

-- tenant t is in line
unfoldable pub waits : ℕ → List Waiting → Bool
waits t [] = false
waits t (w ∷ W) = eqb w.tenant t || waits t W

-- w may stand in a line at height h over the table T: passed at most eight times, a level of the reserve, a tenant's number, and nothing held
pub record MayWait (h : ℕ) (T : List ℕ) (w : Waiting) : Type 0 where
  pub passed : w.passed ≤ 8
  pub level : w.level ≤ h
  pub tenant : w.tenant ≤ 4095
  pub holds_none : node_at T w.tenant ≡ 0

-- each of the line may stand there, and no tenant stands there twice
pub data Orderly (h : ℕ) (T : List ℕ) : List Waiting → Type 0 where
  nobody : Orderly h T []
  before : {w : Waiting} {W : List Waiting} → MayWait h T w → waits w.tenant W ≡ false → Orderly h T W → Orderly h T (w ∷ W)

-- the numbers L are a line in order, the contrary of refusal 7: at most 64 wait, zeros follow them, and they are orderly
pub record LineInOrder (h : ℕ) (T L : List ℕ) : Type 0 where
  pub few : length (waiting_in L) ≤ 64
  pub numbers : L ≡ line_of (waiting_in L)
  pub orderly : Orderly h T (waiting_in L)

-- ---- the same as a test, for 193 numbers; `proofs/Ordered.antt` shows that it decides `LineInOrder`

-- nothing but zeros
unfoldable pub zeros? : List ℕ → Bool
zeros? [] = true
zeros? (x ∷ xs) = eqb x 0 && zeros? xs

abbrev pub may_wait? : ℕ → List ℕ → Waiting → Bool
may_wait? h T w = leb w.passed 8 && leb w.level h && leb w.tenant 4095 && eqb (node_at T w.tenant) 0

unfoldable pub orderly? : ℕ → List ℕ → List Waiting → Bool
unfolding waits
orderly? h T [] = true
orderly? h T (w ∷ W) = may_wait? h T w && not (waits w.tenant W) && orderly? h T W

unfoldable pub line_in_order? : ℕ → List ℕ → List ℕ → Bool
unfolding zeros? orderly?
line_in_order? h T L = leb (waiting_count L) 64 && zeros? (drop (3 * waiting_count L + 1) L) && orderly? h T (waiting_in L)
