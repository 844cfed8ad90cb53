-- What calls do to a line, and whom an admit grants. Document 02, L7.
use Rattle.std.specs.Prelude.{◌≡◌, Bool, false, cond, ◌||◌, List, [], ◌∷◌, ◌++◌, map, ℕ, suc, ◌≤◌, ◌<◌, eqb, leb, length, take, drop}
use Rattle.std.proofs.Math.Option.{Option, some, none}
use Rattle.line.specs.Line.{Waiting, line_of, at, waiting_count, waiting_in}

-- passed eight times: all behind it are barred, and a direct grant counts as last in line
abbrev pub eight : Waiting → Bool
eight w = leb 8 w.passed

-- somebody in line was passed eight times
unfoldable pub barred : List Waiting → Bool
barred [] = false
barred (w ∷ W) = eight w || barred W

-- a join: last in line, and not passed yet
abbrev pub joined : ℕ → ℕ → List Waiting → List Waiting
joined t l W = W ++ record { tenant = t; level = l; passed = 0 } ∷ []

-- passed once more
abbrev pub once_more : Waiting → Waiting
once_more w = record { tenant = w.tenant; level = w.level; passed = suc w.passed }

-- the line without tenant t, where f changes those in front of it
unfoldable pub leave : (Waiting → Waiting) → ℕ → List Waiting → List Waiting
leave f t [] = []
leave f t (w ∷ W) = cond (eqb w.tenant t) W (f w ∷ leave f t W)

-- the first from the front whose level fits, but nobody behind one that was passed eight times
unfoldable pub choose : (ℕ → Bool) → List Waiting → Option Waiting
choose fits [] = none
choose fits (w ∷ W) = cond (fits w.level) (some w) (cond (eight w) none (choose fits W))

-- ---- what the functions over lent numbers ask and give

-- numbers in the form of a line, in which nobody was passed more than eight times
pub record InForm (L : List ℕ) : Type 0 where
  pub few : length (waiting_in L) ≤ 64
  pub numbers : L ≡ line_of (waiting_in L)
  pub seldom : (i : ℕ) → i < waiting_count L → (at L i).passed ≤ 8

-- the place of tenant t, or the place behind the last
unfoldable pub place_of : ℕ → List Waiting → ℕ
place_of t [] = 0
place_of t (w ∷ W) = cond (eqb w.tenant t) 0 (suc (place_of t W))

-- the place of the one that is chosen, or the place behind the last
unfoldable pub place_chosen : (ℕ → Bool) → List Waiting → ℕ
place_chosen fits [] = 0
place_chosen fits (w ∷ W) = cond (fits w.level) 0 (suc (cond (eight w) (length W) (place_chosen fits W)))

-- those at the first n places changed by f
abbrev pub front : (Waiting → Waiting) → ℕ → List Waiting → List Waiting
front f n W = map f (take n W) ++ drop n W

-- without the one at place k
abbrev pub without : ℕ → List Waiting → List Waiting
without k W = take k W ++ drop (suc k) W
