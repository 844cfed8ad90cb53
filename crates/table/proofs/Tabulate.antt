-- Laws of `tabulate`, and of filling such a list from its end.
use mathlib.Core.Path.{◌≡◌, refl, sym, ap, ap₂, ◌∙◌}
use mathlib.Core.Bool.{cond}
use mathlib.Core.List.{List, [], ◌∷◌, ◌++◌}
use Prim.Native.Nat.{ℕ, zero, suc, ◌+◌, ◌≤◌, ◌<◌}
use native.Mathlib.Nat.{add-zero, add-suc, suc-add}
use native.Mathlib.Omega.{arith}
use native.Mathlib.Decide.{dec_le}
use borrow.Author.Tests.{le-leb, lt-leb}
use lib.Dec.{leb}
use lib.ListN.{length, get_or, set, replicate}
use Rattle.table.specs.Table.{tabulate}

pub tabulate_length : (i n : ℕ) (f : ℕ → ℕ) → length (tabulate i n f) ≡ n
tabulate_length i zero f = refl
tabulate_length i (suc n) f = ap suc (tabulate_length (suc i) n f)

pub tabulate_cong : (i n : ℕ) {f g : ℕ → ℕ} → ((j : ℕ) → i ≤ j → j < i + n → f j ≡ g j) → tabulate i n f ≡ tabulate i n g
tabulate_cong i zero e = refl
tabulate_cong i (suc n) e = ap₂ ◌∷◌ (e i (omega arith) (omega arith)) (tabulate_cong (suc i) n (λ j q r. e j (omega arith) (omega arith)))

pub get_d_tabulate : (i n : ℕ) (f : ℕ → ℕ) (k : ℕ) → k < n → get_or (tabulate i n f) k 0 ≡ f (i + k)
get_d_tabulate i zero f k q = absurd (omega arith)
get_d_tabulate i (suc n) f zero q = ap f (sym (add-zero i))
get_d_tabulate i (suc n) f (suc k) q = get_d_tabulate (suc i) n f k (omega arith) ∙ ap f (omega arith)

pub tabulate_last : (i n : ℕ) (f : ℕ → ℕ) → tabulate i (suc n) f ≡ tabulate i n f ++ (f (i + n) ∷ [])
tabulate_last i zero f = rw add-zero
tabulate_last i (suc n) f = ap (λ (xs : List ℕ). f i ∷ xs) (rw (add-suc, ← suc-add) (tabulate_last (suc i) n f))

pub tabulate_const : (i n c : ℕ) → tabulate i n (λ j. c) ≡ replicate n c
tabulate_const i zero c = refl
tabulate_const i (suc n) c = ap (λ (xs : List ℕ). c ∷ xs) (tabulate_const (suc i) n c)

-- two functions that differ at one number only
pub set_tabulate : (i n k : ℕ) {f g : ℕ → ℕ} (at : ℕ) → i + k ≡ at → k < n → ((j : ℕ) → ¬ (j ≡ at) → f j ≡ g j)
    → set (tabulate i n f) k (g at) ≡ tabulate i n g
set_tabulate i zero k at e q same = absurd (omega arith)
set_tabulate i (suc n) zero {f} {g} at e q same =
    let i_is_at : i ≡ at = omega arith in
    ap₂ ◌∷◌ (ap g (sym i_is_at)) (tabulate_cong (suc i) n (λ j r u. same j (λ (s : j ≡ at). omega arith)))
set_tabulate i (suc n) (suc k) {f} {g} at e q same =
    ap₂ ◌∷◌ (same i (λ (s : i ≡ at). omega arith)) (set_tabulate (suc i) n k at (omega arith) (omega arith) same)

-- f from k on, 0 before
abbrev pub from : ℕ → (ℕ → ℕ) → ℕ → ℕ
from k f j = cond (leb k j) (f j) 0

from_below : (k : ℕ) (f : ℕ → ℕ) (j : ℕ) → j < k → from k f j ≡ 0
from_below k f j q = rw (lt-leb k j q)

from_above : (k : ℕ) (f : ℕ → ℕ) (j : ℕ) → k ≤ j → from k f j ≡ f j
from_above k f j q = rw (le-leb k j q)

-- the list of f, filled from the end: nothing yet where f is 0 from k on, one more, and all
pub fill_none : (n k : ℕ) (f : ℕ → ℕ) → ((j : ℕ) → k ≤ j → f j ≡ 0) → replicate n 0 ≡ tabulate 0 n (from k f)
fill_none n k f zeros = sym (tabulate_cong 0 n (λ j q r. value j (dec_le k j)) ∙ tabulate_const 0 n 0)
  where
    value : (j : ℕ) → Dec (k ≤ j) → from k f j ≡ 0
    value j (yes q) = from_above k f j q ∙ zeros j q
    value j (no q) = from_below k f j (omega arith)

pub fill_more : (n k : ℕ) (f : ℕ → ℕ) → k < n → set (tabulate 0 n (from (suc k) f)) k (f k) ≡ tabulate 0 n (from k f)
fill_more n k f q =
    ap (set (tabulate 0 n (from (suc k) f)) k) (sym (from_above k f k (omega arith)))
    ∙ set_tabulate 0 n k k (omega arith) q (λ j d. same j d (dec_le k j))
  where
    same : (j : ℕ) → ¬ (j ≡ k) → Dec (k ≤ j) → from (suc k) f j ≡ from k f j
    same j d (yes r) = from_above (suc k) f j (omega arith) ∙ sym (from_above k f j r)
    same j d (no r) = from_below (suc k) f j (omega arith) ∙ sym (from_below k f j (omega arith))

pub fill_all : (n : ℕ) (f : ℕ → ℕ) → tabulate 0 n (from 0 f) ≡ tabulate 0 n f
fill_all n f = tabulate_cong 0 n (λ j q r. from_above 0 f j q)
