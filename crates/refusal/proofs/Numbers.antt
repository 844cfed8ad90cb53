-- No refusal has the number 0, which says that a call was done, and no two have the same number.
use mathlib.Core.Path.{◌≡◌, refl, sym, ap, ◌∙◌}
use mathlib.Core.Bool.{cond}
use Prim.Native.Nat.{ℕ, ◌<◌}
use lib.Dec.{eqb}
use native.Mathlib.Omega.{arith}
use Rattle.refusal.specs.declared.Refusal.{Refusal}
use Rattle.refusal.specs.declared.Refusal.TheVariants.{Height, TableLength, Moves, Tenant, Level, Pages, NotInOrder, Holds, HoldsNone}
use Rattle.refusal.specs.declared.Refusal.TheVariants.{NoRoom, NoOpen, UnknownKind, CutOff, OpenAgain, TooShort, TooLong, LineFull, Waits}
use Rattle.refusal.specs.Number.{number_of}

pub above_zero : (e : Refusal) → 0 < number_of e
above_zero Height = omega arith
above_zero TableLength = omega arith
above_zero Moves = omega arith
above_zero Tenant = omega arith
above_zero Level = omega arith
above_zero Pages = omega arith
above_zero NotInOrder = omega arith
above_zero Holds = omega arith
above_zero HoldsNone = omega arith
above_zero NoRoom = omega arith
above_zero NoOpen = omega arith
above_zero UnknownKind = omega arith
above_zero CutOff = omega arith
above_zero OpenAgain = omega arith
above_zero TooShort = omega arith
above_zero TooLong = omega arith
above_zero LineFull = omega arith
above_zero Waits = omega arith

-- so a number that is a refusal's is not 0
pub not_zero : (e : Refusal) (k : ℕ) → number_of e ≡ k → ¬ (k ≡ 0)
not_zero e k is z = omega (arith, above_zero e, is, z)

-- ---- one number, one refusal

-- the refusal with a number; the first one for a number that none has
abbrev with_number : ℕ → Refusal
with_number n =
    cond (eqb n 2) TableLength
    (cond (eqb n 3) Moves
    (cond (eqb n 4) Tenant
    (cond (eqb n 5) Level
    (cond (eqb n 6) Pages
    (cond (eqb n 7) NotInOrder
    (cond (eqb n 8) Holds
    (cond (eqb n 9) HoldsNone
    (cond (eqb n 10) NoRoom
    (cond (eqb n 11) NoOpen
    (cond (eqb n 12) UnknownKind
    (cond (eqb n 13) CutOff
    (cond (eqb n 14) OpenAgain
    (cond (eqb n 15) TooShort
    (cond (eqb n 16) TooLong
    (cond (eqb n 17) LineFull
    (cond (eqb n 18) Waits
    Height))))))))))))))))

with_its_number : (e : Refusal) → with_number (number_of e) ≡ e
with_its_number Height = refl
with_its_number TableLength = refl
with_its_number Moves = refl
with_its_number Tenant = refl
with_its_number Level = refl
with_its_number Pages = refl
with_its_number NotInOrder = refl
with_its_number Holds = refl
with_its_number HoldsNone = refl
with_its_number NoRoom = refl
with_its_number NoOpen = refl
with_its_number UnknownKind = refl
with_its_number CutOff = refl
with_its_number OpenAgain = refl
with_its_number TooShort = refl
with_its_number TooLong = refl
with_its_number LineFull = refl
with_its_number Waits = refl

-- so a number that is a refusal's says which one it is
pub number_tells : (e f : Refusal) → number_of e ≡ number_of f → e ≡ f
number_tells e f is = sym (with_its_number e) ∙ ap with_number is ∙ with_its_number f
