-- A test that does not pass fails.
use mathlib.Core.Path.{◌≡◌, refl}
use mathlib.Core.Bool.{Bool, true, false}

pub false_if_not_true : (x : Bool) → ¬ (x ≡ true) → x ≡ false
false_if_not_true true p = absurd (p refl)
false_if_not_true false p = refl
