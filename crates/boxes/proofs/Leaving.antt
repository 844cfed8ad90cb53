-- The line that one has left: how long it is, and who is in it.
use mathlib.Core.Path.{◌≡◌, refl, sym, ap, ◌∙◌}
use mathlib.Core.Bool.{true, false, false≢true}
use mathlib.Core.List.{List, [], ◌∷◌}
use mathlib.Core.Option.{some}
use Prim.Native.Nat.{ℕ, zero, suc, ◌<◌}
use native.Mathlib.Omega.{arith}
use borrow.Author.Tests.{eq-eqb, ne_eqb}
use Rattle.std.proofs.lemmas.Bool.Decides.{nat_tests}
use lib.ListN.{length, get_or}
use Rattle.line.specs.Line.{Waiting}
use Rattle.line.specs.Order.{waits, Orderly, nobody, before}
use Rattle.line.specs.Changes.{leave}
use Rattle.line.proofs.Places.{waits_at, waits_not_left}
use Rattle.boxes.specs.History.{level_in}

-- one fewer
pub length_left : (f : Waiting → Waiting) (t : ℕ) (W : List Waiting) → waits t W ≡ true → suc (length (leave f t W)) ≡ length W
unfolding waits leave
length_left f t [] e = absurd (false≢true e)
length_left f t (w ∷ W) e = grind (arith, nat_tests, length_left f t W)

-- it is not in line any more
pub gone : (h : ℕ) (T : List ℕ) (f : Waiting → Waiting) → ((w : Waiting) → (f w).tenant ≡ w.tenant) → (t : ℕ) (W : List Waiting) → Orderly h T W
    → waits t (leave f t W) ≡ false
unfolding waits leave
gone h T f same t W nobody = refl
gone h T f same t W (before {w = w} {W = W'} may once rest) = grind (arith, nat_tests, same w, once, gone h T f same t W' rest)

-- and who is in line was so before
pub was_waiting : (f : Waiting → Waiting) → ((w : Waiting) → (f w).tenant ≡ w.tenant) → (s t : ℕ) (W : List Waiting)
    → waits s (leave f t W) ≡ true → waits s W ≡ true
was_waiting f same s t W e = grind (arith, waits_not_left f same s t W)

-- the level that the one at place k waits for
pub level_of_own : (h : ℕ) (T : List ℕ) (W : List Waiting) → Orderly h T W → (k : ℕ) (d : Waiting) → k < length W
    → level_in (get_or W k d).tenant W ≡ some (get_or W k d).level
level_of_own h T W nobody k d p = absurd (omega arith)
level_of_own h T W (before {w = w} may once rest) zero d p = rw (eq-eqb w.tenant w.tenant refl)
level_of_own h T W (before {w = w} {W = W'} may once rest) (suc k) d p =
    let t : ℕ = (get_or W' k d).tenant in
    let other : ¬ (w.tenant ≡ t) =
    λ e. false≢true (sym once ∙ ap (λ (u : ℕ). waits u W') e ∙ waits_at W' k d (omega arith)) in
    rw (ne_eqb w.tenant t other) (level_of_own h T W' rest k d (omega arith))
