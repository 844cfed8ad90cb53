-- Who is chosen from a line: the first that may be, and nobody if none may.
use mathlib.Core.Path.{◌≡◌, refl}
use mathlib.Core.Bool.{Bool, true, false, ◌||◌, false≢true}
use mathlib.Core.List.{List, [], ◌∷◌}
use Prim.Native.Nat.{ℕ, zero, suc, ◌≤◌, ◌<◌, zero-le}
use native.Mathlib.Omega.{arith}
use borrow.Author.Tests.{leb-true}
use Rattle.std.proofs.lemmas.Bool.Decides.{nat_tests}
use lib.ListN.{length, get_or}
use Rattle.line.specs.Line.{Waiting}
use Rattle.line.specs.Changes.{eight, barred, place_chosen}

-- nobody behind one that fits and is not barred is chosen
pub chosen_by : (fits : ℕ → Bool) (W : List Waiting) (k : ℕ) (d : Waiting) → k < length W → fits (get_or W k d).level ≡ true
    → ((i : ℕ) → i < k → (get_or W i d).passed < 8) → place_chosen fits W ≤ k
unfolding place_chosen
chosen_by fits [] k d p f q = absurd (omega arith)
chosen_by fits (w ∷ W) zero d p f q = rw f zero-le
chosen_by fits (w ∷ W) (suc k) d p f q =
    grind (arith, nat_tests, q 0 (omega arith), chosen_by fits W k d (omega arith) f (λ i r. q (suc i) (omega arith)))

-- who makes a line barred was passed eight times
pub at_eight : (W : List Waiting) (d : Waiting) → barred W ≡ true → (k : ℕ) × (k < length W) × (8 ≤ (get_or W k d).passed)
unfolding barred
at_eight [] d e = absurd (false≢true e)
at_eight (w ∷ W) d e = go (eight w) refl e (at_eight W d)
  where
    go : (b : Bool) → eight w ≡ b → b || barred W ≡ true → (barred W ≡ true → (k : ℕ) × (k < length W) × (8 ≤ (get_or W k d).passed))
        → (k : ℕ) × (k < length (w ∷ W)) × (8 ≤ (get_or (w ∷ W) k d).passed)
    go true p e rest = (0, omega arith, leb-true 8 w.passed p)
    go false p e rest = let r = rest e in (suc r.0, omega (arith, r.1), r.2)
