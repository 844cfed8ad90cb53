-- The held sizes with one tenant's entry in the book exchanged.
use mathlib.Core.Path.{◌≡◌, refl, ap}
use mathlib.Core.Bool.{Bool}
use mathlib.Core.Option.{Option}
use Prim.Native.Nat.{ℕ, zero, suc, ◌+◌, ◌<◌}
use native.Mathlib.Omega.{arith}
use native.Mathlib.Decide.{ℕ_discrete}
use borrow.Author.Tests.{eq-eqb, ne_eqb}
use Rattle.tree.specs.Held.{one_if, count}
use Rattle.tree.proofs.Sum.{count_cong}
use Rattle.rules.specs.History.{Book, write, at_level, held}

-- two tests that differ at one number alone
count_but_one : (n t : ℕ) (p q : ℕ → Bool) → t < n → ((k : ℕ) → ¬ (k ≡ t) → p k ≡ q k) → count n p + one_if (q t) ≡ count n q + one_if (p t)
unfolding count
count_but_one zero t p q r same = absurd (omega arith)
count_but_one (suc n) t p q r same = go (ℕ_discrete n t) (λ below. count_but_one n t p q below same)
  where
    go : Dec (n ≡ t) → (t < n → count n p + one_if (q t) ≡ count n q + one_if (p t))
        → one_if (p n) + count n p + one_if (q t) ≡ one_if (q n) + count n q + one_if (p t)
    go (yes e) earlier =
        let rest = count_cong n p q (λ k below. same k (λ f. omega arith)) in
        omega (arith, ap (λ (k : ℕ). one_if (p k)) e, ap (λ (k : ℕ). one_if (q k)) e)
    go (no ne) earlier = omega (arith, earlier (omega arith), ap one_if (same n ne))

-- what one entry is exchanged for comes to the sizes, and what stood there goes
pub held_exchanged : (B : Book) (t : ℕ) (e : Option ℕ) (m : ℕ) → t < 4096
    → held (write t e B) m + one_if (at_level (B t) m) ≡ held B m + one_if (at_level e m)
unfolding held
held_exchanged B t e m q =
    rw (eq-eqb t t refl) at
    (count_but_one 4096 t (λ u. at_level (write t e B u) m) (λ u. at_level (B u) m) q (λ u ne. rw (ne_eqb u t ne)))
