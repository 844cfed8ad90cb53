-- What one turn of a loop over the places does to what is asked of those from place i on.
use mathlib.Core.Path.{◌≡◌, sym, ap, ◌∙◌}
use mathlib.Core.Bool.{Bool, true, false}
use mathlib.Core.List.{List, ◌∷◌}
use Prim.Native.Nat.{ℕ, ◌+◌, ◌-◌, ◌≤◌, ◌<◌}
use native.Mathlib.Nat.{zero-add, sub-zero}
use native.Mathlib.Omega.{arith}
use borrow.Author.Tests.{eq-eqb, ne_eqb, le-leb, lt-leb, lt-ltb, le-ltb}
use lib.ListN.{length}
use Rattle.line.specs.Line.{Waiting, at, standing}
use Rattle.line.specs.Order.{may_wait?, orderly?}
use Rattle.line.specs.Changes.{barred, place_of, place_chosen}
use Rattle.line.proofs.Numbers.{length_standing, standing_more, standing_none}
use Rattle.line.proofs.Places.{waits_by_place}

-- those from place i on
abbrev pub from_place : List ℕ → ℕ → ℕ → List Waiting
from_place L n i = standing L i (n - i)

pub from_first : (L : List ℕ) (n : ℕ) → from_place L n 0 ≡ standing L 0 n
from_first L n = ap (standing L 0) (sub-zero n)

pub place_from_first : (place : List Waiting → ℕ) (L : List ℕ) (n : ℕ) → 0 + place (from_place L n 0) ≡ place (standing L 0 n)
place_from_first place L n = zero-add (place (from_place L n 0)) ∙ ap place (from_first L n)

-- ---- behind the last

module _ (L : List ℕ) (n : ℕ) where
  pub place_none : (t : ℕ) → n + place_of t (from_place L n n) ≡ n
  unfolding place_of
  place_none t = rw (standing_none L n) (omega arith)

  pub barred_none : barred (from_place L n n) ≡ false
  unfolding barred
  barred_none = rw (standing_none L n)

  pub chosen_none : (fits : ℕ → Bool) → n + place_chosen fits (from_place L n n) ≡ n
  unfolding place_chosen
  chosen_none fits = rw (standing_none L n) (omega arith)

  pub orderly_none : (h : ℕ) (T : List ℕ) → orderly? h T (from_place L n n) ≡ true
  unfolding orderly?
  orderly_none h T = rw (standing_none L n)

-- ---- at place i, where w stands

module _ (L : List ℕ) (n i : ℕ) (p : i < n) {w : Waiting} (read : w ≡ at L i) where
  here : from_place L n i ≡ w ∷ from_place L n (i + 1)
  here = standing_more L i n p ∙ ap (λ (v : Waiting). v ∷ from_place L n (i + 1)) (sym read)

  pub place_here : (t : ℕ) → w.tenant ≡ t → i + place_of t (from_place L n i) ≡ i
  unfolding place_of
  place_here t e = rw (here, eq-eqb w.tenant t e) (omega arith)

  pub place_further : (t : ℕ) → ¬ (w.tenant ≡ t) → i + place_of t (from_place L n i) ≡ i + 1 + place_of t (from_place L n (i + 1))
  unfolding place_of
  place_further t d = rw (here, ne_eqb w.tenant t d) (omega arith)

  pub barred_here : 8 ≤ w.passed → barred (from_place L n i) ≡ true
  unfolding barred
  barred_here q = rw (here, le-leb 8 w.passed q)

  pub barred_further : w.passed < 8 → barred (from_place L n i) ≡ barred (from_place L n (i + 1))
  unfolding barred
  barred_further q = rw (here, lt-leb 8 w.passed q)

  pub chosen_here : (fits : ℕ → Bool) → fits w.level ≡ true → i + place_chosen fits (from_place L n i) ≡ i
  unfolding place_chosen
  chosen_here fits e = rw (here, e) (omega arith)

  pub chosen_barred : (fits : ℕ → Bool) → fits w.level ≡ false → 8 ≤ w.passed → i + place_chosen fits (from_place L n i) ≡ n
  unfolding place_chosen
  chosen_barred fits e q =
      rw (here, e, le-leb 8 w.passed q) (omega (arith, length_standing L (i + 1) (n - (i + 1))))

  pub chosen_further : (fits : ℕ → Bool) → fits w.level ≡ false → w.passed < 8
      → i + place_chosen fits (from_place L n i) ≡ i + 1 + place_chosen fits (from_place L n (i + 1))
  unfolding place_chosen
  chosen_further fits e q = rw (here, e, lt-leb 8 w.passed q) (omega arith)

  module _ (h : ℕ) (T : List ℕ) where
    pub disorder_here : may_wait? h T w ≡ false → orderly? h T (from_place L n i) ≡ false
    unfolding orderly?
    disorder_here e = rw (here, e)

    -- the one at place i may wait, and r is the place of its tenant among those behind it
    module _ (may : may_wait? h T w ≡ true) (r : ℕ) (found : r ≡ i + 1 + place_of w.tenant (from_place L n (i + 1))) where
      abbrev behind : List Waiting
      behind = from_place L n (i + 1)

      length_behind : length behind ≡ n - (i + 1)
      length_behind = length_standing L (i + 1) (n - (i + 1))

      pub disorder_behind : r < n → orderly? h T (from_place L n i) ≡ false
      unfolding orderly?
      disorder_behind q =
          let t : ℕ = w.tenant in
          let twice = waits_by_place t behind ∙ lt-ltb (place_of t behind) (length behind) (omega (arith, length_behind)) in
          rw (here, may, twice)

      pub orderly_further : n ≤ r → orderly? h T (from_place L n i) ≡ orderly? h T behind
      unfolding orderly?
      orderly_further q =
          let t : ℕ = w.tenant in
          let once = waits_by_place t behind ∙ le-ltb (place_of t behind) (length behind) (omega (arith, length_behind)) in
          rw (here, may, once)
