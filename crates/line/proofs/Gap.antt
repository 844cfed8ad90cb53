-- A gap of three is closed: what is behind it is copied three places up, and zeros are stored behind that.
use mathlib.Core.Path.{◌≡◌, sym, ap, ◌∙◌}
use mathlib.Core.List.{List, [], ◌++◌}
use Prim.Native.Nat.{ℕ, ◌+◌, ◌-◌, ◌≤◌}
use native.Mathlib.Omega.{arith}
use borrow.Rule.Slice.PartMut.{put_mid, post_of}
use lib.ListN.{length, take, drop, replicate, length-take, length-drop, drop_of_length-le}
use lib.Seq.{take_all, paste, take-paste}
use Rattle.std.specs.List.{copy_within}
use Rattle.line.proofs.Numbers.{closed}

-- the numbers C are L after the copy
module _ (L : List ℕ) (f : ℕ) (long : length L ≡ 193) (inside : f + 3 ≤ 193) (C : List ℕ)
    (copied : C ≡ copy_within L (f + 3) 193 f) (as_long : length C ≡ length L) where
  abbrev behind : List ℕ
  behind = drop (f + 3) L

  first_is : take 190 C ≡ take f L ++ behind
  first_is =
      let n : ℕ = 193 - (f + 3) in
      let place : f + n ≡ 190 = omega arith in
      let length_behind : length behind ≡ length L - (f + 3) = length-drop (f + 3) L in
      rw copied
      (ap (λ (k : ℕ). take k (paste L f behind n)) (sym place)
      ∙ take-paste L f behind n (omega arith) (omega arith)
      ∙ ap (λ (r : List ℕ). take f L ++ r) (take_all n behind (omega arith)))

  pub gap_is_closed : (Z : List ℕ) → Z ≡ replicate (length (take 3 (drop 190 C))) 0 → put_mid 190 3 C Z ≡ closed L f
  gap_is_closed Z zeros =
      let three : length (take 3 (drop 190 C)) ≡ 3 = omega (arith, length-take 3 (drop 190 C), length-drop 190 C) in
      let last : post_of 190 3 C ≡ [] = drop_of_length-le (drop 190 C) {i = 3} (omega (arith, length-drop 190 C)) in
      rw (zeros, three, first_is, last)
