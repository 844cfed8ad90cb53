-- How many entries an array has, and its first and last ones.
use mathlib.Core.Path.{◌≡◌, refl, ap}
use mathlib.Core.List.{List, [], ◌∷◌, map}
use Prim.Native.Nat.{ℕ, zero, suc, ◌-◌}
use native.Mathlib.Nat.{sub-zero, zero-sub, suc-sub-suc}
use lib.ListN.{length, take, drop, replicate, length-map}

-- what is known of an array in a struct speaks of its entries as the machine holds them
pub length_of_mapped : (X Y : Type 0) (f : X → Y) (l : List X) (n : ℕ) → length (map f l) ≡ n → length l ≡ n
length_of_mapped X Y f l n e = simp length-map at e

pub take_own_length : {A : Type 0} (n : ℕ) (xs : List A) → take (length (take n xs)) xs ≡ take n xs
take_own_length zero xs = refl
take_own_length (suc n) [] = refl
take_own_length (suc n) (x ∷ xs) = ap (λ (l : List _). x ∷ l) (take_own_length n xs)

pub drop_replicate : {A : Type 0} (i n : ℕ) (a : A) → drop i (replicate n a) ≡ replicate (n - i) a
drop_replicate zero n a = rw sub-zero
drop_replicate (suc i) zero a = rw zero-sub
drop_replicate (suc i) (suc n) a = rw suc-sub-suc (drop_replicate i n a)
