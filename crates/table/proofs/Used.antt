-- Laws of `tally`: from an index on, and in a part.
use mathlib.Core.Path.{◌≡◌, refl}
use mathlib.Core.Bool.{Bool}
use mathlib.Core.List.{List, [], ◌∷◌, ◌++◌}
use Prim.Native.Nat.{ℕ, zero, suc, ◌+◌, ◌≤◌, ◌<◌}
use native.Mathlib.Omega.{arith}
use borrow.Author.Tests.{lt-ltb, ne_eqb}
use lib.Dec.{eqb, ltb}
use lib.ListN.{length, take, drop, drop_of_length-le, length-take, length-drop}
use lib.Seq.{drop-cons, take-suc, get_or-drop}
use Rattle.tree.specs.Held.{one_if}
use Rattle.tree.specs.Pages.{sum}
use Rattle.tree.proofs.Sum.{one_if_le_one}
use Rattle.table.specs.Table.{node_of, node_at, tally}
use Rattle.table.specs.Owners.{used_in}

pub tally_le_length : (p : ℕ → Bool) (T : List ℕ) → tally p T ≤ length T
unfolding tally
tally_le_length p [] = omega arith
tally_le_length p (e ∷ T) = omega (arith, one_if_le_one (p (node_of e)), tally_le_length p T)

pub tally_take_le : (p : ℕ → Bool) (n : ℕ) (T : List ℕ) → tally p (take n T) ≤ n
tally_take_le p n T = omega (arith, tally_le_length p (take n T), length-take n T)

-- an entry is used, or 0
used_or_zero : (n : ℕ) → one_if (ltb 0 n) + one_if (eqb n 0) ≡ 1
used_or_zero zero = refl
used_or_zero (suc n) = rw (lt-ltb 0 (suc n) (omega arith), ne_eqb (suc n) 0 (omega arith))

pub used_and_zeros : (T : List ℕ) → used_in T + tally (λ n. eqb n 0) T ≡ length T
unfolding tally
used_and_zeros [] = refl
used_and_zeros (e ∷ T) = omega (arith, used_or_zero (node_of e), used_and_zeros T)

-- from an index on
pub tally_from : (p : ℕ → Bool) (T : List ℕ) (i : ℕ) → i < length T → tally p (drop i T) ≡ one_if (p (node_at T i)) + tally p (drop (suc i) T)
unfolding tally
tally_from p T i q = rw (drop-cons T i 0 q)

pub tally_from_end : (p : ℕ → Bool) (T : List ℕ) (i : ℕ) → length T ≤ i → tally p (drop i T) ≡ 0
unfolding tally
tally_from_end p T i q = rw (drop_of_length-le T q)

tally_append : (p : ℕ → Bool) (T U : List ℕ) → tally p (T ++ U) ≡ tally p T + tally p U
unfolding tally
tally_append p [] U = omega arith
tally_append p (e ∷ T) U = omega (arith, tally_append p T U)

-- the entries of a part, index by index
pub tally_part : (p : ℕ → Bool) (a w : ℕ) (o : List ℕ) → a + w ≤ length o → tally p (take w (drop a o)) ≡ sum w (λ k. one_if (p (node_at o (a + k))))
unfolding tally sum
tally_part p a zero o q = refl
tally_part p a (suc w) o q =
    rw (take-suc (drop a o) w 0 (rw (length-drop a o) (omega arith)), tally_append p (take w (drop a o)), get_or-drop a o w 0)
    (omega (arith, tally_part p a w o (omega arith)))
