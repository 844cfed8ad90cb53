-- Two lists of blocks read side by side, and how many blocks of each are not in the other.
use mathlib.Core.Path.{refl}
use mathlib.Core.Bool.{Bool, true, false, not, ◌||◌}
use mathlib.Core.List.{List, [], ◌∷◌, ◌++◌}
use Prim.Native.Nat.{ℕ, suc, ◌≤◌, zero-le}
use native.Mathlib.Omega.{arith}
use borrow.Author.Tests.{eq-eqb}
use Rattle.tree.specs.Held.{one_if}
use Rattle.tree.specs.Block.{Block}
use Rattle.tree.proofs.Sum.{one_if_le_one}
use Rattle.layout.specs.Layout.{among, same_block}
use Rattle.layout.specs.Change.{missing}

-- ys comes from xs by leaving out at most m blocks and putting in at most n, so it gives a bound on what is missing in either
pub data Edit : List Block → List Block → ℕ → ℕ → Type 0 where
  done : {m n : ℕ} → Edit [] [] m n
  hit : {b : Block} {xs ys : List Block} {m n : ℕ} → Edit xs ys m n → Edit (b ∷ xs) (b ∷ ys) m n
  miss : {b : Block} {xs ys : List Block} {m n : ℕ} → Edit xs ys m n → Edit (b ∷ xs) ys (suc m) n
  more : {b : Block} {xs ys : List Block} {m n : ℕ} → Edit xs ys m n → Edit xs (b ∷ ys) m (suc n)

pub hits : (zs : List Block) {xs ys : List Block} {m n : ℕ} → Edit xs ys m n → Edit (zs ++ xs) (zs ++ ys) m n
hits [] e = e
hits (z ∷ zs) e = hit (hits zs e)

pub same_list : (zs : List Block) {m n : ℕ} → Edit zs zs m n
same_list [] = done
same_list (z ∷ zs) = hit (same_list zs)

pub looser : {xs ys : List Block} {m n : ℕ} → Edit xs ys m n → Edit xs ys (suc m) (suc n)
looser done = done
looser (hit e) = hit (looser e)
looser (miss e) = miss (looser e)
looser (more e) = more (looser e)

pub backwards : {xs ys : List Block} {m n : ℕ} → Edit xs ys m n → Edit ys xs n m
backwards done = done
backwards (hit e) = hit (backwards e)
backwards (miss e) = more (backwards e)
backwards (more e) = miss (backwards e)

fewer_with_either : (s t : Bool) → one_if (not (s || t)) ≤ one_if (not t)
fewer_with_either true t = zero-le
fewer_with_either false t = omega arith

-- one more block in the set: no more are missing
missing_in_larger : (xs ys : List Block) (b : Block) → missing xs (among (b ∷ ys)) ≤ missing xs (among ys)
unfolding missing
missing_in_larger [] ys b = zero-le
missing_in_larger (x ∷ xs) ys b =
    omega (arith, fewer_with_either (same_block b x) (among ys x), missing_in_larger xs ys b)

pub missing_at_most : {xs ys : List Block} {m n : ℕ} → Edit xs ys m n → missing xs (among ys) ≤ m
unfolding missing
missing_at_most done = zero-le
missing_at_most (hit {b} {xs} {ys} e) =
    rw (eq-eqb b.level b.level refl, eq-eqb b.index b.index refl)
    (omega (arith, missing_in_larger xs ys b, missing_at_most e))
missing_at_most (miss {b} {xs} {ys} e) = omega (arith, one_if_le_one (not (among ys b)), missing_at_most e)
missing_at_most (more {b} {xs} {ys} e) = omega (arith, missing_in_larger xs ys b, missing_at_most e)
