-- Two sets of nodes with equal numbers at each level are the same if one lies in the other.
use mathlib.Core.Path.{◌≡◌, refl, ap₂}
use mathlib.Core.Bool.{Bool, true, ◌&&◌}
use Prim.Native.Nat.{ℕ, suc, ◌^◌}
use borrow.Author.Tests.{eq-eqb}
use lib.Dec.{eqb}
use Rattle.tree.specs.Node.{level}
use Rattle.tree.specs.Held.{Nodes, Within, sizes}
use Rattle.tree.proofs.Sets.{both_left, both_right}
use Rattle.tree.proofs.Count.{equal_of_both_ways, equal_counts_converse}

pub same_of_sizes : (h : ℕ) (A B : Nodes) → Within h B → ((l : ℕ) → sizes h A l ≡ sizes h B l) → ((n : ℕ) → A n ≡ true → B n ≡ true)
    → (n : ℕ) → A n ≡ B n
unfolding sizes
same_of_sizes h A B within equal inside n = equal_of_both_ways (A n) (B n) (inside n) outside
  where
    of_level : Nodes → ℕ → Bool
    of_level S i = S i && eqb (level h i) (level h n)

    inside_level : (i : ℕ) → of_level A i ≡ true → of_level B i ≡ true
    inside_level i p = ap₂ ◌&&◌ (inside i (both_left (A i) (eqb (level h i) (level h n)) p)) (both_right (A i) (eqb (level h i) (level h n)) p)

    outside : B n ≡ true → A n ≡ true
    outside p =
        both_left (A n) (eqb (level h n) (level h n))
        (equal_counts_converse (2 ^ suc h) (of_level A) (of_level B) (equal (level h n)) inside_level n (within n p).in_height
        (ap₂ ◌&&◌ p (eq-eqb (level h n) (level h n) refl)))
