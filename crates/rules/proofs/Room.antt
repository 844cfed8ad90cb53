-- "No room" by adding pages up is "no legal placement".
use mathlib.Core.Path.{◌≡◌, refl}
use mathlib.Core.List.{List, [], ◌∷◌}
use Prim.Native.Nat.{ℕ, zero, suc, ◌+◌, ◌^◌, ◌<◌}
use native.Mathlib.Nat.{add-zero, add-suc, suc-add, zero-add, add-mul, one-mul}
use native.Mathlib.Omega.{arith}
use native.Mathlib.Decide.{ℕ_discrete}
use borrow.Author.Tests.{eq-eqb, ne_eqb}
use lib.Dec.{eqb}
use lib.ListN.{length, get_or}
use lib.Seq.{get_or-set_same, get_or-set_other}
use Rattle.tree.specs.Held.{one_if}
use Rattle.layout.specs.Layout.{pages, pages_from}
use Rattle.layout.specs.Change.{one_block_more}

pages_from_one_more : (l : ℕ) (cs : List ℕ) (x : ℕ) → x < length cs → pages_from l (one_block_more cs x) ≡ pages_from l cs + 2 ^ (l + x)
pages_from_one_more l [] x q = absurd (omega arith)
pages_from_one_more l (c ∷ cs) zero q = rw (add-zero l, add-mul, one-mul) (omega arith)
pages_from_one_more l (c ∷ cs) (suc x) q = rw (add-suc l x, ← suc-add l x) (omega (arith, pages_from_one_more (suc l) cs x (omega arith)))

-- one more block of level x has 2^x more pages
pub pages_one_more : (cs : List ℕ) (x : ℕ) → x < length cs → pages (one_block_more cs x) ≡ pages cs + 2 ^ x
unfolding pages
pages_one_more cs x q = rw zero-add at (pages_from_one_more 0 cs x q)

pub count_one_more : (cs : List ℕ) (x : ℕ) → x < length cs → (m : ℕ) → get_or (one_block_more cs x) m 0 ≡ get_or cs m 0 + one_if (eqb m x)
count_one_more cs x q m = go (ℕ_discrete m x)
  where
    go : Dec (m ≡ x) → get_or (one_block_more cs x) m 0 ≡ get_or cs m 0 + one_if (eqb m x)
    go (yes e) = rw (e, eq-eqb x x refl) (get_or-set_same cs x (get_or cs x 0 + 1) 0 q)
    go (no ne) = rw (ne_eqb m x ne, get_or-set_other cs x m (get_or cs x 0 + 1) 0 ne) (omega arith)
