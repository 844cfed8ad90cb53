-- Counts with one block more, where a level has its most or there is no such level, and their pages from a level on.
use mathlib.Core.Path.{◌≡◌, refl, ap}
use mathlib.Core.Bool.{Bool, true, false, cond}
use mathlib.Core.List.{List}
use Prim.Native.Nat.{ℕ, suc, ◌+◌, ◌*◌, ◌^◌, ◌≤◌, ◌<◌, min}
use native.Mathlib.Decide.{dec_lt}
use native.Mathlib.Omega.{arith}
use borrow.Author.Tests.{lt-ltb, le-ltb}
use lib.Dec.{ltb}
use lib.ListN.{length, get_or, set, drop}
use lib.Seq.{set_out, set-get_or, drop-cons}
use Rattle.layout.specs.Layout.{pages_from}
use Rattle.layout.specs.Change.{one_block_more}
use Rattle.layout.specs.Counts.{more}

pub more_below : (cs : List ℕ) (l : ℕ) → get_or cs l 0 < 65535 → more cs l ≡ one_block_more cs l
unfolding more
more_below cs l h = rw (lt-ltb (get_or cs l 0) 65535 h)

-- a count of 65,535 stays
pub more_saturated : (cs : List ℕ) (l n : ℕ) → get_or cs l 0 < 65536 → n ≡ min (get_or cs l 0 + 1) 65535 → set cs l n ≡ more cs l
unfolding more
more_saturated cs l n f e = go (dec_lt (get_or cs l 0) 65535)
  where
    go : Dec (get_or cs l 0 < 65535) → set cs l n ≡ cond (ltb (get_or cs l 0) 65535) (one_block_more cs l) cs
    go (yes p) = rw (lt-ltb (get_or cs l 0) 65535 p) (ap (set cs l) (omega (arith, e)))
    go (no p) =
        let same : n ≡ get_or cs l 0 = omega (arith, e) in
        rw (le-ltb (get_or cs l 0) 65535 (omega arith), same) (set-get_or cs l 0)

pub more_past : (cs : List ℕ) (l : ℕ) → length cs ≤ l → more cs l ≡ cs
unfolding more
more_past cs l h = go (ltb (get_or cs l 0) 65535)
  where
    go : (p : Bool) → cond p (one_block_more cs l) cs ≡ cs
    go true = set_out cs l (get_or cs l 0 + 1) h
    go false = refl

pub pages_from_level : (cs : List ℕ) (l : ℕ) → l < length cs
    → pages_from l (drop l cs) ≡ get_or cs l 0 * 2 ^ l + pages_from (suc l) (drop (suc l) cs)
pages_from_level cs l h = ap (pages_from l) (drop-cons cs l 0 h)
