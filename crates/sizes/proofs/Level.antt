-- The level that a number of pages takes is the smallest whose block has them and the guard page; 0 names none and takes 4 or the height.
use mathlib.Core.Path.{◌≡◌, refl, sym}
use mathlib.Core.Bool.{Bool, true, false, cond}
use mathlib.Core.Logic.{◌↔◌}
use Prim.Native.Nat.{ℕ, zero, suc, ◌+◌, ◌-◌, ◌^◌, ◌≤◌, ◌<◌}
use native.Mathlib.Nat.{add-zero, add-suc, suc-add, zero-add, pow-suc, le_antisymm}
use native.Mathlib.Numerals.{add-one}
use native.Mathlib.Omega.{arith}
use native.Mathlib.Decide.{dec_lt}
use borrow.Author.Tests.{leb-true, leb-false}
use lib.Dec.{leb}
use lib.Pow.{pow_mono, pow_pos}
use Rattle.tree.specs.Node.{depth}
use Rattle.tree.proofs.Highest.{Highest, depth_highest}
use Rattle.sizes.specs.Level.{least_from, least_level, level_for}
use Rattle.sizes.specs.Promise.{Least, LevelPromise}

least_from_is_least : (l n p : ℕ) → p ≤ 2 ^ (l + n) → ((m : ℕ) → p ≤ 2 ^ m → l ≤ m) → Least p (least_from l n p)
least_from_is_least l zero p q s = record { enough = rw (add-zero l) at q; smallest = s }
least_from_is_least l (suc n) p q s = go (leb p (2 ^ l)) refl (λ s'. least_from_is_least (suc l) n p (rw (add-suc, ← suc-add) at q) s')
  where
    go : (b : Bool) → leb p (2 ^ l) ≡ b → (((m : ℕ) → p ≤ 2 ^ m → suc l ≤ m) → Least p (least_from (suc l) n p))
        → Least p (cond b l (least_from (suc l) n p))
    go true e up = record { enough = leb-true p (2 ^ l) e; smallest = s }
    go false e up = up above
      where
        above : (m : ℕ) → p ≤ 2 ^ m → suc l ≤ m
        above m r = let more : 2 ^ l < p = leb-false p (2 ^ l) e in
            elim (dec_lt l m) [
              | yes t ↦ t
              | no nt ↦ absurd (omega (arith, pow_mono (not_lt nt)))
            ]
          where
            not_lt : ¬ (l < m) → m ≤ l
            not_lt f = omega arith

le_pow : (p : ℕ) → p ≤ 2 ^ p
le_pow zero = omega arith
le_pow (suc p) = rw pow-suc (omega (arith, le_pow p, pow_pos p))

least_level_least : (p : ℕ) → Least p (least_level p)
unfolding least_level
least_level_least p = least_from_is_least 0 p p (rw zero-add (le_pow p)) (λ m q. omega arith)

least_unique : (p l m : ℕ) → Least p l → Least p m → l ≡ m
least_unique p l m a b = le_antisymm (a.smallest m b.enough) (b.smallest l a.enough)

pub least_level_is : (p l : ℕ) → Least p l → least_level p ≡ l
least_level_is p l a = least_unique p (least_level p) l (least_level_least p) a

-- a block with p pages and one more is larger than the reserve from p = 2^h upwards and only there
least_above : (h p l : ℕ) → Least (p + 1) l → (2 ^ h ≤ p) ↔ (h < l)
least_above h p l a = (λ q. lacking q (dec_lt h l), λ above. many above (dec_lt p (2 ^ h)))
  where
    lacking : 2 ^ h ≤ p → Dec (h < l) → h < l
    lacking q (yes above) = above
    lacking q (no not_above) = absurd (omega (arith, a.enough, pow_mono (within not_above)))
      where
        within : ¬ (h < l) → l ≤ h
        within f = omega arith

    many : h < l → Dec (p < 2 ^ h) → 2 ^ h ≤ p
    many above (yes few) = absurd (omega (arith, a.smallest h (omega arith)))
    many above (no not_few) = omega arith

-- document 02's words, of the definition
pub level_of_pages : LevelPromise
unfolding level_for
level_of_pages h zero = record {
  with_guard = λ q. absurd (omega arith);
  no_size = λ z q. omega arith;
  no_size_low = λ z q. omega arith;
  above_height = (λ q. absurd (omega (arith, pow_pos h)), λ above. absurd (omega arith));
}
level_of_pages h (suc p) = record {
  with_guard = λ q. least_level_least (suc p + 1);
  no_size = λ z q. absurd (omega arith);
  no_size_low = λ z q. absurd (omega arith);
  above_height = least_above h (suc p) (least_level (suc p + 1)) (least_level_least (suc p + 1));
}

pub level_for_named : (h p : ℕ) → 0 < p → level_for h p ≡ least_level (p + 1)
level_for_named h p q = sym (least_level_is (p + 1) (level_for h p) ((level_of_pages h p).with_guard q))

-- pages of which the reserve has one more take a level that it has
pub level_for_le : (h p : ℕ) → p < 2 ^ h → level_for h p ≤ h
level_for_le h p q = go (dec_lt h (level_for h p))
  where
    go : Dec (h < level_for h p) → level_for h p ≤ h
    go (yes above) = absurd (omega (arith, (level_of_pages h p).above_height.1 above))
    go (no not_above) = omega arith

-- two pages or more: the level above the depth of one page less
pub least_by_depth : (p : ℕ) → 1 < p → Least p (depth (p - 1) + 1)
least_by_depth p q = go (depth_highest (p - 1) (omega arith))
  where
    go : Highest (depth (p - 1)) (p - 1) → Least p (depth (p - 1) + 1)
    go b = record { enough = rw add-one (omega (arith, b.high)); smallest = λ m r. above m r (dec_lt (depth (p - 1)) m) }
      where
        above : (m : ℕ) → p ≤ 2 ^ m → Dec (depth (p - 1) < m) → depth (p - 1) + 1 ≤ m
        above m r (yes s) = omega arith
        above m r (no ns) = absurd (omega (arith, b.low, pow_mono (not_lt ns)))
          where
            not_lt : ¬ (depth (p - 1) < m) → m ≤ depth (p - 1)
            not_lt f = omega arith
