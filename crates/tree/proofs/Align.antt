-- Two blocks that share a page are one block, or one lies inside the other.
use mathlib.Core.Path.{◌≡◌}
use mathlib.Core.Logic.{◌⊎◌, inl, inr}
use Prim.Native.Nat.{ℕ, suc, ◌+◌, ◌*◌, ◌^◌, ◌≤◌, ◌<◌}
use native.Mathlib.Omega.{arith}
use native.Mathlib.Nat.{mul-le-mul_right, lt_of_mul-lt-mul_right, le_dest}
use native.Mathlib.Decide.{dec_lt}
use lib.Pow.{pow-add, pow_pos}
use Rattle.tree.specs.Block.{Block, first, past, Meet, Inside}

-- a block has a page
pub first_lt_past : (b : Block) → first b < past b
first_lt_past b = omega (arith, pow_pos b.level)

pub same_block : (a b : Block) → a.level ≡ b.level → a.index ≡ b.index → a ≡ b
same_block a b p q = λ i. record { level = p i; index = q i }

pub inside_meet : (a b : Block) → Inside a b → Meet a b
inside_meet a b s =
    record {
      a_first = omega (arith, first_lt_past a, s.to);
      b_first = omega (arith, first_lt_past a, s.from);
    }

pub meet_sym : (a b : Block) → Meet a b → Meet b a
meet_sym a b m = record { a_first = m.b_first; b_first = m.a_first }

pub meet_self : (a : Block) → Meet a a
meet_self a = record { a_first = first_lt_past a; b_first = first_lt_past a }

-- indices of a block e levels up, counted in blocks of level l
pub scale : (j e l : ℕ) → j * 2 ^ (l + e) ≡ (j * 2 ^ e) * 2 ^ l
scale j e l = rw pow-add (omega arith)

-- pages that overlap are nested, where the blocks start at multiples of their sizes
nested : (l e i j : ℕ) → j * 2 ^ (l + e) < suc i * 2 ^ l → i * 2 ^ l < suc j * 2 ^ (l + e)
    → (j * 2 ^ (l + e) ≤ i * 2 ^ l) × (suc i * 2 ^ l ≤ suc j * 2 ^ (l + e))
nested l e i j p q =
    let low : j * 2 ^ e < suc i = lt_of_mul-lt-mul_right (2 ^ l) (rw scale at p) in
    let high : i < suc j * 2 ^ e = lt_of_mul-lt-mul_right (2 ^ l) (rw (scale (suc j) e l) at q) in
    (rw scale (mul-le-mul_right (2 ^ l) (omega arith)), rw (scale (suc j) e l) (mul-le-mul_right (2 ^ l) high))

-- of two blocks that meet, the one of no higher level has all its pages in the other
pub meet_within : (a b : Block) → a.level ≤ b.level → Meet a b → (first b ≤ first a) × (past a ≤ past b)
meet_within a b p m = go (le_dest p)
  where
    go : (e : ℕ) × (a.level + e ≡ b.level) → (first b ≤ first a) × (past a ≤ past b)
    go w =
        rw (← w.1)
        (nested a.level w.0 a.index b.index (rw (← w.1) at m.b_first) (rw (← w.1) at m.a_first))

-- blocks of one level that meet are one block
pub meet_level : (a b : Block) → a.level ≡ b.level → Meet a b → a ≡ b
meet_level a b e m = same_block a b e (go b.index (rw e at m.b_first) (rw e at m.a_first))
  where
    go : (j : ℕ) → j * 2 ^ b.level < suc a.index * 2 ^ b.level → a.index * 2 ^ b.level < suc j * 2 ^ b.level → a.index ≡ j
    go j p q = omega (arith, lt_of_mul-lt-mul_right (2 ^ b.level) p, lt_of_mul-lt-mul_right (2 ^ b.level) q)

pub meet_cases : (a b : Block) → Meet a b → (a ≡ b) ⊎ (Inside a b ⊎ Inside b a)
meet_cases a b m = go (dec_lt a.level b.level) (dec_lt b.level a.level)
  where
    go : Dec (a.level < b.level) → Dec (b.level < a.level) → (a ≡ b) ⊎ (Inside a b ⊎ Inside b a)
    go (yes p) d =
        let w = meet_within a b (omega arith) m in
        inr (inl (record { lower = p; from = w.0; to = w.1 }))
    go (no p) (yes q) =
        let w = meet_within b a (omega arith) (meet_sym a b m) in
        inr (inr (record { lower = q; from = w.0; to = w.1 }))
    go (no p) (no q) = inl (meet_level a b (omega arith) m)
