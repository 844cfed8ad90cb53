-- The blocks of a legal set have as many pages as the set covers, and so no more than the tree has. This is by counting the pairs of a page
-- and a held block that has it twice: block by block there are as many as the blocks' pages, and page by page at most one for each page.
use mathlib.Core.Path.{◌≡◌, ap, ◌∙◌}
use mathlib.Core.Bool.{true}
use Prim.Native.Nat.{ℕ, zero, suc, ◌-◌, ◌*◌, ◌/◌, ◌^◌, ◌≤◌, ◌<◌}
use native.Mathlib.Nat.{sub-add_cancel, div-mul-le_self, lt-div-mul-add, le_of_mul-le-mul_right, sub-le}
use native.Mathlib.Omega.{arith}
use lib.Pow.{pow_pos, pow-add, pow_mono}
use Rattle.tree.specs.Held.{one_if, count}
use Rattle.tree.specs.Block.{Block, Blocks, BWithin, bsizes, Meet, BLegal, first, past}
use Rattle.tree.specs.Pages.{sum, pages_of, over, coveredb}
use Rattle.tree.proofs.Sum.{sum_cong, sum_swap, sum_stops, sum_groups, one_if_not_true, one_if_or, count_as_sum, count_le, count_le_one}

-- how many of the levels 0 … h hold the block that has page p
abbrev pub covering : ℕ → Blocks → ℕ → ℕ
covering h B p = count (suc h) (λ l. B (over p l))

-- ---- by blocks

abbrev pub held_at : Blocks → ℕ → ℕ → ℕ
held_at B l k = one_if (B (record { level = l; index = k }))

-- the pages of the tree are those of 2^(h − l) blocks of level l
pages_by_level : (h l : ℕ) → l ≤ h → 2 ^ (h - l) * 2 ^ l ≡ 2 ^ h
pages_by_level h l q = rw (← pow-add 2 (h - l) l, sub-add_cancel q)

-- so nothing of level l is held from index 2^(h − l) on
index_in_tree : (h l k : ℕ) → l ≤ h → past (record { level = l; index = k }) ≤ 2 ^ h → k < 2 ^ (h - l)
index_in_tree h l k q r = le_of_mul-le-mul_right (rw (pages_by_level h l q) r) (pow_pos l)

pub held_in_tree : (h : ℕ) (B : Blocks) → BWithin h B → (l : ℕ) → l ≤ h → bsizes h B l ≡ sum (2 ^ (h - l)) (held_at B l)
unfolding bsizes
held_in_tree h B within l q = count_as_sum _ _ ∙ sum_stops (2 ^ (h - l)) (2 ^ h) (held_at B l) (pow_mono (sub-le h l)) none_from
  where
    none_from : (k : ℕ) → 2 ^ (h - l) ≤ k → held_at B l k ≡ 0
    none_from k r =
        let b : Block = record { level = l; index = k } in
        one_if_not_true (B b) (λ (e : B b ≡ true). omega (arith, index_in_tree h l k q (within b e)))

-- each held block of level l counts once for each of its 2^l pages
pages_of_level : (h : ℕ) (B : Blocks) → BWithin h B → (l : ℕ) → l ≤ h → sum (2 ^ h) (λ p. held_at B l (p / 2 ^ l)) ≡ bsizes h B l * 2 ^ l
pages_of_level h B within l q =
    rw (held_in_tree h B within l q) (rw (pages_by_level h l q) at (sum_groups (2 ^ (h - l)) (2 ^ l) (held_at B l)))

-- the sum over the pages of a sum over the levels, taken level by level
coverings_are_pages : (h : ℕ) (B : Blocks) → BWithin h B → sum (2 ^ h) (covering h B) ≡ pages_of h (bsizes h B)
unfolding pages_of
coverings_are_pages h B within =
    sum_cong (2 ^ h) (λ p q. count_as_sum (suc h) (λ l. B (over p l)))
    ∙ sum_swap (2 ^ h) (suc h) (λ p l. one_if (B (over p l)))
    ∙ sum_cong (suc h) (λ l q. pages_of_level h B within l (omega arith))

-- ---- by pages

pub over_has_page : (p l : ℕ) → (first (over p l) ≤ p) × (p < past (over p l))
over_has_page p l = omega (arith, div-mul-le_self p (2 ^ l), lt-div-mul-add {a = p} (pow_pos l))

-- two blocks that have page p
over_meet : (p l m : ℕ) → Meet (over p l) (over p m)
over_meet p l m = omega (arith, over_has_page p l, over_has_page p m)

-- held blocks that meet are the same, so of the same level
covering_le_one : (h : ℕ) (B : Blocks) → BLegal B → (p : ℕ) → covering h B p ≤ 1
covering_le_one h B legal p =
    count_le_one (suc h) (λ l. B (over p l)) λ l m e e'. ap (λ (b : Block). b.level) (legal (over p l) (over p m) e e' (over_meet p l m))

-- so a page that is covered is covered by one level only
pub covered_once : (h : ℕ) (B : Blocks) → BLegal B → (p : ℕ) → one_if (coveredb h B p) ≡ covering h B p
unfolding coveredb count
covered_once zero B legal p = omega arith
covered_once (suc h) B legal p =
    let below : one_if (coveredb h B p) ≡ covering h B p = covered_once h B legal p in
    omega (arith, one_if_or (B (over p (suc h))) (coveredb h B p) (omega (arith, covering_le_one (suc h) B legal p)))

-- ---- both ways give the same number

-- the set covers as many pages as its blocks have
pub pages_covered : (h : ℕ) (B : Blocks) → BWithin h B → BLegal B → count (2 ^ h) (coveredb h B) ≡ pages_of h (bsizes h B)
pages_covered h B within legal =
    count_as_sum (2 ^ h) (coveredb h B) ∙ sum_cong (2 ^ h) (λ p q. covered_once h B legal p) ∙ coverings_are_pages h B within

-- and the tree has no more than 2^h to cover
pub legal_fits : (h : ℕ) (B : Blocks) → BWithin h B → BLegal B → pages_of h (bsizes h B) ≤ 2 ^ h
legal_fits h B within legal = rw (← pages_covered h B within legal) (count_le (2 ^ h) (coveredb h B))
