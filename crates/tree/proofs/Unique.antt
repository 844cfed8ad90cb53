-- Two legal and safe sets of blocks with equally many blocks on each level are equal.
--
-- By induction on p, the two sets agree on all blocks that start before page p. For the step let A hold a block a that starts at p. Each
-- level has equally many blocks in A and in B, and the same ones before p; so where A holds a block that B does not, B holds one of that
-- level, at p or later, that A does not (`counterpart`). If B held a higher block b at p, it would have only one tail of b, so A would
-- hold nothing but a inside b: b would be meager in A (`no_lower_at_page`; a lower b is the same with A and B exchanged). If B held
-- no block at p, it would not be dense (`not_none_at_page`). So B holds a.
use mathlib.Core.Path.{◌≡◌, refl, sym, ap, ◌∙◌}
use mathlib.Core.Bool.{Bool, true, Bool-discrete}
use mathlib.Core.HLevel.{dec→stable}
use Prim.Native.Nat.{ℕ, zero, suc, ◌-◌, ◌*◌, ◌^◌, ◌≤◌, ◌<◌}
use native.Mathlib.Nat.{mul_assoc, sub-add_cancel, eq_of_mul-eq-mul_right, lt_of_mul-lt-mul_right, mul-le-mul_right, le-mul_of_pos_right, le_of_lt}
use native.Mathlib.Omega.{arith}
use native.Mathlib.Decide.{ℕ_discrete, dec_lt}
use lib.Pow.{pow_pos, pow-add, pow_mono}
use Rattle.tree.specs.Held.{count}
use Rattle.tree.specs.Block.{Block, first, past, Blocks, BWithin, bsizes, Inside, BLegal, BFree, BTail, BMeager, BSafe}
use Rattle.tree.proofs.Count.{only_first, passes_only_first, passes_first, fails_second, equal_of_both_ways, equal_differences}
use Rattle.tree.proofs.Count.{count_of_one, count_of_two, one_of_count}
use Rattle.tree.proofs.Sum.{count_le_one}
use Rattle.tree.proofs.Align.{first_lt_past}

-- ---- blocks and their pages

-- the block of level m that starts where b does
abbrev leftmost : ℕ → Block → Block
leftmost m b = record { level = m; index = b.index * 2 ^ (b.level - m) }

leftmost_first : (m : ℕ) (b : Block) → m ≤ b.level → first (leftmost m b) ≡ first b
leftmost_first m b q = rw (mul_assoc, ← pow-add, sub-add_cancel q)

equal_blocks : (u v : Block) → u.level ≡ v.level → first u ≡ first v → u ≡ v
equal_blocks u v e f =
    let k : u.index ≡ v.index = eq_of_mul-eq-mul_right (2 ^ u.level) (pow_pos u.level) u.index v.index (rw e (rw e at f)) in
    λ i. record { level = e i; index = k i }

-- blocks are aligned: what starts after u's start, and is not lower than u, starts where u ends or later
not_lower_starts_past : (u v : Block) → u.level ≤ v.level → first u < first v → past u ≤ first v
not_lower_starts_past u v q s =
    let e = leftmost_first u.level v q in
    let k = lt_of_mul-lt-mul_right (2 ^ u.level) (rw (← e) at s) in
    rw (← e) (mul-le-mul_right (2 ^ u.level) k)

-- of two blocks that start at one page the lower one ends no later
lower_ends_no_later : (u v : Block) → u.level < v.level → first u ≡ first v → past u ≤ past v
lower_ends_no_later u v q e = omega (arith, pow_mono (le_of_lt q))

lower_differs : (u v : Block) → v.level < u.level → ¬ (u ≡ v)
lower_differs u v q e = omega (arith, ap (λ (z : Block). z.level) e)

-- the blocks of a legal set follow one another
legal_in_order : {A : Blocks} → BLegal A → (u v : Block) → A u ≡ true → A v ≡ true → ¬ (u ≡ v) → first u ≤ first v → past u ≤ first v
legal_in_order legal u v au av ne q =
    elim (dec_lt (first v) (past u)) [
      | yes r ↦ absurd (ne (legal u v au av (record { a_first = omega (arith, first_lt_past v); b_first = r })))
      | no nr ↦ omega arith
    ]

legal_excludes_inside : {A : Blocks} → BLegal A → (c b : Block) → Inside c b → A b ≡ true → ¬ (A c ≡ true)
legal_excludes_inside legal c b i ab ac =
    omega (arith, legal_in_order legal b c ab ac (lower_differs b c i.lower) i.from, i.to, first_lt_past c)

-- ---- two sets of blocks that agree on all that starts before a page

record LegalSafe (h : ℕ) (A : Blocks) : Type 0 where
  within : BWithin h A
  legal : BLegal A
  safe : BSafe A

-- A and B are as in the theorem, and hold the same blocks of those that start before page p
record AgreeBefore (h p : ℕ) (A B : Blocks) : Type 0 where
  one : LegalSafe h A
  two : LegalSafe h B
  sizes : (l : ℕ) → bsizes h A l ≡ bsizes h B l
  before : (b : Block) → first b < p → A b ≡ B b

-- every lemma below can be read for A and B exchanged
turned : {h p : ℕ} {A B : Blocks} → AgreeBefore h p A B → AgreeBefore h p B A
turned s = record { one = s.two; two = s.one; sizes = λ l. sym (s.sizes l); before = λ b q. sym (s.before b q) }

-- a block of level l that A holds and B does not
record Only (A B : Blocks) (l : ℕ) : Type 0 where
  block : Block
  of_level : block.level ≡ l
  held : A block ≡ true
  not_held : ¬ (B block ≡ true)

only_starts_from : {h p : ℕ} {A B : Blocks} {l : ℕ} → AgreeBefore h p A B → (x : Only A B l) → p ≤ first x.block
only_starts_from {p = p} s x =
    elim (dec_lt (first x.block) p) [
      | yes q ↦ absurd (x.not_held (sym (s.before x.block q) ∙ x.held))
      | no nq ↦ omega arith
    ]

-- the test "held" along one level
abbrev row : Blocks → ℕ → ℕ → Bool
row A l k = A (record { level = l; index = k })

only_in_row : {A B : Blocks} {l : ℕ} (x : Only A B l) → only_first (row A l) (row B l) x.block.index ≡ true
only_in_row {A} {B} x = rw (← x.of_level) (passes_only_first (A x.block) (B x.block) x.held x.not_held)

only_of_row : (A B : Blocks) (l k : ℕ) → only_first (row A l) (row B l) k ≡ true → Only A B l
only_of_row A B l k p =
    record {
      block = record { level = l; index = k };
      of_level = refl;
      held = passes_first (row A l k) (row B l k) p;
      not_held = fails_second (row A l k) (row B l k) p;
    }

only_index : {h p : ℕ} {A B : Blocks} {l : ℕ} → AgreeBefore h p A B → (x : Only A B l) → x.block.index < 2 ^ h
only_index s x =
    let b = x.block in
    omega (arith, s.one.within b x.held, le-mul_of_pos_right (suc b.index) (pow_pos b.level))

equal_row_differences : {h p : ℕ} {A B : Blocks} → AgreeBefore h p A B → (l : ℕ)
    → count (2 ^ h) (only_first (row A l) (row B l)) ≡ count (2 ^ h) (only_first (row B l) (row A l))
unfolding bsizes
equal_row_differences {h} {A = A} {B} s l = equal_differences (2 ^ h) (row A l) (row B l) (s.sizes l)

-- where A has a block that B has not, B has one of that level that A has not
counterpart : {h p : ℕ} {A B : Blocks} {l : ℕ} → AgreeBefore h p A B → Only A B l → Only B A l
counterpart {h} {A = A} {B} {l} s x =
    let c = count_of_one (2 ^ h) (only_first (row A l) (row B l)) x.block.index (only_index s x) (only_in_row x) in
    let r = one_of_count (2 ^ h) (only_first (row B l) (row A l)) (rw (← equal_row_differences s l) c) in
    only_of_row B A l r.0 r.2

-- where B has at most one such block of a level, so has A
at_most_one_only : {h p : ℕ} {A B : Blocks} {l : ℕ} → AgreeBefore h p A B → ((u v : Only B A l) → u.block ≡ v.block)
    → (x y : Only A B l) → x.block ≡ y.block
unfolding only_of_row
at_most_one_only {h} {A = A} {B} {l} s same x y =
    elim (ℕ_discrete x.block.index y.block.index) [
      | yes e ↦ (λ i. record { level = (x.of_level ∙ sym y.of_level) i; index = e i })
      | no ne ↦
          absurd (omega (
            arith,
            count_of_two (2 ^ h) (only_first (row A l) (row B l)) x.block.index y.block.index ne
                (only_index s x) (only_index s y) (only_in_row x) (only_in_row y),
            equal_row_differences s l,
            count_le_one (2 ^ h) (only_first (row B l) (row A l))
                (λ j k p q. ap (λ (b : Block). b.index) (same (only_of_row B A l j p) (only_of_row B A l k q))),
          ))
    ]

-- ---- both sets hold a block that starts at page p, the first set a lower one: then b is meager in A

module _ {h p : ℕ} {A B : Blocks} (s : AgreeBefore h p A B) (a b : Block) (ha : A a ≡ true) (hb : B b ≡ true)
    (ea : first a ≡ p) (eb : first b ≡ p) (lower : a.level < b.level) where
  a_inside_b : Inside a b
  a_inside_b = record { lower = lower; from = omega arith; to = lower_ends_no_later a b lower (omega arith) }

  -- what A holds inside b, B does not, for B is legal
  only_inside_b : {l : ℕ} (c : Block) → A c ≡ true → Inside c b → c.level ≡ l → Only A B l
  only_inside_b c ac i e = record { block = c; of_level = e; held = ac; not_held = legal_excludes_inside s.two.legal c b i hb }

  -- what only B holds starts at p or later, so, if it is lower than b, right of b
  tail_of_b : {l : ℕ} → l < b.level → (x : Only B A l) → BTail B b x.block
  tail_of_b q x =
      let t = x.block in
      let low : t.level < b.level = omega (arith, x.of_level) in
      let from : first b ≤ first t = omega (arith, only_starts_from (turned s) x) in
      record { held = x.held; lower = low; right = legal_in_order s.two.legal b t hb x.held (lower_differs b t low) from }

  one_tail_of_b : {l m : ℕ} → l < b.level → m < b.level → (x : Only B A l) (y : Only B A m) → x.block ≡ y.block
  one_tail_of_b q r x y = s.two.safe.one_tail b x.block y.block hb (tail_of_b q x) (tail_of_b r y)

  -- c and a each give B a tail of b, of their level; it is one tail, so they are of one level, and there A has no more than B
  only_a_inside_b : (c : Block) → A c ≡ true → Inside c b → c ≡ a
  unfolding only_inside_b
  only_a_inside_b c ac i =
      let x = counterpart s (only_inside_b c ac i refl) in
      let y = counterpart s (only_inside_b a ha a_inside_b refl) in
      let tail = ap (λ (z : Block). z.level) (one_tail_of_b i.lower lower x y) in
      let e : c.level ≡ a.level = sym x.of_level ∙ tail ∙ y.of_level in
      at_most_one_only s (one_tail_of_b lower lower) (only_inside_b c ac i e) (only_inside_b a ha a_inside_b refl)

  meager_at_b : BMeager A b
  meager_at_b =
      record {
        not_held = λ ab. legal_excludes_inside s.one.legal a b a_inside_b ab ha;
        one = a;
        one_held = ha;
        one_below = a_inside_b;
        only = only_a_inside_b;
      }

  -- A holds a block of b's level that B does not: it is right of b
  no_lower_at_page : ⊥
  no_lower_at_page =
      let x = counterpart (turned s) (record { block = b; of_level = refl; held = hb; not_held = meager_at_b.not_held }) in
      let y = x.block in
      let from = only_starts_from s x in
      let not_b : ¬ (first b ≡ first y) = λ e. x.not_held (rw (equal_blocks b y (sym x.of_level) e) at hb) in
      let right = not_lower_starts_past b y (omega (arith, x.of_level)) (omega arith) in
      s.one.safe.no_meager y b x.held (sym x.of_level) meager_at_b right

-- ---- A holds a block that starts at page p, and B none: then B is not dense

module _ {h p : ℕ} {A B : Blocks} (s : AgreeBefore h p A B) (a : Block) (ha : A a ≡ true) (ea : first a ≡ p)
    (none : (b : Block) → B b ≡ true → ¬ (first b ≡ p)) where
  -- what B holds before p, A holds, and A is legal
  ends_by_page : (b : Block) → B b ≡ true → first b < p → past b ≤ p
  ends_by_page b hb q =
      let differs : ¬ (b ≡ a) = λ e. omega (arith, ap first e) in
      omega (arith, legal_in_order s.one.legal b a (s.before b q ∙ hb) ha differs (omega arith))

  -- a block of B that met the level-m block at p would start after p and be lower
  free_at_page : (m : ℕ) → m ≤ a.level → ((b : Block) → b.level < m → B b ≡ true → ¬ (p ≤ first b)) → BFree B (leftmost m a)
  free_at_page m q no_lower b hb meets =
      let u : Block = leftmost m a in
      let at_p : first u ≡ p = leftmost_first m a q ∙ ea in
      let starts : first b < past u = meets.a_first in
      let ends : first u < past b = meets.b_first in
      let not_before : ¬ (first b < p) = λ r. omega (arith, ends_by_page b hb r) in
      let not_at : ¬ (first b ≡ p) = none b hb in
      elim (dec_lt b.level m) [
        | yes r ↦ no_lower b r hb (omega arith)
        | no nr ↦ omega (arith, not_lower_starts_past u b (omega arith) (omega arith))
      ]

  -- by induction on the level, B holds no block up to a's level from p on; n bounds the level
  none_after : (n : ℕ) (v : Block) → v.level < n → v.level ≤ a.level → B v ≡ true → ¬ (p ≤ first v)
  none_after zero v q low bv from = omega arith
  none_after (suc n) v q low bv from =
      let u : Block = leftmost v.level a in
      let at_p : first u ≡ p = leftmost_first v.level a low ∙ ea in
      let not_at : ¬ (first v ≡ p) = none v bv in
      let free = free_at_page v.level low (λ b r hb. none_after n b (omega arith) (omega arith) hb) in
      s.two.safe.dense u v free bv refl (not_lower_starts_past u v (omega arith) (omega arith))

  -- yet B holds a block of a's level that A does not
  not_none_at_page : ⊥
  not_none_at_page =
      let x = counterpart s (record { block = a; of_level = refl; held = ha; not_held = λ ba. none a ba ea }) in
      let l : x.block.level ≡ a.level = x.of_level in
      none_after (suc a.level) x.block (omega arith) (omega arith) x.held (only_starts_from (turned s) x)

-- ---- so the two sets agree at page p, and by induction everywhere

second_holds_too : {h p : ℕ} {A B : Blocks} → AgreeBefore h p A B → (a : Block) → first a ≡ p → A a ≡ true → B a ≡ true
second_holds_too {p = p} {A} {B} s a ea ha = dec→stable (Bool-discrete (B a) true) (λ nba. not_none_at_page s a ha ea (none nba))
  where
    none : ¬ (B a ≡ true) → (b : Block) → B b ≡ true → ¬ (first b ≡ p)
    none nba b hb eb =
        elim (dec_lt a.level b.level) [
          | yes q ↦ no_lower_at_page s a b ha hb ea eb q
          | no nq ↦
              elim (dec_lt b.level a.level) [
                | yes r ↦ no_lower_at_page (turned s) b a hb ha eb ea r
                | no nr ↦ nba (rw (equal_blocks b a (omega arith) (eb ∙ sym ea)) at hb)
              ]
        ]

agree_before : (h : ℕ) (A B : Blocks) → LegalSafe h A → LegalSafe h B → ((l : ℕ) → bsizes h A l ≡ bsizes h B l)
    → (p : ℕ) (b : Block) → first b < p → A b ≡ B b
agree_before h A B one two e zero b q = absurd (omega arith)
agree_before h A B one two e (suc p) b q =
    let s : AgreeBefore h p A B = record { one = one; two = two; sizes = e; before = agree_before h A B one two e p } in
    elim (dec_lt (first b) p) [
      | yes r ↦ s.before b r
      | no nr ↦ equal_of_both_ways (A b) (B b) (second_holds_too s b (omega arith)) (second_holds_too (turned s) b (omega arith))
    ]

pub bsafe_unique : (h : ℕ) (A B : Blocks) → BWithin h A → BWithin h B → BLegal A → BLegal B → BSafe A → BSafe B
    → ((l : ℕ) → bsizes h A l ≡ bsizes h B l) → (b : Block) → A b ≡ B b
bsafe_unique h A B wa wb la lb sa sb e b =
    let one : LegalSafe h A = record { within = wa; legal = la; safe = sa } in
    let two : LegalSafe h B = record { within = wb; legal = lb; safe = sb } in
    agree_before h A B one two e (suc (first b)) b (omega arith)
