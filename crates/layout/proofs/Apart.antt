-- Two layouts built side by side from level 0 up, A from some counts and B from those with one more block on one level:
-- how far apart their states can be above that level, and how many blocks differ from there on.
use mathlib.Core.Path.{◌≡◌, ap}
use mathlib.Core.List.{List, [], ◌∷◌, ◌++◌, append_assoc}
use Prim.Native.Nat.{ℕ, zero, suc, ◌+◌, ◌*◌, ◌^◌}
use native.Mathlib.Nat.{add-zero, add-suc, suc-add, mul-one}
use Rattle.tree.specs.Block.{Block}
use Rattle.layout.specs.Layout.{Half, even, odd, next_half, half, State, full, lone, block, start}
use Rattle.layout.specs.Layout.{running, place, rise_full, rise_lone, rise, settle_lone, settled, run}
use Rattle.layout.proofs.Edit.{Edit, hit, miss, more, hits, looser}

-- The states of A and of B before the blocks of a level are placed: from there on at most m blocks of A are not in B, and at most n
-- of B not in A. Above the level with one more block the two go through these in this order, and may skip some.
pub data Apart : State → State → ℕ → ℕ → Type 0 where
  -- B has one more subtree in use, with a lone block in it
  lone_in_B : {w j k : ℕ} → Apart (full w) (lone w j k) 2 3
  -- equally many in use, and only A has a lone block
  lone_in_A : {w j k : ℕ} → Apart (lone w j k) (full (suc w)) 2 1
  -- equally many in use, and two lone blocks
  lone_in_both : {w j k j' k' : ℕ} → Apart (lone w j k) (lone w j' k') 1 1
  -- nothing differs any more
  same : {s : State} {m n : ℕ} → Apart s s m n

-- A level that leaves A in state a and B in state b, where the blocks p of A and q of B found their place:
-- with what differs above, at most m blocks of A are not in B, and at most n of B not in A.
pub record Level (a b : State) (p q : List Block) (m n : ℕ) : Type 0 where
  pub m_above : ℕ
  pub n_above : ℕ
  pub above : Apart a b m_above n_above
  pub edit : {xs ys : List Block} → Edit xs ys m_above n_above → Edit (p ++ xs) (q ++ ys) m n

-- the blocks that find their place when the c blocks of level l are placed
abbrev pub placed : ℕ → State → ℕ → List Block
placed l s c = run l (start s) (running s c) ++ settled (place l s c)

after_same_run : (zs : List Block) {a b : State} {p q : List Block} {m n : ℕ} → Level a b p q m n → Level a b (zs ++ p) (zs ++ q) m n
after_same_run zs v = record {
  m_above = v.m_above;
  n_above = v.n_above;
  above = v.above;
  edit = λ e. simp append_assoc (hits zs (v.edit e));
}

after_miss : (x : Block) {a b : State} {p q : List Block} {m n : ℕ} → Level a b p q m n → Level a b (x ∷ p) q (suc m) n
after_miss x v = record {
  m_above = v.m_above;
  n_above = v.n_above;
  above = v.above;
  edit = λ e. miss (v.edit e);
}

looser_level : {a b : State} {p q : List Block} {m n : ℕ} → Level a b p q m n → Level a b p q (suc m) (suc n)
looser_level v = record {
  m_above = v.m_above;
  n_above = v.n_above;
  above = v.above;
  edit = λ e. looser (v.edit e);
}

-- Going up a level, by h, the half of A's number: x is A's lone block and y is B's, wherever they stand.
rise_lone_in_B : (j k : ℕ) (y : Block) (h : Half) → Level (rise_full h) (rise_lone j k h) [] (settle_lone y h) 2 3
rise_lone_in_B j k y (even w) = record { m_above = 2; n_above = 3; above = lone_in_B; edit = λ e. e }
rise_lone_in_B j k y (odd w) = record { m_above = 2; n_above = 2; above = same; edit = λ e. more e }

rise_lone_in_A : (j k : ℕ) (x : Block) (h : Half) → Level (rise_lone j k h) (rise_full (next_half h)) (settle_lone x h) [] 2 1
rise_lone_in_A j k x (even w) = record { m_above = 2; n_above = 1; above = lone_in_A; edit = λ e. e }
rise_lone_in_A j k x (odd w) = record { m_above = 1; n_above = 1; above = same; edit = λ e. miss e }

rise_lone_in_both : (j k j' k' : ℕ) (x y : Block) (h : Half)
    → Level (rise_lone j k h) (rise_lone j' k' h) (settle_lone x h) (settle_lone y h) 1 1
rise_lone_in_both j k j' k' x y (even w) = record { m_above = 1; n_above = 1; above = lone_in_both; edit = λ e. e }
rise_lone_in_both j k j' k' x y (odd w) = record { m_above = 0; n_above = 0; above = same; edit = λ e. miss (more e) }

-- Both have a lone block, and B has one block more in its place, which is A's lone block …
rise_past_lone : (j k j' k' : ℕ) (x y : Block) (h : Half)
    → Level (rise_lone j k h) (rise_lone j' k' (next_half h)) (settle_lone x h) (x ∷ settle_lone y (next_half h)) 2 3
rise_past_lone j k j' k' x y (even w) = record { m_above = 2; n_above = 1; above = lone_in_A; edit = λ e. more (more e) }
rise_past_lone j k j' k' x y (odd w) = record { m_above = 2; n_above = 3; above = lone_in_B; edit = λ e. hit e }

-- … or a block z of which nothing is known.
rise_past_other : (j k j' k' : ℕ) (x y z : Block) (h : Half)
    → Level (rise_lone j k h) (rise_lone j' k' (next_half h)) (settle_lone x h) (z ∷ settle_lone y (next_half h)) 3 4
rise_past_other j k j' k' x y z (even w) = record { m_above = 2; n_above = 1; above = lone_in_A; edit = λ e. looser (more (more e)) }
rise_past_other j k j' k' x y z (odd w) = record { m_above = 2; n_above = 3; above = lone_in_B; edit = λ e. miss (more e) }

run_last : (l i n : ℕ) (bs : List Block) → run l i (suc n) ++ bs ≡ run l i n ++ (block l (i + n) ∷ bs)
run_last l i zero bs = rw add-zero
run_last l i (suc n) bs = rw (add-suc, ← suc-add) (ap {B = List Block} (λ r. block l i ∷ r) (run_last l (suc i) n bs))

-- A places c blocks from index v on, and B one more
after_longer_run : (l v c j k : ℕ) (y : Block) {a : State} {p : List Block} {m n : ℕ}
    → Level a (rise_lone j k (half (suc (v + c)))) p (block l (v + c) ∷ settle_lone y (half (suc (v + c)))) m n
    → Level a (rise_lone j k (half (v + suc c))) (run l v c ++ p) (run l v (suc c) ++ settle_lone y (half (v + suc c))) m n
after_longer_run l v c j k y g =
    rw (add-suc, run_last l v c (settle_lone y (half (suc (v + c))))) (after_same_run (run l v c) g)

pub level_with_equal_counts : (l c : ℕ) {a b : State} {m n : ℕ} → Apart a b m n
    → Level (rise (place l a c)) (rise (place l b c)) (placed l a c) (placed l b c) m n
level_with_equal_counts l zero (lone_in_B {w} {j} {k}) = rw add-zero (rise_lone_in_B j k (block j (w * 2 ^ k)) (half w))
level_with_equal_counts l (suc c) (lone_in_B {w} {j} {k}) =
    let y = block j ((w + suc c) * 2 ^ k) in
    after_longer_run l w c j k y (rw mul-one (rise_past_lone l 0 j k (block l (w + c)) y (half (w + c))))
level_with_equal_counts l zero (lone_in_A {w} {j} {k}) = rw add-zero (rise_lone_in_A j k (block j (w * 2 ^ k)) (half w))
level_with_equal_counts l (suc c) (lone_in_A {w} {j} {k}) =
    let v = suc (w + c) in
    rw (add-suc, suc-add) (after_miss (block l w) (after_same_run (run l (suc w) c)
    (rise_lone_in_both j k l 0 (block j (v * 2 ^ k)) (block l (v * 2 ^ 0)) (half v))))
level_with_equal_counts l c (lone_in_both {w} {j} {k} {j'} {k'}) =
    after_same_run (run l w c) (rise_lone_in_both j k j' k' (block j ((w + c) * 2 ^ k)) (block j' ((w + c) * 2 ^ k')) (half (w + c)))
level_with_equal_counts l c (same {s} {m} {n}) = record { m_above = m; n_above = n; above = same; edit = λ e. hits (placed l s c) e }

-- Where there is no lone block, to place one more is to place as many after a lone block of this level.
pub level_with_one_more : (l c : ℕ) (s : State)
    → Level (rise (place l s c)) (rise (place l s (suc c))) (placed l s c) (placed l s (suc c)) 3 4
level_with_one_more l c (full u) = looser_level (level_with_equal_counts l c (lone_in_B {w = u} {j = l} {k = 0}))
level_with_one_more l c (lone v j k) =
    let y = block j ((v + suc c) * 2 ^ k) in
    after_longer_run l v c j k y (rise_past_other j k j k (block j ((v + c) * 2 ^ k)) y (block l (v + c)) (half (v + c)))
