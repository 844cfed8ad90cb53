-- The rows of the layout of given counts hold its blocks, level by level and left to right, and no others.
use mathlib.Core.Path.{◌≡◌, refl, sym, ap, ap₂, ◌∙◌}
use mathlib.Core.Bool.{Bool, true, false, cond, ◌&&◌, ◌||◌, or_assoc, or-false}
use mathlib.Core.Logic.{◌⊎◌, inl, inr}
use mathlib.Core.List.Memᴰ.{append_right as member_append_right}
use mathlib.Core.List.{List, [], ◌∷◌, ◌++◌, map, map-append, append-nil}
use Prim.Native.Nat.{ℕ, zero, suc, ◌+◌, ◌*◌, ◌^◌, ◌≤◌, ◌<◌}
use native.Mathlib.Nat.{pow-suc, add-zero, add-suc, suc-add, le-mul_of_pos_right}
use native.Mathlib.Decide.{dec_lt}
use native.Mathlib.Omega.{arith}
use borrow.Author.Tests.{eq-eqb, ne_eqb, lt-ltb, le-ltb, le-leb, leb-true, ltb-true}
use lib.Dec.{eqb, leb, ltb}
use lib.ListN.{length, get_or, length-append, get_or-append}
use lib.Seq.{get_or_at}
use lib.Pow.{pow_pos}
use Rattle.tree.specs.Block.{Block, block_of}
use Rattle.tree.proofs.Count.{equal_of_both_ways}
use Rattle.tree.proofs.Sets.{both_left, both_right}
use Rattle.layout.specs.Layout.{block, run, layout, same_block, among, pages}
use Rattle.layout.specs.Runs.{starts, runs}
use Rattle.layout.specs.Set.{layout_set}
use Rattle.layout.specs.Rows.{no_index, lones, rows_of, start_at, run_at, lone_at, in_row, rows_hold}
use Rattle.layout.specs.Rows.{holds_node, kth_index, index_at, up_from, row_indices, at_level}
use Rattle.layout.proofs.Members.{Member, here, later, among_member, member_among, run_holds, holds_run}
use Rattle.layout.proofs.Within.{layout_within}
use Rattle.layout.proofs.Levels.{Row, run_only, run_and_lone, row_of_layout}
use Rattle.layout.proofs.Bounds.{power_le_4096}

-- Membership

among_append : (xs ys : List Block) (b : Block) → among (xs ++ ys) b ≡ (among xs b || among ys b)
among_append [] ys b = refl
among_append (x ∷ xs) ys b =
    ap (λ (p : Bool). same_block x b || p) (among_append xs ys b) ∙ sym (or_assoc (same_block x b) (among xs b) (among ys b))

-- a block is in the list exactly if it is among those of its level
among_at_level : (m i : ℕ) (bs : List Block) → among (at_level m bs) (block m i) ≡ among bs (block m i)
among_at_level m i [] = refl
among_at_level m i (b ∷ bs) = go (eqb b.level m) refl (among_at_level m i bs)
  where
    go : (p : Bool) → eqb b.level m ≡ p → among (at_level m bs) (block m i) ≡ among bs (block m i)
        → among (cond p (b ∷ at_level m bs) (at_level m bs)) (block m i) ≡ ((p && eqb b.index i) || among bs (block m i))
    go true e ih = rw (e, ih)
    go false e ih = ih

among_run : (m s n i : ℕ) → among (run m s n) (block m i) ≡ (leb s i && ltb i (s + n))
among_run m s n i = equal_of_both_ways (among (run m s n) (block m i)) (leb s i && ltb i (s + n))
    (λ t. let r = run_holds m s n (among_member (run m s n) (block m i) t) in ap₂ ◌&&◌ (le-leb s i r.from) (lt-ltb i (s + n) r.to))
    (λ t. member_among (holds_run m s n i
    (leb-true s i (both_left (leb s i) (ltb i (s + n)) t))
    (ltb-true i (s + n) (both_right (leb s i) (ltb i (s + n)) t))))

among_row : {m s n x c : ℕ} {bs : List Block} (i : ℕ) → i < no_index → Row m s n x bs c → in_row s n x i ≡ among bs (block m i)
among_row {m} {s} {n} {x} i h (run_only e) =
    rw (among_run, ne_eqb x i (omega arith)) (or-false (leb s i && ltb i (s + n)))
among_row {m} {s} {n} {x} i h (run_and_lone q) =
    rw (among_append, among_run, eq-eqb m m refl, or-false)

pub row_holds : (cs : List ℕ) (l i : ℕ) → i < no_index → rows_hold (rows_of cs) (block l i) ≡ among (layout cs) (block l i)
row_holds cs l i h = among_row i h (row_of_layout cs l) ∙ among_at_level l i (layout cs)

-- hence the rows and the layout hold the same nodes of the tree
pub rows_hold_layout : (h : ℕ) (cs : List ℕ) (n : ℕ) → h ≤ 12 → holds_node (rows_of cs) h n ≡ layout_set h cs n
unfolding holds_node
rows_hold_layout h cs n q = rw (le-leb h 12 q) (go (ltb 0 n && ltb n (2 ^ suc h)) refl)
  where
    go : (p : Bool) → (ltb 0 n && ltb n (2 ^ suc h)) ≡ p → (p && rows_hold (rows_of cs) (block_of h n)) ≡ (p && among (layout cs) (block_of h n))
    go true e =
        let below : n < 2 ^ suc h = ltb-true n (2 ^ suc h) (both_right (ltb 0 n) (ltb n (2 ^ suc h)) e) in
        row_holds cs (block_of h n).level (block_of h n).index (omega (arith, power_le_4096 h q, pow-suc 2 h))
    go false e = refl

-- Left to right

length_run : (m i n : ℕ) → length (run m i n) ≡ n
length_run m i zero = refl
length_run m i (suc n) = ap suc (length_run m (suc i) n)

kth_of_run : (m i n k : ℕ) (d : Block) → k < n → get_or (run m i n) k d ≡ block m (i + k)
kth_of_run m i zero k d h = absurd (omega arith)
kth_of_run m i (suc n) zero d h = rw add-zero
kth_of_run m i (suc n) (suc k) d h = rw (add-suc, ← suc-add) (kth_of_run m (suc i) n k d (omega arith))

length_of_row : {m s n x c : ℕ} {bs : List Block} → Row m s n x bs c → length bs ≡ c
length_of_row {m} {s} {n} (run_only e) = length_run m s n
length_of_row {m} {s} {n} {x} (run_and_lone q) = rw (length-append, length_run m s n) (omega arith)

kth_of_row : {m s n x c : ℕ} {bs : List Block} (k : ℕ) (d : Block) → k < c → Row m s n x bs c → get_or bs k d ≡ block m (kth_index s n x k)
kth_of_row {m} {s} {n} {x} k d h (run_only e) = rw (lt-ltb k n h) (kth_of_run m s n k d h)
kth_of_row {m} {s} {n} {x} k d h (run_and_lone q) = go (dec_lt k n)
  where
    go : Dec (k < n) → get_or (run m s n ++ (block m x ∷ [])) k d ≡ block m (kth_index s n x k)
    go (yes p) = rw (get_or-append (run m s n) (block m x ∷ []) d k (omega (arith, length_run m s n)), lt-ltb k n p) (kth_of_run m s n k d p)
    go (no p) =
        let last : n ≡ k = omega arith in
        rw (le-ltb k n (omega arith), eq-eqb k n (omega arith)) (get_or_at (run m s n) (block m x) [] d k (length_run m s n ∙ last))

past_row : {m s n x c : ℕ} {bs : List Block} (k : ℕ) → c ≤ k → Row m s n x bs c → kth_index s n x k ≡ no_index
past_row {s = s} {n} {x} k h (run_only e) = rw (le-ltb k n h) (go (eqb k n))
  where
    go : (p : Bool) → cond p x no_index ≡ no_index
    go true = e
    go false = refl
past_row {s = s} {n} {x} k h (run_and_lone q) =
    let later : ¬ (k ≡ n) = omega arith in
    rw (le-ltb k n (omega arith), ne_eqb k n later)

increasing_row : {m s n x c : ℕ} {bs : List Block} (k k' : ℕ) → k < k' → k' < c → Row m s n x bs c → kth_index s n x k < kth_index s n x k'
increasing_row {s = s} {n} {x} k k' p h (run_only e) = rw (lt-ltb k n (omega arith), lt-ltb k' n h) (omega arith)
increasing_row {s = s} {n} {x} k k' p h (run_and_lone q) = go (dec_lt k' n)
  where
    go : Dec (k' < n) → kth_index s n x k < kth_index s n x k'
    go (yes r) = rw (lt-ltb k n (omega arith), lt-ltb k' n r) (omega arith)
    go (no r) = rw (lt-ltb k n (omega arith), le-ltb k' n (omega arith), eq-eqb k' n (omega arith)) (omega arith)

kth_member : (bs : List Block) (k : ℕ) (d : Block) → k < length bs → Member (get_or bs k d) bs
kth_member [] k d h = absurd (omega arith)
kth_member (b ∷ bs) zero d h = here refl
kth_member (b ∷ bs) (suc k) d h = later (kth_member bs k d (omega arith))

module _ (cs : List ℕ) (l : ℕ) where
  -- a level has as many blocks as its count,
  pub row_length : length (at_level l (layout cs)) ≡ get_or cs l 0
  row_length = length_of_row (row_of_layout cs l)

  -- the k-th of them is at the k-th index of the row,
  pub row_kth : (k : ℕ) (d : Block) → k < get_or cs l 0 → get_or (at_level l (layout cs)) k d ≡ block l (index_at (rows_of cs) l k)
  row_kth k d h = kth_of_row k d h (row_of_layout cs l)

  -- there is no further one,
  pub row_past : (k : ℕ) → get_or cs l 0 ≤ k → index_at (rows_of cs) l k ≡ no_index
  row_past k h = past_row k h (row_of_layout cs l)

  -- and the indices increase
  pub row_increasing : (k k' : ℕ) → k < k' → k' < get_or cs l 0 → index_at (rows_of cs) l k < index_at (rows_of cs) l k'
  row_increasing k k' p h = increasing_row k k' p h (row_of_layout cs l)

  -- the lone block, if there is one, comes after the run
  pub lone_after_run : (lone_at (rows_of cs) l ≡ no_index) ⊎ (start_at (rows_of cs) l + run_at (rows_of cs) l ≤ lone_at (rows_of cs) l)
  lone_after_run = go (row_of_layout cs l)
    where
      go : {m s n x c : ℕ} {bs : List Block} → Row m s n x bs c → (x ≡ no_index) ⊎ (s + n ≤ x)
      go (run_only e) = inl e
      go (run_and_lone q) = inr q

  pub kth_in_layout : (k : ℕ) → k < get_or cs l 0 → among (layout cs) (block l (index_at (rows_of cs) l k)) ≡ true
  kth_in_layout k h =
      let bs : List Block = at_level l (layout cs) in
      let d : Block = block l 0 in
      sym (among_at_level l (index_at (rows_of cs) l k) (layout cs))
      ∙ ap (among bs) (sym (row_kth k d h))
      ∙ member_among (kth_member bs k d (omega (arith, row_length)))

-- The whole row as a list, where the counts fit a tree of height at most 12

map_up_from : (m s n : ℕ) → map (block m) (up_from s n) ≡ run m s n
map_up_from m s zero = refl
map_up_from m s (suc n) = ap {B = List Block} (λ r. block m s ∷ r) (map_up_from m (suc s) n)

list_of_row : {m s n x c : ℕ} {bs : List Block} → Row m s n x bs c → ((i : ℕ) → among bs (block m i) ≡ true → i < no_index)
    → bs ≡ map (block m) (row_indices s n x)
list_of_row {m} {s} {n} {x} (run_only e) bound =
    rw (le-ltb x no_index (omega arith), append-nil, map_up_from)
list_of_row {m} {s} {n} {x} (run_and_lone q) bound =
    let last : Member (block m x) (run m s n ++ (block m x ∷ [])) = member_append_right (run m s n) (here refl) in
    rw (lt-ltb x no_index (bound x (member_among last)), map-append, map_up_from)

pub row_blocks : (h : ℕ) (cs : List ℕ) → h ≤ 12 → pages cs ≤ 2 ^ h → (l : ℕ)
    → at_level l (layout cs) ≡ map (block l) (row_indices (start_at (rows_of cs) l) (run_at (rows_of cs) l) (lone_at (rows_of cs) l))
row_blocks h cs q fits l = list_of_row (row_of_layout cs l) bound
  where
    bound : (i : ℕ) → among (at_level l (layout cs)) (block l i) ≡ true → i < no_index
    bound i t =
        let within = layout_within h cs fits (block l i) (sym (among_at_level l i (layout cs)) ∙ t) in
        let one : suc i ≤ suc i * 2 ^ l = le-mul_of_pos_right (suc i) (pow_pos l) in
        omega (arith, power_le_4096 h q)

-- Height 5, one block of level 0, one of level 1, two of level 2 and one of level 3: the last blocks of the levels 0 and 2 become lone.
rows_of_a_sample : rows_of (1 ∷ 1 ∷ 2 ∷ 1 ∷ 0 ∷ 0 ∷ [])
    ≡ record {
      start = 0 ∷ 0 ∷ 1 ∷ 1 ∷ 1 ∷ 1 ∷ [];
      run = 0 ∷ 1 ∷ 1 ∷ 1 ∷ 0 ∷ 0 ∷ [];
      lone = 2 ∷ no_index ∷ 4 ∷ no_index ∷ no_index ∷ no_index ∷ [];
    }
unfolding starts runs lones
rows_of_a_sample = refl
