-- The blocks of one level in a layout: its run, and then the one that became lone, if one did.
use mathlib.Core.Path.{◌≡◌, refl, sym, ap, ◌∙◌}
use mathlib.Core.Bool.{Bool, true, false, cond}
use mathlib.Core.List.{List, [], ◌∷◌, ◌++◌, append_assoc, append-nil}
use Prim.Native.Nat.{ℕ, zero, suc, ◌+◌, ◌*◌, ◌^◌, ◌≤◌, ◌<◌}
use native.Mathlib.Nat.{add-zero, zero-add, add-suc, suc-add, mul-one}
use native.Mathlib.Omega.{arith}
use borrow.Author.Tests.{eq-eqb, ne_eqb}
use lib.Dec.{eqb}
use lib.ListN.{get_or}
use Rattle.tree.specs.Block.{Block}
use Rattle.layout.specs.Layout.{Half, even, odd, half, State, full, lone, block, start, running, place}
use Rattle.layout.specs.Layout.{rise_full, rise_lone, rise, settle_lone, settled, run, layout_from, layout}
use Rattle.layout.specs.Runs.{starts_from, runs_from, starts, runs}
use Rattle.layout.specs.Rows.{no_index, settles, settles_at, lone_index, lones_from, lones, at_level}
use Rattle.layout.proofs.States.{twice, twice_half, double_pages}
use Rattle.layout.proofs.Below.{Below, full_below, lone_below, place_below, rise_below}

-- Lists of blocks

at_level_append : (m : ℕ) (xs ys : List Block) → at_level m (xs ++ ys) ≡ at_level m xs ++ at_level m ys
at_level_append m [] ys = refl
at_level_append m (x ∷ xs) ys = go (eqb x.level m) (at_level_append m xs ys)
  where
    go : (p : Bool) → at_level m (xs ++ ys) ≡ at_level m xs ++ at_level m ys
        → cond p (x ∷ at_level m (xs ++ ys)) (at_level m (xs ++ ys)) ≡ cond p (x ∷ at_level m xs) (at_level m xs) ++ at_level m ys
    go true e = ap {B = List Block} (λ r. x ∷ r) e
    go false e = e

one_at_level : (m i : ℕ) → at_level m (block m i ∷ []) ≡ block m i ∷ []
one_at_level m i = rw (eq-eqb m m refl)

one_of_other : (m : ℕ) {j : ℕ} (i : ℕ) → ¬ (j ≡ m) → at_level m (block j i ∷ []) ≡ []
one_of_other m {j} i d = rw (ne_eqb j m d)

run_at_level : (m i n : ℕ) → at_level m (run m i n) ≡ run m i n
run_at_level m i zero = refl
run_at_level m i (suc n) = rw (eq-eqb m m refl) (ap {B = List Block} (λ r. block m i ∷ r) (run_at_level m (suc i) n))

run_of_other : (m : ℕ) {l : ℕ} (i n : ℕ) → ¬ (l ≡ m) → at_level m (run l i n) ≡ []
run_of_other m i zero d = refl
run_of_other m {l} i (suc n) d = rw (ne_eqb l m d) (run_of_other m (suc i) n d)

-- Lone blocks

-- the lone block where it comes to rest, if it is of level m: after a level's blocks are placed, with the counts above;
-- and before, with the level's own count too
lone_after : ℕ → State → List ℕ → List Block
lone_after m (full u) cs = []
lone_after m (lone v j k) cs = at_level m (block j (settles_at v k cs) ∷ [])

lone_before : ℕ → State → List ℕ → List Block
lone_before m (full u) cs = []
lone_before m (lone v j k) [] = at_level m (block j (v * 2 ^ k) ∷ [])
lone_before m (lone v j k) (c ∷ cs) = at_level m (block j (settles_at (v + c) k cs) ∷ [])

lone_rise : (m : ℕ) (t : State) (cs : List ℕ) → at_level m (settled t) ++ lone_before m (rise t) cs ≡ lone_after m t cs
unfolding lone_before lone_after
lone_rise m (full u) cs = go (half u)
  where
    go : (x : Half) → lone_before m (rise_full x) cs ≡ []
    go (even w) = refl
    go (odd w) = refl
lone_rise m (lone v j k) [] = go (half v) (twice_half v)
  where
    go : (x : Half) → twice x ≡ v
        → at_level m (settle_lone (block j (v * 2 ^ k)) x) ++ lone_before m (rise_lone j k x) [] ≡ at_level m (block j (v * 2 ^ k) ∷ [])
    go (even w) e = rw (double_pages w k (sym e))
    go (odd w) e = append-nil (at_level m (block j (v * 2 ^ k) ∷ []))
lone_rise m (lone v j k) (c ∷ cs) = go (half v)
  where
    go : (x : Half) → at_level m (settle_lone (block j (v * 2 ^ k)) x) ++ lone_before m (rise_lone j k x) (c ∷ cs)
        ≡ at_level m (block j (settles (v * 2 ^ k) (λ w. settles_at (w + c) (suc k) cs) x) ∷ [])
    go (even w) = refl
    go (odd w) = append-nil (at_level m (block j (v * 2 ^ k) ∷ []))

-- placing the blocks of a higher level changes nothing
lone_place : (m l : ℕ) (s : State) (c : ℕ) (cs : List ℕ) → m < l → lone_after m (place l s c) cs ≡ lone_before m s (c ∷ cs)
unfolding lone_before lone_after
lone_place m l (full u) zero cs h = refl
lone_place m l (full u) (suc c) cs h = one_of_other m (settles_at (u + c) 0 cs) (omega arith)
lone_place m l (lone v j k) c cs h = refl

-- of a lower level than l, only the lone block follows from level l on
lower_from : (m l : ℕ) (s : State) (cs : List ℕ) → m < l → at_level m (layout_from l s cs) ≡ lone_before m s cs
unfolding lone_before
lower_from m l (full u) [] h = refl
lower_from m l (lone v j k) [] h = refl
lower_from m l s (c ∷ cs) h =
    let t : State = place l s c in
    let other : ¬ (l ≡ m) = omega arith in
    rw (append_assoc, at_level_append, run_of_other m (start s) (running s c) other, at_level_append, lower_from m (suc l) (rise t) cs (omega arith))
    (lone_rise m t cs ∙ lone_place m l s c cs h)

-- so at level l the run comes first, and then the lone block if it is of this level
level_from : (l : ℕ) (s : State) (c : ℕ) (cs : List ℕ)
    → at_level l (layout_from l s (c ∷ cs)) ≡ run l (start s) (running s c) ++ lone_after l (place l s c) cs
level_from l s c cs =
    let t : State = place l s c in
    let above = lower_from l (suc l) (rise t) cs (omega arith) in
    rw (append_assoc, at_level_append, run_at_level l (start s) (running s c), at_level_append, above, lone_rise l t cs)

-- of a higher level, nothing comes from this one
higher_from : (m l : ℕ) {s : State} (c : ℕ) (cs : List ℕ) → l < m → Below l s
    → at_level m (layout_from l s (c ∷ cs)) ≡ at_level m (layout_from (suc l) (rise (place l s c)) cs)
higher_from m l {s} c cs h b =
    let other : ¬ (l ≡ m) = omega arith in
    rw (append_assoc, at_level_append, run_of_other m (start s) (running s c) other, at_level_append, settled_lower (place_below l c b))
  where
    settled_lower : {t : State} → Below (suc l) t → at_level m (settled t) ≡ []
    settled_lower (full_below {u = u}) = refl
    settled_lower (lone_below {v = v} {j = j} {k = k} q) = go (half v)
      where
        go : (x : Half) → at_level m (settle_lone (block j (v * 2 ^ k)) x) ≡ []
        go (even w) = refl
        go (odd w) = one_of_other m (v * 2 ^ k) (omega arith)

-- a lone block only goes to the right
settles_on : (v k : ℕ) (cs : List ℕ) → v * 2 ^ k ≤ settles_at v k cs
settles_on v k [] = omega arith
settles_on v k (c ∷ cs) = go (half v) (twice_half v) (λ w. settles_on (w + c) (suc k) cs)
  where
    go : (x : Half) → twice x ≡ v → ((w : ℕ) → (w + c) * 2 ^ suc k ≤ settles_at (w + c) (suc k) cs)
        → v * 2 ^ k ≤ settles (v * 2 ^ k) (λ w. settles_at (w + c) (suc k) cs) x
    go (even w) e above = omega (arith, double_pages {v = v} w k (sym e), above w)
    go (odd w) e above = omega arith

-- Rows

-- the c blocks bs of level m are the run of n from index s on, and then a lone one at x unless x is none
pub data Row (m s n x : ℕ) : List Block → ℕ → Type 0 where
  run_only : x ≡ no_index → Row m s n x (run m s n) n
  run_and_lone : s + n ≤ x → Row m s n x (run m s n ++ (block m x ∷ [])) (suc n)

row_here : (l : ℕ) {s : State} (c : ℕ) (cs : List ℕ) → Below l s
    → Row l (start s) (running s c) (lone_index s c cs) (run l (start s) (running s c) ++ lone_after l (place l s c) cs) c
unfolding lone_after
row_here l zero cs (full_below {u = u}) = run_only refl
row_here l (suc c) cs (full_below {u = u}) =
    rw one_at_level (run_and_lone (rw mul-one at (settles_on (u + c) 0 cs)))
row_here l c cs (lone_below {v = v} {j = j} {k = k} h) =
    let other : ¬ (j ≡ l) = omega arith in
    rw (one_of_other l (settles_at (v + c) k cs) other, append-nil) (run_only refl)

row_from : (l d : ℕ) {s : State} (cs : List ℕ) → Below l s
    → Row (l + d) (get_or (starts_from l s cs) d 0) (get_or (runs_from l s cs) d 0) (get_or (lones_from l s cs) d no_index)
    (at_level (l + d) (layout_from l s cs)) (get_or cs d 0)
row_from l d [] (full_below {u = u}) = run_only refl
row_from l d [] (lone_below {v = v} {j = j} {k = k} h) =
    let other : ¬ (j ≡ l + d) = omega arith in
    rw (one_of_other (l + d) (v * 2 ^ k) other) (run_only refl)
row_from l zero {s} (c ∷ cs) b = rw (add-zero, level_from l s c cs) (row_here l c cs b)
row_from l (suc d) {s} (c ∷ cs) b =
    rw (add-suc, ← suc-add, higher_from (suc l + d) l c cs (omega arith) b)
    (row_from (suc l) d cs (rise_below (place_below l c b)))

pub row_of_layout : (cs : List ℕ) (l : ℕ)
    → Row l (get_or (starts cs) l 0) (get_or (runs cs) l 0) (get_or (lones cs) l no_index) (at_level l (layout cs)) (get_or cs l 0)
unfolding starts runs lones layout
row_of_layout cs l = rw zero-add at (row_from 0 l cs (full_below {u = 0}))
