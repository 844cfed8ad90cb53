-- The lone places as a program finds them: at each level on the way up it writes where the lone block stands so far, over what it wrote before.
use mathlib.Core.Path.{◌≡◌, refl, ap, ◌∙◌}
use mathlib.Core.List.{List, [], ◌∷◌, ◌++◌}
use Prim.Native.Nat.{ℕ, zero, suc, ◌+◌, ◌*◌, ◌^◌, ◌≤◌}
use native.Mathlib.Omega.{arith}
use lib.ListN.{length, set, replicate, length-append, length-set}
use lib.Seq.{append_snoc, set-append_left, set_at, set-set}
use Rattle.layout.specs.Layout.{Half, even, odd, half, State, full, lone, place, rise_full, rise_lone, rise}
use Rattle.layout.specs.Rows.{no_index, settles, settles_at, lone_index, lones_from, lones}
use Rattle.layout.specs.Climb.{mark}
use Rattle.layout.proofs.Below.{Below, full_below, lone_below, place_below, rise_below}

-- what the levels from l on make of the list xs of lone places
unfoldable pub written : ℕ → State → List ℕ → List ℕ → List ℕ
written l s [] xs = xs
written l s (c ∷ cs) xs = written (suc l) (rise (place l s c)) cs (mark (place l s c) xs)

-- the list with the place where the lone block comes to rest: after a level's blocks are placed, with the counts above;
-- and before, with the level's own count too
settle_after : State → List ℕ → List ℕ → List ℕ
settle_after (full u) cs xs = xs
settle_after (lone v j k) cs xs = set xs j (settles_at v k cs)

settle_before : State → List ℕ → List ℕ → List ℕ
settle_before (full u) cs xs = xs
settle_before (lone v j k) [] xs = xs
settle_before (lone v j k) (c ∷ cs) xs = set xs j (settles_at (v + c) k cs)

-- the place written last is where the lone block comes to rest
settle_rise : (t : State) (cs xs : List ℕ) → settle_before (rise t) cs (mark t xs) ≡ settle_after t cs xs
unfolding settle_before settle_after
settle_rise (full u) cs xs = go (half u)
  where
    go : (x : Half) → settle_before (rise_full x) cs xs ≡ xs
    go (even w) = refl
    go (odd w) = refl
settle_rise (lone v j k) [] xs = go (half v)
  where
    go : (x : Half) → settle_before (rise_lone j k x) [] (set xs j (v * 2 ^ k)) ≡ set xs j (v * 2 ^ k)
    go (even w) = refl
    go (odd w) = refl
settle_rise (lone v j k) (c ∷ cs) xs = go (half v)
  where
    go : (x : Half) → settle_before (rise_lone j k x) (c ∷ cs) (set xs j (v * 2 ^ k))
        ≡ set xs j (settles (v * 2 ^ k) (λ w. settles_at (w + c) (suc k) cs) x)
    go (even w) = set-set xs j (v * 2 ^ k) (settles_at (w + c) (suc k) cs)
    go (odd w) = refl

-- a level adds its own lone block's place to those of the levels below, if one of its blocks becomes lone
settle_place : (l : ℕ) {s : State} (c : ℕ) (cs xs : List ℕ) → Below l s → length xs ≡ l
    → settle_after (place l s c) cs (xs ++ (no_index ∷ [])) ≡ settle_before s (c ∷ cs) xs ++ (lone_index s c cs ∷ [])
unfolding settle_before settle_after
settle_place l zero cs xs (full_below {u = u}) e = refl
settle_place l (suc c) cs xs (full_below {u = u}) e = set_at xs no_index [] (settles_at (u + c) 0 cs) l e
settle_place l c cs xs (lone_below {v = v} {j = j} {k = k} h) e =
    set-append_left xs (no_index ∷ []) j (settles_at (v + c) k cs) (omega arith)

mark_append : {l : ℕ} {t : State} (xs ys : List ℕ) → Below l t → l ≤ length xs → mark t (xs ++ ys) ≡ mark t xs ++ ys
mark_append xs ys (full_below {u = u}) h = refl
mark_append xs ys (lone_below {v = v} {j = j} {k = k} p) h = set-append_left xs ys j (v * 2 ^ k) (omega arith)

pub length_mark : (t : State) (xs : List ℕ) → length (mark t xs) ≡ length xs
length_mark (full u) xs = refl
length_mark (lone v j k) xs = length-set xs j (v * 2 ^ k)

written_from : (l : ℕ) {s : State} (cs xs : List ℕ) → Below l s → length xs ≡ l
    → written l s cs (xs ++ replicate (length cs) no_index) ≡ settle_before s cs xs ++ lones_from l s cs
unfolding written settle_before
written_from l [] xs (full_below {u = u}) e = refl
written_from l [] xs (lone_below {v = v} {j = j} {k = k} h) e = refl
written_from l {s} (c ∷ cs) xs b e =
    let t : State = place l s c in
    let placed = place_below l c b in
    let ys : List ℕ = xs ++ (no_index ∷ []) in
    let longer : length ys ≡ suc l = rw length-append (omega arith) in
    let split = rw append_snoc at (mark_append ys (replicate (length cs) no_index) placed (omega arith)) in
    let above = written_from (suc l) cs (mark t ys) (rise_below placed) (length_mark t ys ∙ longer) in
    let here = settle_rise t cs ys ∙ settle_place l c cs xs b e in
    ap (written (suc l) (rise t) cs) split
    ∙ above
    ∙ ap (λ (zs : List ℕ). zs ++ lones_from (suc l) (rise t) cs) here
    ∙ append_snoc (settle_before s (c ∷ cs) xs) (lone_index s c cs) (lones_from (suc l) (rise t) cs)

pub written_lones : (cs : List ℕ) → written 0 (full 0) cs (replicate (length cs) no_index) ≡ lones cs
unfolding lones settle_before
written_lones cs = written_from 0 cs [] (full_below {u = 0}) refl
