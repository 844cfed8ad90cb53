-- A layout whose pages are no more than a tree has lies in that tree.
use mathlib.Core.Path.{◌≡◌, refl}
use mathlib.Core.List.{List, [], ◌∷◌}
use Prim.Native.Nat.{ℕ, zero, suc, ◌+◌, ◌-◌, ◌*◌, ◌^◌, ◌≤◌, ◌<◌}
use native.Mathlib.Nat.{lt_of_mul-lt-mul_right, mul-le-mul_right, sub-add_cancel}
use native.Mathlib.Decide.{dec_le}
use native.Mathlib.Omega.{arith}
use lib.Pow.{pow-add, pow-lt}
use Rattle.tree.specs.Block.{Block, past, BWithin}
use Rattle.layout.specs.Layout.{State, full, lone, start, running, place, rise, layout_from, layout, among, pages_from, pages}
use Rattle.layout.proofs.Members.{Member, among_member, same_past, InRun, Part, in_run, in_settled, in_rest, member_part}
use Rattle.layout.proofs.States.{AtLevel, full_at, lone_at, lone_pages, LoneOf, lone_of, settled_lone, remaining_lone, place_at, start_place}
use Rattle.layout.proofs.States.{running_le, double_pages, Rises, full_rises, lone_rises, lone_settles, rises, next_at}

-- Powers

pub le_of_pow_le : (l h : ℕ) → 2 ^ l ≤ 2 ^ h → l ≤ h
le_of_pow_le l h p = go (dec_le l h)
  where
    go : Dec (l ≤ h) → l ≤ h
    go (yes q) = q
    go (no q) = let lt : 2 ^ h < 2 ^ l = pow-lt (omega arith) in absurd (omega arith)

-- a multiple of 2^l that is less than 2^l over 2^h is not over it at all
pub multiple_fits : (l h x : ℕ) → l ≤ h → x * 2 ^ l < 2 ^ h + 2 ^ l → x * 2 ^ l ≤ 2 ^ h
multiple_fits l h x q p =
    let e : 2 ^ (h - l) * 2 ^ l ≡ 2 ^ h = rw (← pow-add, sub-add_cancel q) in
    let lt : x < suc (2 ^ (h - l)) = lt_of_mul-lt-mul_right (2 ^ l) (omega arith) in
    let le : x * 2 ^ l ≤ 2 ^ (h - l) * 2 ^ l = mul-le-mul_right (2 ^ l) (omega arith) in
    omega arith

-- The subtrees in use are no more than the p pages placed so far ask for, rounded up; and a lone block is among those pages.
pub data Tight (l p : ℕ) : State → Type 0 where
  full_tight : {u : ℕ} → u * 2 ^ l < p + 2 ^ l → Tight l p (full u)
  lone_tight : {v j k : ℕ} → suc v * 2 ^ l < p + 2 ^ l → 2 ^ j ≤ p → Tight l p (lone v j k)

pub place_tight : (l p : ℕ) {s : State} (c : ℕ) → Tight l p s → Tight l (p + c * 2 ^ l) (place l s c)
place_tight l p zero (full_tight {u = u} h) = full_tight {u = u} (omega arith)
place_tight l p (suc c) (full_tight {u = u} h) = lone_tight {v = u + c} {j = l} {k = 0} (omega arith) (omega arith)
place_tight l p c (lone_tight {v = v} {j = j} {k = k} h q) = lone_tight {v = v + c} {j = j} {k = k} (omega arith) (omega arith)

rise_tight : (l p : ℕ) {s t : State} {xs : List Block} → Rises s xs t → Tight l p s → Tight (suc l) p t
rise_tight l p (full_rises {u = u} {w = w} q r) (full_tight h) =
    let up : (w + w) * 2 ^ l ≡ w * 2 ^ suc l = double_pages w l refl in
    let le : (w + w) * 2 ^ l ≤ suc u * 2 ^ l = mul-le-mul_right (2 ^ l) r in
    full_tight {u = w} (omega arith)
rise_tight l p (lone_rises {v = v} {j = j} {k = k} {w = w} e) (lone_tight h q) =
    let up : v * 2 ^ l ≡ w * 2 ^ suc l = double_pages w l e in
    lone_tight {v = w} {j = j} {k = suc k} (omega arith) q
rise_tight l p (lone_settles {v = v} {w = w} e) (lone_tight h q) =
    let up : suc v * 2 ^ l ≡ suc w * 2 ^ suc l = double_pages (suc w) l (omega arith) in
    full_tight {u = suc w} (omega arith)

pub tight_start : (l p : ℕ) {s : State} → Tight l p s → start s * 2 ^ l < p + 2 ^ l
tight_start l p (full_tight h) = h
tight_start l p (lone_tight h q) = omega arith

pub next_tight : (l p : ℕ) {s : State} (c : ℕ) → Tight l p s → Tight (suc l) (p + c * 2 ^ l) (rise (place l s c))
next_tight l p {s} c t = rise_tight l (p + c * 2 ^ l) (rises (place l s c)) (place_tight l p c t)

-- the last subtree in use does not lie in the tree only if it is higher than the tree; then it is the first, and its lone block fits
lone_within : (h l p : ℕ) {s : State} {b : Block} → AtLevel l s → Tight l p s → p ≤ 2 ^ h → LoneOf s b → past b ≤ 2 ^ h
lone_within h l p (lone_at e) (lone_tight q r) f (lone_of {v = v} {j = j} {k = k} {b = b} g) = go (dec_le l h)
  where
    go : Dec (l ≤ h) → past b ≤ 2 ^ h
    go (yes d) =
        let in_subtree : suc v * 2 ^ l ≤ 2 ^ h = multiple_fits l h (suc v) d (omega arith) in
        let at = lone_pages l v j k e in
        rw (same_past g) (omega arith)
    go (no d) =
        let higher : 2 ^ h < 2 ^ l = pow-lt (omega arith) in
        let only : suc v < 2 = lt_of_mul-lt-mul_right (2 ^ l) (omega arith) in
        let begins_0 : v * 2 ^ l ≤ 0 * 2 ^ l = mul-le-mul_right (2 ^ l) (omega arith) in
        let at = lone_pages l v j k e in
        rw (same_past g) (omega arith)
lone_within h l p {b = b} (full_at {u = u}) _ f x11 = elim x11 [ ]

run_within : (h l p : ℕ) (s : State) (c : ℕ) {b : Block}
    → Tight l p s → p + c * 2 ^ l ≤ 2 ^ h → InRun l (start s) (running s c) b → past b ≤ 2 ^ h
run_within h l p s c {b} t f r =
    let tight = rw start_place at (tight_start l (p + c * 2 ^ l) (place_tight l p c t)) in
    let before : suc b.index * 2 ^ l ≤ (start s + running s c) * 2 ^ l = mul-le-mul_right (2 ^ l) r.to in
    let some : 1 * 2 ^ l ≤ c * 2 ^ l = mul-le-mul_right (2 ^ l) (omega (arith, running_le s c)) in
    rw r.of_level (multiple_fits l h (suc b.index) (le_of_pow_le l h (omega arith)) (omega arith))

layout_from_within : (h l p : ℕ) {s : State} (cs : List ℕ) {b : Block}
    → AtLevel l s → Tight l p s → p + pages_from l cs ≤ 2 ^ h → Member b (layout_from l s cs) → past b ≤ 2 ^ h
layout_from_within h l p {s} [] a t f m = lone_within h l p a t (omega arith) (remaining_lone s m)
layout_from_within h l p {s} (c ∷ cs) {b} a t f m =
    go (layout_from_within h (suc l) (p + c * 2 ^ l) cs (next_at l c a) (next_tight l p c t) (omega arith)) (member_part l s c cs m)
  where
    go : (Member b (layout_from (suc l) (rise (place l s c)) cs) → past b ≤ 2 ^ h) → Part l s c cs b → past b ≤ 2 ^ h
    go above (in_run r) = run_within h l p s c t (omega arith) r
    go above (in_settled m) =
        lone_within h l (p + c * 2 ^ l) (place_at l c a) (place_tight l p c t) (omega arith) (settled_lone (place l s c) m)
    go above (in_rest m) = above m

pub layout_within : (h : ℕ) (cs : List ℕ) → pages cs ≤ 2 ^ h → BWithin h (among (layout cs))
unfolding layout pages
layout_within h cs f b m = layout_from_within h 0 0 cs (full_at {u = 0}) (full_tight (omega arith)) (omega arith) (among_member (layout cs) b m)
