-- On the level of a block of the layout every place left of it is solid: two blocks of the layout lie below it, or one is it or contains it.
-- Shown along the machine, for any set that holds the blocks that the machine places.
use mathlib.Core.Path.{◌≡◌, refl}
use mathlib.Core.Bool.{true}
use mathlib.Core.List.{List, [], ◌∷◌}
use Prim.Native.Nat.{ℕ, zero, suc, ◌+◌, ◌*◌, ◌/◌, ◌^◌, ◌≤◌, ◌<◌}
use native.Mathlib.Nat.{le-div_iff_mul-le, div-lt_iff_lt-mul}
use native.Mathlib.Decide.{dec_lt, ℕ_discrete}
use native.Mathlib.Omega.{arith}
use lib.Pow.{pow_pos}
use Rattle.tree.specs.Block.{Block, Blocks}
use Rattle.layout.specs.Layout.{State, full, lone, block, start, running, place, rise, layout_from, layout, among}
use Rattle.layout.proofs.Members.{Member, here, among_member, member_among, same_level, same_index}
use Rattle.layout.proofs.Members.{InRun, Part, in_run, in_settled, in_rest, member_part, run_member, settled_member, rest_member}
use Rattle.layout.proofs.States.{AtLevel, full_at, lone_at, LoneOf, lone_of, settled_lone, remaining_lone, place_at, next_at}
use Rattle.layout.proofs.States.{double_pages, Rises, full_rises, lone_rises, lone_settles, rises}
use Rattle.layout.proofs.Solid.{Occupied, TwoInside, Solid, two_inside, covered, two_occupy, itself_occupies, itself_covers}
use Rattle.layout.proofs.Solid.{subtree_covers, lone_occupies, halves_two, left_two}

-- The states, over a set A

-- Before a level's blocks are placed: two blocks below each subtree left of where it begins, and all left of the lone block solid.
data Filled (A : Blocks) (l : ℕ) : State → Type 0 where
  full_filled : {u : ℕ} → ((x : ℕ) → x < u → TwoInside A l x) → Filled A l (full u)
  lone_filled : {v j k : ℕ} → ((x : ℕ) → x < v → TwoInside A l x) → ((x : ℕ) → x < v * 2 ^ k → Solid A j x) → Filled A l (lone v j k)

-- With them placed: the same if there is no lone block, as then there was nothing to place; else a block in each subtree before its own.
data Placed (A : Blocks) (l : ℕ) : State → Type 0 where
  full_placed : {u : ℕ} → ((x : ℕ) → x < u → TwoInside A l x) → Placed A l (full u)
  lone_placed : {v j k : ℕ} → ((x : ℕ) → x < v → Occupied A l x) → ((x : ℕ) → x < v * 2 ^ k → Solid A j x) → Placed A l (lone v j k)

filled_start : {A : Blocks} {l : ℕ} {s : State} → Filled A l s → (x : ℕ) → x < start s → TwoInside A l x
filled_start (full_filled t) = t
filled_start (lone_filled t o) = t

filled_placed : {A : Blocks} {l : ℕ} {s : State} → Filled A l s → Placed A l s
filled_placed (full_filled t) = full_placed t
filled_placed (lone_filled t o) = lone_placed (λ x h. two_occupy (t x h)) o

-- Placing

-- A holds the run of level l
abbrev RunHeld : Blocks → ℕ → State → ℕ → Type 0
RunHeld A l s c = (x : ℕ) → start s ≤ x → x < start s + running s c → A (block l x) ≡ true

module _ (A : Blocks) (l : ℕ) (s : State) (c : ℕ) (f : Filled A l s) (r : RunHeld A l s c) where
  run_occupied : (x : ℕ) → x < start s + running s c → Occupied A l x
  run_occupied x h = go (dec_lt x (start s))
    where
      go : Dec (x < start s) → Occupied A l x
      go (yes p) = two_occupy (filled_start f x p)
      go (no p) = itself_occupies A l x (r x (omega arith) h)

  run_solid : (x : ℕ) → x < start s + running s c → Solid A l x
  run_solid x h = go (dec_lt x (start s))
    where
      go : Dec (x < start s) → Solid A l x
      go (yes p) = two_inside (filled_start f x p)
      go (no p) = covered (itself_covers A l x (r x (omega arith) h))

-- while a block is carried, each run begins where the one before it ended
carried_solid : (A : Blocks) (l v j k c : ℕ) → l ≡ j + k → RunHeld A l (lone v j k) c
    → ((x : ℕ) → x < v * 2 ^ k → Solid A j x) → (x : ℕ) → x < (v + c) * 2 ^ k → Solid A j x
carried_solid A l v j k c e r o x h = go (dec_lt x (v * 2 ^ k))
  where
    go : Dec (x < v * 2 ^ k) → Solid A j x
    go (yes p) = o x p
    go (no p) =
        let from : v ≤ x / 2 ^ k = (le-div_iff_mul-le (pow_pos k)).1 (omega arith) in
        let to : x / 2 ^ k < v + c = (div-lt_iff_lt-mul (pow_pos k)).1 h in
        covered (subtree_covers A l j k x e (r (x / 2 ^ k) from to))

place_filled : (A : Blocks) (l : ℕ) (s : State) (c : ℕ) → AtLevel l s → Filled A l s → RunHeld A l s c → Placed A l (place l s c)
place_filled A l (full u) zero at (full_filled t) r = full_placed t
place_filled A l (full u) (suc c) at f r =
    lone_placed {v = u + c} {k = 0} (run_occupied A l (full u) (suc c) f r)
    (λ (x : ℕ) (h : x < (u + c) * 1). run_solid A l (full u) (suc c) f r x (omega arith))
place_filled A l (lone v j k) c (lone_at e) (lone_filled t o) r =
    lone_placed (run_occupied A l (lone v j k) c (lone_filled t o) r) (carried_solid A l v j k c e r o)

-- Going up a level

-- a lone block that settles leaves one block in each subtree up to its own
up_to_lone : {A : Blocks} {l v : ℕ} → ((x : ℕ) → x < v → Occupied A l x) → Occupied A l v → (x : ℕ) → x < suc v → Occupied A l x
up_to_lone {A} {l} {v} t o x h = go (ℕ_discrete x v)
  where
    go : Dec (x ≡ v) → Occupied A l x
    go (yes e) = rw e o
    go (no d) = t x (omega arith)

rise_placed : (A : Blocks) (l : ℕ) {s t : State} {xs : List Block}
    → AtLevel l s → Placed A l s → Rises s xs t → ((b : Block) → Member b xs → A b ≡ true) → Filled A (suc l) t
rise_placed A l full_at (full_placed t) (full_rises {w = w} p q) a =
    full_filled (λ (x : ℕ) (h : x < w). left_two x (t (x + x) (omega arith)))
rise_placed A l (lone_at e) (lone_placed t o) (lone_rises {k = k} {w = w} p) a =
    lone_filled
    (λ (x : ℕ) (h : x < w). halves_two x (t (x + x) (omega arith)) (t (suc (x + x)) (omega arith)))
    (λ (x : ℕ) (h : x < w * 2 ^ suc k). o x (omega (arith, double_pages w k p)))
rise_placed A l (lone_at e) (lone_placed t o) (lone_settles {v = v} {j = j} {k = k} {w = w} p) a =
    let occupied = up_to_lone t (lone_occupies A l v j k e (a (block j (v * 2 ^ k)) (here refl))) in
    full_filled (λ (x : ℕ) (h : x < suc w). halves_two x (occupied (x + x) (omega arith)) (occupied (suc (x + x)) (omega arith)))

-- The blocks of the layout

-- every place of its level left of b is solid
abbrev pub Backed : Blocks → Block → Type 0
Backed A b = (x : ℕ) → x < b.index → Solid A b.level x

run_backed : (A : Blocks) (l : ℕ) (s : State) (c : ℕ) {b : Block}
    → Filled A l s → RunHeld A l s c → InRun l (start s) (running s c) b → Backed A b
run_backed A l s c f r i x h = rw i.of_level (run_solid A l s c f r x (omega arith))

lone_backed : {A : Blocks} {l : ℕ} {s : State} {b : Block} → Placed A l s → LoneOf s b → Backed A b
lone_backed (lone_placed t o) (lone_of g) x h = rw (same_level g) (o x (omega (arith, same_index g)))
lone_backed {A = A} {l = l} {b = b} (full_placed {u = u} _) x10 x h = elim x10 [ ]

layout_from_backed : (A : Blocks) (l : ℕ) (s : State) (cs : List ℕ) → AtLevel l s → Filled A l s
    → ((b : Block) → Member b (layout_from l s cs) → A b ≡ true) → {b : Block} → Member b (layout_from l s cs) → Backed A b
layout_from_backed A l s [] at f a m = lone_backed (filled_placed f) (remaining_lone s m)
layout_from_backed A l s (c ∷ cs) at f a {b} m =
    go (layout_from_backed A (suc l) (rise (place l s c)) cs (next_at l c at) risen (λ b m. a b (rest_member l s c cs m))) (member_part l s c cs m)
  where
    held_run : RunHeld A l s c
    held_run x p q = a (block l x) (run_member l s c cs x p q)

    placed : Placed A l (place l s c)
    placed = place_filled A l s c at f held_run

    risen : Filled A (suc l) (rise (place l s c))
    risen = rise_placed A l (place_at l c at) placed (rises (place l s c)) (λ b m. a b (settled_member l s c cs m))

    go : (Member b (layout_from (suc l) (rise (place l s c)) cs) → Backed A b) → Part l s c cs b → Backed A b
    go above (in_run i) = run_backed A l s c f held_run i
    go above (in_settled m) = lone_backed placed (settled_lone (place l s c) m)
    go above (in_rest m) = above m

pub layout_backed : (cs : List ℕ) (b : Block) → among (layout cs) b ≡ true → Backed (among (layout cs)) b
unfolding layout
layout_backed cs b h =
    layout_from_backed (among (layout cs)) 0 (full 0) cs full_at (full_filled (λ (x : ℕ) (h : x < 0). absurd (omega arith)))
    (λ b m. member_among m) (among_member (layout cs) b h)
