-- What a step of the layout machine does to its state: how the lone block lies in its subtree, and what going up a level changes.
use mathlib.Core.Path.{◌≡◌, refl, sym, ap, ◌∙◌}
use mathlib.Core.List.Memᴰ.{eq_of_singleton as member_singleton}
use mathlib.Core.List.{List, [], ◌∷◌}
use Prim.Native.Nat.{ℕ, zero, suc, ◌+◌, ◌*◌, ◌^◌, ◌≤◌}
use native.Mathlib.Nat.{add-zero, add-suc, mul_assoc, add_comm, pow-suc}
use native.Mathlib.Omega.{arith}
use lib.Pow.{pow-add, pow_mono}
use Rattle.tree.specs.Block.{Block, first, past}
use Rattle.layout.specs.Layout.{Half, even, odd, next_half, half, State, full, lone, block, start, running, place}
use Rattle.layout.specs.Layout.{rise_full, rise_lone, rise, settle_lone, settled, remaining}
use Rattle.layout.proofs.Members.{Member}

-- Halving

abbrev pub twice : Half → ℕ
twice (even w) = w + w
twice (odd w) = suc (w + w)

pub twice_half : (n : ℕ) → twice (half n) ≡ n
twice_half zero = refl
twice_half (suc n) = go (half n) (twice_half n)
  where
    go : (x : Half) → twice x ≡ n → twice (next_half x) ≡ suc n
    go (even w) e = omega arith
    go (odd w) e = omega arith

-- The lone block

-- a state of level l: its lone block stands k levels below l
pub data AtLevel : ℕ → State → Type 0 where
  full_at : {l u : ℕ} → AtLevel l (full u)
  lone_at : {l v j k : ℕ} → l ≡ j + k → AtLevel l (lone v j k)

-- its pages are the first 2^j of the subtree v of level l
pub record LonePages (l v j k : ℕ) : Type 0 where
  pub begins : first (block j (v * 2 ^ k)) ≡ v * 2 ^ l
  pub ends : past (block j (v * 2 ^ k)) ≡ v * 2 ^ l + 2 ^ j
  pub size : 2 ^ j ≤ 2 ^ l

pub lone_pages : (l v j k : ℕ) → l ≡ j + k → LonePages l v j k
lone_pages l v j k e =
    let f : v * 2 ^ k * 2 ^ j ≡ v * 2 ^ l = rw (e, mul_assoc, ← pow-add, add_comm j k) in
    record { begins = f; ends = omega arith; size = pow_mono (omega arith) }

-- b is the lone block of the state
pub data LoneOf : State → Block → Type 0 where
  lone_of : {v j k : ℕ} {b : Block} → b ≡ block j (v * 2 ^ k) → LoneOf (lone v j k) b

-- only the lone block settles, and only it is left at the end
pub settled_lone : (s : State) {b : Block} → Member b (settled s) → LoneOf s b
settled_lone (full u) m = elim m [ ]
settled_lone (lone v j k) {b} m = go (half v) m
  where
    go : (x : Half) → Member b (settle_lone (block j (v * 2 ^ k)) x) → LoneOf (lone v j k) b
    go (even w) m = elim m [ ]
    go (odd w) m = lone_of (member_singleton m)

pub remaining_lone : (s : State) {b : Block} → Member b (remaining s) → LoneOf s b
remaining_lone (full u) m = elim m [ ]
remaining_lone (lone v j k) m = lone_of (member_singleton m)

-- Placing

pub place_at : (l : ℕ) {s : State} (c : ℕ) → AtLevel l s → AtLevel l (place l s c)
place_at l zero (full_at {u = u}) = full_at
place_at l (suc c) (full_at {u = u}) = lone_at (sym (add-zero l))
place_at l c (lone_at e) = lone_at e

-- the level's run ends where the state then begins
pub start_place : (l : ℕ) (s : State) (c : ℕ) → start (place l s c) ≡ start s + running s c
start_place l (full u) zero = sym (add-zero u)
start_place l (full u) (suc c) = refl
start_place l (lone v j k) c = refl

pub running_le : (s : State) (c : ℕ) → running s c ≤ c
running_le (full u) zero = omega arith
running_le (full u) (suc c) = omega arith
running_le (lone v j k) c = omega arith

-- Going up a level: the subtrees are joined in pairs, and a lone block in a right half is lone no more.

pub double_pages : {v : ℕ} (w l : ℕ) → v ≡ w + w → v * 2 ^ l ≡ w * 2 ^ suc l
double_pages w l e = rw (e, pow-suc) (omega arith)

pub data Rises : State → List Block → State → Type 0 where
  full_rises : {u w : ℕ} → u ≤ w + w → w + w ≤ suc u → Rises (full u) [] (full w)
  lone_rises : {v j k w : ℕ} → v ≡ w + w → Rises (lone v j k) [] (lone w j (suc k))
  lone_settles : {v j k w : ℕ} → v ≡ suc (w + w) → Rises (lone v j k) (block j (v * 2 ^ k) ∷ []) (full (suc w))

pub rises : (s : State) → Rises s (settled s) (rise s)
rises (full u) = go (half u) (twice_half u)
  where
    go : (x : Half) → twice x ≡ u → Rises (full u) [] (rise_full x)
    go (even w) e = full_rises {u = u} {w = w} (omega arith) (omega arith)
    go (odd w) e = full_rises {u = u} {w = suc w} (omega arith) (omega arith)
rises (lone v j k) = go (half v) (twice_half v)
  where
    go : (x : Half) → twice x ≡ v → Rises (lone v j k) (settle_lone (block j (v * 2 ^ k)) x) (rise_lone j k x)
    go (even w) e = lone_rises (sym e)
    go (odd w) e = lone_settles (sym e)

pub rise_at : {l : ℕ} {s t : State} {xs : List Block} → AtLevel l s → Rises s xs t → AtLevel (suc l) t
rise_at full_at (full_rises p q) = full_at
rise_at (lone_at {j = j} {k = k} e) (lone_rises h) = lone_at (ap suc e ∙ sym (add-suc j k))
rise_at (lone_at e) (lone_settles h) = full_at

-- Both: from a level's state to the next level's
pub next_at : (l : ℕ) {s : State} (c : ℕ) → AtLevel l s → AtLevel (suc l) (rise (place l s c))
next_at l {s} c a = rise_at (place_at l c a) (rises (place l s c))
