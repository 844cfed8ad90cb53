-- States of a level whose lone block is of a lower level, as each is before the level's own blocks are placed.
use Prim.Native.Nat.{ℕ, zero, suc, ◌<◌}
use native.Mathlib.Nat.{lt-suc_self, le_step}
use Rattle.layout.specs.Layout.{Half, even, odd, half, State, full, lone, place, rise_full, rise_lone, rise}

pub data Below : ℕ → State → Type 0 where
  full_below : {l u : ℕ} → Below l (full u)
  lone_below : {l v j k : ℕ} → j < l → Below l (lone v j k)

pub place_below : (l : ℕ) {s : State} (c : ℕ) → Below l s → Below (suc l) (place l s c)
place_below l zero (full_below {u = u}) = full_below
place_below l (suc c) (full_below {u = u}) = lone_below (lt-suc_self l)
place_below l c (lone_below h) = lone_below (le_step h)

pub rise_below : {l : ℕ} {s : State} → Below l s → Below l (rise s)
rise_below {l} (full_below {u = u}) = go (half u)
  where
    go : (x : Half) → Below l (rise_full x)
    go (even w) = full_below
    go (odd w) = full_below
rise_below {l} (lone_below {v = v} {j = j} {k = k} h) = go (half v)
  where
    go : (x : Half) → Below l (rise_lone j k x)
    go (even w) = lone_below h
    go (odd w) = full_below
