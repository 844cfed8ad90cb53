-- The layout machine's state, as a program keeps it on its way up.
use Rattle.std.specs.Prelude.{Option, Some, None, List, ℕ, ◌*◌, ◌^◌, ◌≤◌, ◌<◌, set}
use Rattle.layout.specs.Layout.{State, full, lone}
use Rattle.layout.specs.declared.Climb.{Climb}
use Rattle.layout.specs.declared.Lone.{Lone}

-- the state with v subtrees in use, and the next one too if there is a lone block
abbrev pub state_with : ℕ → Option Lone → State
state_with v None = full v
state_with v (Some b) = lone v b.level b.down

-- the state that a program's value stands for
abbrev pub state_of : Climb → State
state_of m = state_with m.before m.lone

-- the lone block's place is a number of 16 bits, and its level one of 13
abbrev pub Markable : State → Type 0
Markable (full u) = Unit {0}
Markable (lone v j k) = (j < 13) × (k ≤ 12) × (v * 2 ^ k < 2 ^ 16)

-- the list of lone places with the place where the lone block stands in this state
abbrev pub mark : State → List ℕ → List ℕ
mark (full u) xs = xs
mark (lone v j k) xs = set xs j (v * 2 ^ k)
