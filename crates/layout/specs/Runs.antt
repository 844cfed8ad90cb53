-- Where the run of each level begins and how many blocks it has, for a program that looks at the ends of the runs alone.
use Rattle.std.specs.Prelude.{List, [], ◌∷◌, ℕ, suc}
use Rattle.layout.specs.Layout.{State, full, start, running, place, rise}

-- the first index of each level's run, from level l on, with the state there and the counts from there on
abbrev pub starts_from : ℕ → State → List ℕ → List ℕ
starts_from l s [] = []
starts_from l s (c ∷ cs) = start s ∷ starts_from (suc l) (rise (place l s c)) cs

-- the number of blocks of each level's run, likewise
abbrev pub runs_from : ℕ → State → List ℕ → List ℕ
runs_from l s [] = []
runs_from l s (c ∷ cs) = running s c ∷ runs_from (suc l) (rise (place l s c)) cs

-- both for all levels
unfoldable pub starts : List ℕ → List ℕ
starts cs = starts_from 0 (full 0) cs

unfoldable pub runs : List ℕ → List ℕ
runs cs = runs_from 0 (full 0) cs
