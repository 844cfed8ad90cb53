-- Document 01's layouts to check against that it marks for proof: height, counts at the levels from 0 up, and the nodes from left to right.
use Rattle.std.specs.Prelude.{List, [], ◌∷◌, ℕ}

pub record Sample : Type 0 where
  pub height : ℕ
  pub counts : List ℕ
  pub nodes : List ℕ

abbrev pub sample : ℕ → List ℕ → List ℕ → Sample
sample h cs ns = record { height = h; counts = cs; nodes = ns }

abbrev pub starred : List Sample
starred =
    sample 3 (0 ∷ 0 ∷ 0 ∷ 0 ∷ []) []
    ∷ sample 3 (1 ∷ 0 ∷ 0 ∷ 0 ∷ []) (8 ∷ [])
    ∷ sample 3 (1 ∷ 1 ∷ 0 ∷ 0 ∷ []) (4 ∷ 10 ∷ [])
    ∷ sample 3 (2 ∷ 1 ∷ 0 ∷ 0 ∷ []) (8 ∷ 9 ∷ 5 ∷ [])
    ∷ sample 3 (3 ∷ 1 ∷ 0 ∷ 0 ∷ []) (8 ∷ 9 ∷ 5 ∷ 12 ∷ [])
    ∷ sample 3 (1 ∷ 0 ∷ 1 ∷ 0 ∷ []) (2 ∷ 12 ∷ [])
    ∷ sample 3 (2 ∷ 0 ∷ 1 ∷ 0 ∷ []) (8 ∷ 9 ∷ 3 ∷ [])
    ∷ sample 3 (1 ∷ 1 ∷ 1 ∷ 0 ∷ []) (4 ∷ 10 ∷ 3 ∷ [])
    ∷ sample 3 (0 ∷ 1 ∷ 1 ∷ 0 ∷ []) (2 ∷ 6 ∷ [])
    ∷ sample 3 (1 ∷ 2 ∷ 0 ∷ 0 ∷ []) (4 ∷ 5 ∷ 12 ∷ [])
    ∷ sample 3 (0 ∷ 0 ∷ 0 ∷ 1 ∷ []) (1 ∷ [])
    ∷ sample 0 (1 ∷ []) (1 ∷ [])
    ∷ []
