-- Lists that documents 01 and 02 give: the moves of a call by level and old node, as the tenants are paired with the nodes, and the list that
-- document 02, L2, makes of them. The first is line 4 of document 01's listing. Then come its grant at height 5, with its nodes held by the
-- tenants from 0 on, the release after that, and a growth that moves seven others (L5).
use Rattle.std.specs.Prelude.{◌≡◌, List, [], ◌∷◌, ℕ}
use Rattle.table.specs.declared.Move.{Move}
use Rattle.carrying.specs.Order.{moves_in_order}

pub record Sample : Type 0 where
  pub height : ℕ
  pub paired : List Move
  pub list : List Move

abbrev pub sample : ℕ → List Move → List Move → Sample
sample h ps ms = record { height = h; paired = ps; list = ms }

-- a tenant's move, with its fourth number in a list; 0 before the list is made
abbrev pub move : ℕ → ℕ → ℕ → ℕ → Move
move t old new staged = record { tenant = t; from = old; to = new; staged = staged }

abbrev pub samples : List Sample
samples =
    sample 2 (move 1 6 4 0 ∷ move 0 2 3 0 ∷ []) (move 0 2 3 0 ∷ move 1 6 4 1 ∷ [])
    ∷ sample 5 (move 1 34 44 0 ∷ move 3 12 10 0 ∷ move 4 5 6 0 ∷ []) (move 4 5 6 0 ∷ move 1 34 44 0 ∷ move 3 12 10 1 ∷ [])
    ∷ sample 5 (move 1 44 34 0 ∷ move 5 17 16 0 ∷ move 3 10 12 0 ∷ move 4 6 5 0 ∷ [])
    (move 5 17 16 0 ∷ move 1 44 34 0 ∷ move 4 6 5 0 ∷ move 3 10 12 1 ∷ [])
    ∷ sample 9
    (move 2 532 518 0
    ∷ move 5 259 257 0
    ∷ move 8 132 134 0
    ∷ move 9 67 66 0
    ∷ move 12 38 44 0
    ∷ move 14 14 10 0
    ∷ move 15 5 7 0
    ∷ [])
    (move 5 259 257 0
    ∷ move 2 532 518 0
    ∷ move 9 67 66 0
    ∷ move 15 5 7 0
    ∷ move 12 38 44 0
    ∷ move 8 132 134 1
    ∷ move 14 14 10 1
    ∷ [])
    ∷ []

-- the list of each is the one written beside its moves
unfoldable pub AllAsWritten : List Sample → Type 0
AllAsWritten [] = Unit {0}
AllAsWritten (s ∷ ss) = (moves_in_order s.height s.paired ≡ s.list) × AllAsWritten ss
