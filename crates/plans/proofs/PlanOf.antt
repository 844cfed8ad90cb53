-- A plan that is made of a list of moves, and one move more at its end.
use mathlib.Core.Path.{◌≡◌, sym, ap, ◌∙◌}
use mathlib.Core.List.{List, [], ◌∷◌, ◌++◌, append_assoc}
use Prim.Native.Nat.{ℕ, suc, ◌+◌, ◌-◌, ◌<◌}
use native.Mathlib.Omega.{arith}
use lib.ListN.{length, set, replicate, length-append}
use lib.Seq.{take-append_seam, set-append_seam}
use Rattle.plans.specs.Plan.{moves_in, no_move, plan_of, with_move}
use Rattle.table.specs.declared.Move.{Move}
use Rattle.plans.specs.declared.Plan.{Plan}

pub moves_of_plan : (ms : List Move) → moves_in (plan_of ms) ≡ ms
moves_of_plan ms = take-append_seam ms (replicate (7 - length ms) no_move)

module _ (p : Plan) (ms : List Move) (e : p ≡ plan_of ms) where
  pub moves_in_plan_of : moves_in p ≡ ms
  moves_in_plan_of = ap moves_in e ∙ moves_of_plan ms

  pub count_in_plan_of : p.n ≡ length ms
  count_in_plan_of = ap (λ (q : Plan). q.n) e

  pub made_of_its_moves : p ≡ plan_of (moves_in p)
  made_of_its_moves = e ∙ ap plan_of (sym moves_in_plan_of)

-- one move more takes the place of the first entry that holds none
one_move_more : (ms : List Move) (m : Move) → length ms < 7
    → with_move (plan_of ms) m ≡ plan_of (ms ++ (m ∷ []))
one_move_more ms m few = λ i. record { n = count i; moves = moves i }
  where
    count : length ms + 1 ≡ length (ms ++ (m ∷ []))
    count = sym (length-append ms (m ∷ []))

    spare : 7 - length ms ≡ suc (7 - length (ms ++ (m ∷ [])))
    spare = omega (arith, length-append ms (m ∷ []))

    moves : set (plan_of ms).moves (length ms) m ≡ (plan_of (ms ++ (m ∷ []))).moves
    moves =
        ap (λ (k : ℕ). set (ms ++ replicate k no_move) (length ms) m) spare
        ∙ set-append_seam ms no_move (replicate (7 - length (ms ++ (m ∷ []))) no_move) m
        ∙ sym (append_assoc ms (m ∷ []) (replicate (7 - length (ms ++ (m ∷ []))) no_move))

pub pushed_at_end : (p : Plan) (m : Move) → p.n < 7 → p ≡ plan_of (moves_in p)
    → with_move p m ≡ plan_of (moves_in p ++ (m ∷ []))
pushed_at_end p m few e =
    ap (λ (q : Plan). with_move q m) e
    ∙ one_move_more (moves_in p) m (omega (arith, count_in_plan_of p (moves_in p) e))
