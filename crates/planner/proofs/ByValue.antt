-- From a list of seven entries of a function's own to the plan that it hands back.
use mathlib.Core.Path.{◌≡◌, ap, subst, ◌∙◌}
use mathlib.Core.List.{List, ◌++◌}
use Prim.Native.Nat.{ℕ, ◌-◌}
use lib.ListN.{length, replicate}
use Rattle.std.specs.Prelude.{Ok}
use Rattle.plans.specs.Plan.{no_move}
use Rattle.table.specs.declared.Move.{Move}
use Rattle.table.proofs.Arrays.{drop_replicate}
use Rattle.admission.specs.Step.{step}
use Rattle.admission.specs.Value.{requested, lent, GivesAdmitted}
use Rattle.admission.specs.declared.Request.{Request}
use Rattle.planner.specs.declared.Report.{Report}
use Rattle.planner.specs.Performed.{Performed}

-- The list of seven entries without a move is handed back: the moves, and then entries without one.
pub by_value : (h : ℕ) (c : Request) (T L : List ℕ) (M : List Move) → M ≡ replicate 7 no_move → {r : Report} {T' L' : List ℕ} {M' : List Move}
    → Performed h c T L M (Ok r) T' L' M'
    → GivesAdmitted (step h (lent T L) (requested c 7))
    (Ok (record { tenant = r.tenant; node = r.node; plan = record { n = r.moves; moves = M' } })) T' L'
by_value h c T L M none {r} {T'} {L'} {M'} performed =
    let moves = (step h (lent T L) (requested c 7)).moves in
    let p : Performed h c T L (replicate 7 no_move) (Ok r) T' L' M'
    = subst (λ (N : List Move). Performed h c T L N (Ok r) T' L' M') none performed in
    let list : M' ≡ moves ++ replicate (7 - length moves) no_move
    = p.moves ∙ ap (λ (rest : List Move). moves ++ rest) (drop_replicate (length moves) 7 no_move) in
    record { answer = p.answer; node = p.node; named = p.named; plan = λ i. record { n = p.count i; moves = list i }; state = p.state }
