-- After an admit table, line and book still agree.
use mathlib.Core.Path.{◌≡◌, refl, sym, ap, subst, ◌∙◌}
use mathlib.Core.Bool.{true, false≢true}
use mathlib.Core.List.{[], ◌∷◌, ◌++◌}
use mathlib.Core.Option.{Option, some, none}
use Prim.Native.Nat.{ℕ, ◌≤◌, ◌<◌}
use native.Mathlib.Omega.{arith}
use native.Mathlib.Decide.{dec_lt}
use lib.ListN.{length}
use Rattle.line.specs.Line.{line_of, waiting_in}
use Rattle.line.specs.Order.{waits, Orderly}
use Rattle.line.specs.Changes.{once_more, leave}
use Rattle.line.proofs.Numbers.{read_of_line}
use Rattle.line.proofs.Places.{waits_at, orderly_admitted}
use Rattle.passes.specs.Events.{admitted, waiting_after}
use Rattle.passes.proofs.Events.{after_leaving, by_admission, changing}
use Rattle.rules.specs.Step.{step as table_step}
use Rattle.rules.specs.History.{write, enter as enter_holding}
use Rattle.rules.proofs.Kept.{Kept as TableKept}
use Rattle.rules.proofs.Box.{kept_by_call}
use Rattle.admission.specs.Call.{State, admit}
use Rattle.admission.specs.Step.{fits, step}
use Rattle.boxes.specs.History.{Book, reply, level_in, enter}
use Rattle.admission.proofs.Numbers.{admit_refused}
use Rattle.admission.proofs.Admits.{place_in, chosen_in, grant_to, answered, admits_somebody, admits_nobody}
use Rattle.boxes.proofs.Leaving.{length_left, gone, was_waiting, level_of_own}
use Rattle.boxes.proofs.Kept.{Kept, sound_state, waiting_in_book, line_kept, beside}

module _ (h : ℕ) (S : State) (B : Book) (K : Kept h S B) (m : ℕ) (enough : 4 ≤ m) where
  module _ (there : place_in h S < length (waiting_in S.line)) where
    in_line : waits (chosen_in h S).tenant (waiting_in S.line) ≡ true
    in_line = waits_at (waiting_in S.line) (place_in h S) _ there

    -- the book has the level that it waited for
    waited_for : level_in (chosen_in h S).tenant (waiting_after B.events) ≡ some (chosen_in h S).level
    waited_for =
        ap (level_in (chosen_in h S).tenant) (sym K.says) ∙ level_of_own h S.table (waiting_in S.line) K.line.orderly (place_in h S) _ there

    entered : enter_holding h (grant_to (chosen_in h S) m) (table_step h S.table (grant_to (chosen_in h S) m)).answer B.holdings
        ≡ write (chosen_in h S).tenant (some (chosen_in h S).level) B.holdings
    entered = ap (λ (n : ℕ). enter_holding h (grant_to (chosen_in h S) m) n B.holdings) (answered h S (sound_state h S B K) m enough there)

    -- those who still wait have nothing
    others_out : (u : ℕ) → waits u (leave once_more (chosen_in h S).tenant (waiting_in S.line)) ≡ true
        → write (chosen_in h S).tenant (some (chosen_in h S).level) B.holdings u ≡ none
    others_out u w =
        let t = (chosen_in h S).tenant in
        let left = gone h S.table once_more (λ w. refl) t (waiting_in S.line) K.line.orderly in
        beside t u (some (chosen_in h S).level) B.holdings
        (λ is. false≢true (sym left ∙ subst (λ (v : ℕ). waits v (leave once_more t (waiting_in S.line)) ≡ true) is w))
        (waiting_in_book h S B K u (was_waiting once_more (λ w. refl) u t (waiting_in S.line) w))

    line_says : waiting_in (line_of (leave once_more (chosen_in h S).tenant (waiting_in S.line)))
        ≡ waiting_after (B.events ++ admitted (chosen_in h S).tenant ∷ [])
    unfolding changing
    line_says =
        let t = (chosen_in h S).tenant in
        read_of_line (leave once_more t (waiting_in S.line))
        ∙ ap (leave once_more t) K.says
        ∙ sym (after_leaving h S.table t (admitted t) by_admission B.events (subst (Orderly h S.table) K.says K.line.orderly)
        (ap (waits t) (sym K.says) ∙ in_line))

    admitted_kept : Kept h (step h S (admit m)).state (enter h (admit m) (reply (step h S (admit m))) B)
    admitted_kept =
        let t = (chosen_in h S).tenant in
        let W = waiting_in S.line in
        let table = rw entered at (kept_by_call h S.table B.holdings K.table (grant_to (chosen_in h S) m)) in
        rw (admits_somebody h S (sound_state h S B K) m enough there) (record {
          table = subst (λ (x : Option ℕ). TableKept h (table_step h S.table (grant_to (chosen_in h S) m)).table (write t x B.holdings))
              (sym waited_for) table;
          line =
              line_kept h S.table (table_step h S.table (grant_to (chosen_in h S) m)).table _ (leave once_more t W) table
              (omega (arith, length_left once_more t W in_line, K.line.few))
              (orderly_admitted h S.table (fits h S.table) W _ there K.line.orderly) others_out;
          says = line_says;
        })

  -- an admit keeps what histories keep
  pub enough_kept : Kept h (step h S (admit m)).state (enter h (admit m) (reply (step h S (admit m))) B)
  enough_kept = go (dec_lt (place_in h S) (length (waiting_in S.line)))
    where
      go : Dec (place_in h S < length (waiting_in S.line)) → Kept h (step h S (admit m)).state (enter h (admit m) (reply (step h S (admit m))) B)
      go (yes there) = admitted_kept there
      go (no out) = rw (admits_nobody h S (sound_state h S B K) m enough out) K

pub admit_kept : (h : ℕ) (S : State) (B : Book) → Kept h S B → (m : ℕ)
    → Kept h (step h S (admit m)).state (enter h (admit m) (reply (step h S (admit m))) B)
admit_kept h S B K m = go (dec_lt m 4)
  where
    go : Dec (m < 4) → Kept h (step h S (admit m)).state (enter h (admit m) (reply (step h S (admit m))) B)
    go (yes few) = rw (admit_refused h S (sound_state h S B K) m few) K
    go (no enough) = enough_kept h S B K m (omega arith)
