-- An admit on a state in order: whom it grants, and that the grant goes as one without a line.
use mathlib.Core.Path.{◌≡◌, refl, ap, subst, ◌∙◌}
use mathlib.Core.List.{[]}
use mathlib.Core.Logic.{◌⊎◌, inl, inr}
use mathlib.Core.Option.{some, none}
use Prim.Native.Nat.{ℕ, ◌+◌, ◌^◌, ◌≤◌, ◌<◌}
use native.Mathlib.Omega.{arith}
use borrow.Author.Tests.{le-ltb, leb-true}
use lib.ListN.{length}
use Rattle.layout.specs.Layout.{pages}
use Rattle.table.specs.Table.{counts_of}
use Rattle.line.specs.Line.{Waiting, line_of, waiting_in, at_place}
use Rattle.line.specs.Order.{MayWait, LineInOrder}
use Rattle.line.specs.Changes.{once_more, leave, place_chosen}
use Rattle.line.proofs.Ordered.{orderly_at, decides_line}
use Rattle.line.proofs.Places.{chosen_is, chosen_fits, none_chosen}
use Rattle.rules.specs.Call.{Call as Direct, grant_level}
use Rattle.rules.specs.Step.{Outcome as TableOutcome, first, validity, grant_holdings as table_holdings, step as table_step}
use Rattle.rules.specs.Demand.{Asks, by_level}
use Rattle.rules.proofs.Cases.{Granted, Repeated}
use Rattle.rules.proofs.Given.{accepted_answer}
use Rattle.rules.proofs.Repeats.{never_repeats}
use Rattle.admission.specs.Call.{State, admit}
use Rattle.admission.specs.Step.{with_line, fits, admission, step}
use Rattle.admission.proofs.Direct.{SoundState}
use Rattle.admission.proofs.Ways.{as_case, done_on_table}
use Rattle.admission.proofs.Numbers.{admit_done}

-- the place of the one that is chosen, and who it is
abbrev pub place_in : ℕ → State → ℕ
place_in h S = place_chosen (fits h S.table) (waiting_in S.line)

abbrev pub chosen_in : ℕ → State → Waiting
chosen_in h S = at_place (waiting_in S.line) (place_in h S)

-- the grant that it gets
abbrev pub grant_to : Waiting → ℕ → Direct
grant_to w m = grant_level w.tenant w.level m

module _ (h : ℕ) (S : State) (s : SoundState h S) (m : ℕ) (enough : 4 ≤ m) where
  in_order : LineInOrder h S.table S.line
  in_order = (decides_line h S.table S.line s.numbers).0 s.line

  module _ (there : place_in h S < length (waiting_in S.line)) where
    pub may : MayWait h S.table (chosen_in h S)
    may = orderly_at h S.table in_order.orderly (place_in h S) _ there

    valid : first (validity h (grant_to (chosen_in h S) m)) ≡ 0
    valid = rw (le-ltb m 4 enough, le-ltb 4095 (chosen_in h S).tenant may.tenant, le-ltb h (chosen_in h S).level may.level)

    room : first (table_holdings h S.table (chosen_in h S).tenant (chosen_in h S).level) ≡ 0
    room =
        rw (
          never_repeats h S.table (chosen_in h S).tenant (chosen_in h S).level may.holds_none,
          may.holds_none,
          le-ltb (2 ^ h) (pages (counts_of h S.table) + 2 ^ (chosen_in h S).level)
              (leb-true (pages (counts_of h S.table) + 2 ^ (chosen_in h S).level) (2 ^ h)
              (chosen_fits (fits h S.table) (waiting_in S.line) there _)),
        )

    pub answered : (table_step h S.table (grant_to (chosen_in h S) m)).answer ≡ 0
    answered =
        ap (λ (o : TableOutcome). o.answer)
        (done_on_table h S s (grant_to (chosen_in h S) m) (chosen_in h S).level by_level valid room)
        ∙ accepted_answer h S.table (grant_to (chosen_in h S) m)

    asks_level : {k : ℕ} → Asks h (grant_to (chosen_in h S) m) k → k ≡ (chosen_in h S).level
    asks_level by_level = refl

    pub is_granted : Granted h S.table (grant_to (chosen_in h S) m) (chosen_in h S).level
    is_granted = go (as_case h S s (grant_to (chosen_in h S) m) (chosen_in h S).level by_level answered)
      where
        go : ((k : ℕ) × Granted h S.table (grant_to (chosen_in h S) m) k) ⊎ ((k : ℕ) × Repeated h S.table (grant_to (chosen_in h S) m) k)
            → Granted h S.table (grant_to (chosen_in h S) m) (chosen_in h S).level
        go (inl g) = subst (Granted h S.table (grant_to (chosen_in h S) m)) (asks_level g.1.asks) g.1
        go (inr r) = absurd (omega (arith, r.1.holds, may.holds_none))

    pub admits_somebody : step h S (admit m)
        ≡ with_line (table_step h S.table (grant_to (chosen_in h S) m)) (some (chosen_in h S).tenant)
        (line_of (leave once_more (chosen_in h S).tenant (waiting_in S.line)))
    admits_somebody = admit_done h S s m enough ∙ ap (admission h S m) (chosen_is (fits h S.table) (waiting_in S.line) there _)

  pub admits_nobody : ¬ (place_in h S < length (waiting_in S.line))
      → step h S (admit m) ≡ record { answer = 0; node = 0; named = none; moves = []; state = S }
  admits_nobody out = admit_done h S s m enough ∙ ap (admission h S m) (none_chosen (fits h S.table) (waiting_in S.line) out).1
