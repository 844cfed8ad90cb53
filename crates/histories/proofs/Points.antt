-- Every point of a listing is a point of a history: the lines so far are its calls', and its promises hold there.
use mathlib.Core.Path.{◌≡◌, refl, sym, ap, ◌∙◌}
use mathlib.Core.List.{List, [], ◌∷◌, ◌++◌, map, append_assoc}
use Prim.Native.Nat.{ℕ, suc, ◌+◌, ◌≤◌}
use native.Mathlib.Nat.{add-zero}
use native.Mathlib.Decide.{dec_le}
use native.Mathlib.Omega.{arith}
use lib.ListN.{length, length-append}
use Rattle.journal.specs.declared.Record.{Record}
use Rattle.journal.specs.Journal.{Reading}
use Rattle.admission.specs.Call.{State, Call}
use Rattle.admission.specs.Step.{Outcome, step, open_reserve}
use Rattle.boxes.specs.History.{History, Reply, reply, state_from, replies_from, state_after, replies_of}
use Rattle.boxes.specs.Demand.{Boxes}
use Rattle.boxes.proofs.Demand.{demand_3}
use Rattle.replay.specs.Listing.{vacant}
use Rattle.replay.proofs.Heights.{opening_too_high}
use Rattle.histories.specs.Listing.{call_of, calls_of, Opens, history_of, outcomes_from, open_line, lines_after, last_line, book_of}
use Rattle.histories.specs.Listing.{PromisesOfListing, ListingsDemand3}
use Rattle.histories.proofs.Listing.{one_call_each, after_open, listing_of_history}

-- ---- the lines before and after

calls_append : (a b : List Record) → calls_of (a ++ b) ≡ calls_of a ++ calls_of b
unfolding calls_of
calls_append [] b = refl
calls_append (r ∷ a) b = rw (calls_append a b, append_assoc)

one_call_at_most : (r : Record) → length (call_of r) ≤ 1
one_call_at_most r = grind arith

pub no_more_calls : (rs : List Record) → length (calls_of rs) ≤ length rs
unfolding calls_of
no_more_calls [] = omega arith
no_more_calls (r ∷ rs) = omega (arith, length-append (call_of r) (calls_of rs), one_call_at_most r, no_more_calls rs)

one_call_each_before : (before after : List Record) → length (calls_of (before ++ after)) ≡ length (before ++ after)
    → length (calls_of before) ≡ length before
one_call_each_before before after e =
    let parts = ap length (calls_append before after) ∙ length-append (calls_of before) (calls_of after) in
    omega (arith, parts, length-append before after, no_more_calls before, no_more_calls after)

outcomes_append : (h : ℕ) (S : State) (a b : List Call)
    → outcomes_from h S (a ++ b) ≡ outcomes_from h S a ++ outcomes_from h (state_from h S a) b
unfolding outcomes_from state_from
outcomes_append h S [] b = refl
outcomes_append h S (c ∷ a) b = ap (λ (os : List Outcome). step h S c ∷ os) (outcomes_append h (step h S c).state a b)

outcomes_length : (h : ℕ) (S : State) (cs : List Call) → length (outcomes_from h S cs) ≡ length cs
unfolding outcomes_from
outcomes_length h S [] = refl
outcomes_length h S (c ∷ cs) = ap (λ (n : ℕ). suc n) (outcomes_length h (step h S c).state cs)

replies_of_outcomes : (h : ℕ) (S : State) (cs : List Call) → map reply (outcomes_from h S cs) ≡ replies_from h S cs
unfolding outcomes_from replies_from
replies_of_outcomes h S [] = refl
replies_of_outcomes h S (c ∷ cs) = ap (λ (rs : List Reply). reply (step h S c) ∷ rs) (replies_of_outcomes h (step h S c).state cs)

lines_append : (n : ℕ) (a b : List Record) (os more : List Outcome) → length os ≡ length a
    → lines_after n (a ++ b) (os ++ more) ≡ lines_after n a os ++ lines_after (n + length a) b more
unfolding lines_after
lines_append n [] b [] more e = rw add-zero
lines_append n [] b (o ∷ os) more e = absurd (omega arith)
lines_append n (r ∷ a) b [] more e = absurd (omega arith)
lines_append n (r ∷ a) b (o ∷ os) more e =
    let further : n + length (r ∷ a) ≡ n + 1 + length a = omega arith in
    rw (further, append_assoc, lines_append (n + 1) a b os more (omega arith))

lines_split : (h n : ℕ) (S : State) (before after : List Record) → length (calls_of (before ++ after)) ≡ length (before ++ after)
    → lines_after n (before ++ after) (outcomes_from h S (calls_of (before ++ after)))
    ≡ lines_after n before (outcomes_from h S (calls_of before))
    ++ lines_after (n + length before) after (outcomes_from h (state_from h S (calls_of before)) (calls_of after))
lines_split h n S before after e =
    rw (calls_append before after, outcomes_append h S (calls_of before) (calls_of after))
    (lines_append n before after _ _ (outcomes_length h S (calls_of before) ∙ one_call_each_before before after e))

-- ---- the promises

pub opens_low : (h : ℕ) → Opens h → Dec (h ≤ 12) → h ≤ 12
opens_low h accepted (yes low) = low
opens_low h accepted (no high) = absurd (omega (arith, accepted, ap (λ (o : Outcome). o.answer) (opening_too_high h vacant (omega arith))))

-- demand 3 for the states and the replies of two histories by other names
pub boxes_of_histories : (h : ℕ) (H₁ H₂ : History h) {S₁ S₂ : State} {replies₁ replies₂ : List Reply} → S₁ ≡ state_after h H₁ → S₂ ≡ state_after h H₂
    → replies₁ ≡ replies_of h H₁ → replies₂ ≡ replies_of h H₂ → Boxes h S₁ S₂ (book_of h H₁.calls replies₁) (book_of h H₂.calls replies₂)
boxes_of_histories h H₁ H₂ s₁ s₂ r₁ r₂ = rw (s₁, s₂, r₁, r₂) (demand_3 h H₁ H₂)

pub demand_3_of_listings : ListingsDemand3
demand_3_of_listings h accepted before₁ before₂ =
    let H₁ = history_of h accepted before₁ in
    let H₂ = history_of h accepted before₂ in
    boxes_of_histories h H₁ H₂ refl refl (replies_of_outcomes h _ H₁.calls) (replies_of_outcomes h _ H₂.calls)

pub promises_of_listing : PromisesOfListing
promises_of_listing journal h accepted before after last (Reading.record_then {next = next} e more) =
    let low = opens_low h accepted (dec_le h 12) in
    let each = one_call_each journal more (after_open journal h next (before ++ after) last e more) in
    let split = lines_split h 1 (open_reserve h vacant).state before after each in
    record {
      lines = listing_of_history journal h next (before ++ after) last e more low accepted
          ∙ ap (λ (l : List ℕ). l ++ last_line last) (ap (λ (l : List ℕ). open_line h ++ l) split ∙ sym (append_assoc (open_line h) _ _));
      box = (demand_3_of_listings h accepted before before).one;
    }
