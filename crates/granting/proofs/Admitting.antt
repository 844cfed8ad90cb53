-- Whom an admit grants, and what it leaves in the table and in the line.
use mathlib.Core.Path.{◌≡◌, refl, sym, ap, ◌∙◌}
use mathlib.Core.Bool.{Bool, true, false, not}
use mathlib.Core.List.{List, [], ◌∷◌, ◌++◌, map}
use mathlib.Core.Option.{some}
use Prim.Native.Nat.{ℕ, suc, ◌+◌, ◌-◌, ◌^◌, ◌≤◌, ◌<◌}
use native.Mathlib.Omega.{arith}
use borrow.Author.Tests.{ltb-true, ltb-false, lt-ltb, le-ltb, le-leb, lt-leb, leb-true, eq-eqb}
use lib.Dec.{ltb, leb}
use lib.ListN.{length, get_or, take, drop, length-append, length-drop}
use lib.Pow.{pow_mono}
use lib.Seq.{take_at, drop_at, length-take-le}
use Rattle.tree.specs.Node.{depth}
use Rattle.tree.proofs.Highest.{depth_highest}
use Rattle.line.specs.Line.{Waiting, line_of, at, waiting_in, waiting_count}
use Rattle.line.specs.Order.{waits, MayWait, Orderly, LineInOrder, line_in_order?}
use Rattle.line.specs.Changes.{InForm, once_more, leave, choose, place_of, place_chosen, front, without}
use Rattle.layout.specs.Layout.{pages}
use Rattle.table.specs.Table.{counts_of, in_order?}
use Rattle.line.proofs.Numbers.{length_standing, getD_waiting, read_of_line, length_in_form, count_in_form}
use Rattle.line.proofs.Ordered.{orderly_at, in_form, line_of_orderly}
use Rattle.line.proofs.Places.{waits_by_place, leave_by_place, withdraw_by_place, place_of_own, orderly_withdrawn}
use Rattle.line.proofs.Places.{chosen_is, chosen_fits, none_chosen}
use Rattle.rules.specs.Call.{grant_level}
use Rattle.rules.specs.Step.{Check, check, first, holdings, step as table_step}
use Rattle.rules.proofs.Checks.{Numbered, first_after_none, answer_is_first}
use Rattle.rules.proofs.Repeats.{never_repeats}
use Rattle.calls.proofs.Calling.{arguments, arguments_numbered}
use Rattle.admission.specs.Call.{State, admit}
use Rattle.admission.specs.Step.{refused, reserve_checks, fits, admission, step}
use Rattle.admission.specs.Value.{GivesAdmitted}
use Rattle.admission.specs.declared.Admitted.{Admitted}
use Rattle.admission.proofs.Arguments.{Lengths, lengths_passed, ordered, disorder_decides, rest_decides, disorder_of_line}
use Rattle.admission.proofs.Joining.{line_ordered}
use Rattle.calls.specs.declared.change.Look.{Look}
use Rattle.granting.specs.Inner.{Prepared}
use Rattle.plans.specs.Plan.{plan_of}
use Rattle.plans.specs.declared.Plan.{Plan}
use Rattle.table.proofs.Order.{in_order_iff, in_order_fits}
use Rattle.admission.specs.declared.Request.TheVariants.{Admit}
use Rattle.std.specs.Prelude.{Result, Ok, Err, None}
use Rattle.refusal.specs.declared.Refusal.{Refusal}
use Rattle.refusal.specs.declared.Refusal.TheVariants.{NotInOrder}
use Rattle.admission.proofs.Answering.{step_refused, step_accepted, admitted_same}

-- ---- the levels that fit beside p pages of H

module _ (p H : ℕ) (inside : p ≤ H) where
  -- those up to the highest one bit of what is free
  pub levels_fit : ¬ (H - p ≡ 0) → (l : ℕ) → ltb l (depth (H - p) + 1) ≡ leb (p + 2 ^ l) H
  levels_fit free l = go (ltb l (depth (H - p) + 1)) refl
    where
      go : (b : Bool) → ltb l (depth (H - p) + 1) ≡ b → b ≡ leb (p + 2 ^ l) H
      go true e =
          let d = depth (H - p) in
          let below : l ≤ d = omega (arith, ltb-true l (d + 1) e) in
          sym (le-leb (p + 2 ^ l) H (omega (arith, pow_mono below, (depth_highest (H - p) (omega arith)).low)))
      go false e =
          let d = depth (H - p) in
          let above : suc d ≤ l = omega (arith, ltb-false l (d + 1) e) in
          sym (lt-leb (p + 2 ^ l) H (omega (arith, pow_mono above, (depth_highest (H - p) (omega arith)).high)))

-- ---- the one at place k of a line in order

-- the one at place k is gone, and then those in front of it are changed
front_without : (f : Waiting → Waiting) (W : List Waiting) (k : ℕ) → k < length W → front f k (without k W) ≡ map f (take k W) ++ drop (suc k) W
front_without f W k p =
    let place : length (take k W) ≡ k = length-take-le k W (omega arith) in
    rw (take_at (take k W) (drop (suc k) W) k place, drop_at (take k W) (drop (suc k) W) k place)

module _ (h : ℕ) (T L : List ℕ) (o : LineInOrder h T L) (k : ℕ) (p : k < waiting_count L) where
  abbrev W : List Waiting
  W = waiting_in L

  abbrev t : ℕ
  t = (at L k).tenant

  inside : k < length W
  inside = omega (arith, length_standing L 0 (waiting_count L))

  own : get_or W k (at L k) ≡ at L k
  own = getD_waiting L k (at L k) p

  own_place : place_of t W ≡ k
  own_place = rw own at (place_of_own h T W o.orderly k (at L k) inside)

  may_wait : MayWait h T (at L k)
  may_wait = rw own at (orderly_at h T o.orderly k (at L k) inside)

  -- a grant of its level to it has passed 1 to 6
  pub chosen_arguments : h ≤ 12 → length T ≡ 4096 → first (arguments h T (grant_level t (at L k).level 7)) ≡ 0
  chosen_arguments low long =
      rw (
        le-ltb 12 h low,
        eq-eqb (length T) 4096 long,
        le-ltb 4095 t may_wait.tenant,
        le-ltb h (at L k).level may_wait.level,
      )

  pub place_bounds : (k < 64) × (length L ≡ 193)
  place_bounds = let form = in_form h T L o in (omega (arith, p, count_in_form L form), length_in_form L form)

  -- where its level fits, the table of a reserve in order grants it
  pub chosen_granted : h ≤ 12 → length T ≡ 4096 → in_order? h T ≡ true → fits h T (at L k).level ≡ true
      → (table_step h T (grant_level t (at L k).level 7)).answer ≡ 0
  chosen_granted low long table room =
      let c = grant_level t (at L k).level 7 in
      let needed = pages (counts_of h T) + 2 ^ (at L k).level in
      answer_is_first h T c
      ∙ first_after_none (arguments h T c) (check 7 (not (in_order? h T)) ∷ holdings h T c) (arguments_numbered h T c) (chosen_arguments low long)
      ∙ rw (
        table,
        never_repeats h T t (at L k).level may_wait.holds_none,
        may_wait.holds_none,
        le-ltb (2 ^ h) needed (leb-true needed (2 ^ h) room),
      )

  in_line : waits t W ≡ true
  in_line = waits_by_place t W ∙ rw own_place (lt-ltb k (length W) inside)

  length_without : suc (length (without k W)) ≡ length W
  length_without =
      omega (arith, length-append (take k W) (drop (suc k) W), length-take-le k W (omega (arith, inside)), length-drop (suc k) W, inside)

  gone : leave (λ w. w) t W ≡ without k W
  gone = withdraw_by_place t W in_line ∙ ap (λ (j : ℕ). without j W) own_place

  module _ (L₁ : List ℕ) (e : L₁ ≡ line_of (without k W)) where
    pub form_without : InForm L₁
    form_without =
        let few : length (without k W) ≤ 64 = omega (arith, length_without, o.few) in
        let orderly : Orderly h T (without k W) = rw gone at (orderly_withdrawn h T t W o.orderly) in
        rw e (in_form h T (line_of (without k W)) (line_of_orderly h T (without k W) few orderly))

    pub place_without : k ≤ waiting_count L₁
    unfolding line_of
    place_without = rw e (omega (arith, length_without, inside))

    -- those in front of it are passed, as if it left
    pub front_passed : line_of (front once_more k (waiting_in L₁)) ≡ line_of (leave once_more t W)
    front_passed =
        ap line_of
        (ap (front once_more k) (ap waiting_in e ∙ read_of_line (without k W))
        ∙ front_without once_more W k inside
        ∙ sym (leave_by_place once_more t W in_line ∙ ap (λ (j : ℕ). map once_more (take j W) ++ drop (suc j) W) own_place))

-- ---- an admit that its arguments leave to the table and the line

abbrev admit_arguments : ℕ → State → ℕ → List Check
admit_arguments h S m = reserve_checks h S ++ check 3 (ltb m 4) ∷ []

admit_numbered : (h : ℕ) (S : State) (m : ℕ) → Numbered (admit_arguments h S m)
admit_numbered h S m = (omega arith, (omega arith, (omega arith, (omega arith, tt))))

module _ (h : ℕ) (S : State) (m : ℕ) (passed : first (admit_arguments h S m) ≡ 0) where
  admit_lengths : Lengths h (length S.table) (length S.line)
  admit_lengths = lengths_passed h (length S.table) (length S.line) (check 3 (ltb m 4) ∷ []) passed

  module _ (e : ordered h S ≡ true) where
    admit_chooses : admission h S m (choose (fits h S.table) (waiting_in S.line)) ≡ step h S (admit m)
    admit_chooses = step_accepted h S (admit m) (sym (rest_decides h S (admit_arguments h S m) [] (admit_numbered h S m) passed e))

    -- n levels fit, and the one chosen among them stands at place k
    module _ (n : ℕ) (levels : (l : ℕ) → ltb l n ≡ fits h S.table l) (k : ℕ) (place : k ≡ place_chosen (λ l. ltb l n) (waiting_in S.line)) where
      chosen_by_levels : choose (λ l. ltb l n) (waiting_in S.line) ≡ choose (fits h S.table) (waiting_in S.line)
      chosen_by_levels = ap (λ (f : ℕ → Bool). choose f (waiting_in S.line)) (λ i l. levels l i)

      nobody_chosen : waiting_count S.line ≤ k → refused 0 S ≡ step h S (admit m)
      nobody_chosen behind =
          let W = waiting_in S.line in
          let none_there = (none_chosen (λ l. ltb l n) W (λ p. omega (arith, p, length_standing S.line 0 (waiting_count S.line)))).1 in
          ap (admission h S m) (sym none_there ∙ chosen_by_levels) ∙ admit_chooses

      one_fits : k < waiting_count S.line → fits h S.table (at S.line k).level ≡ true
      one_fits p =
          let W = waiting_in S.line in
          let w = at S.line k in
          let inside : place_chosen (λ l. ltb l n) W < length W = omega (arith, place, length_standing S.line 0 (waiting_count S.line)) in
          let own : get_or W (place_chosen (λ l. ltb l n) W) w ≡ w = rw (← place, getD_waiting S.line k w p) in
          sym (levels w.level) ∙ rw own at (chosen_fits (λ l. ltb l n) W inside w)

      one_chosen : k < waiting_count S.line → admission h S m (some (at S.line k)) ≡ step h S (admit m)
      one_chosen p =
          let W = waiting_in S.line in
          let w = at S.line k in
          let inside : place_chosen (λ l. ltb l n) W < length W = omega (arith, place, length_standing S.line 0 (waiting_count S.line)) in
          let chosen : choose (λ l. ltb l n) W ≡ some w = chosen_is (λ l. ltb l n) W inside w ∙ rw (← place, getD_waiting S.line k w p) in
          ap (admission h S m) (sym chosen ∙ chosen_by_levels) ∙ admit_chooses

-- ---- what an admit hands back

module _ (h : ℕ) (S : State) (look : Look) (r : Prepared h S Admit look) where
  lengths : Lengths h (length S.table) (length S.line)
  lengths = admit_lengths h S 7 r.arguments

  -- refusal 7 for the line
  pub disorder_given : line_in_order? h S.table S.line ≡ false → GivesAdmitted (step h S (admit 7)) (Err NotInOrder) S.table S.line
  disorder_given e =
      let out = disorder_decides h S (admit_arguments h S 7) [] (admit_numbered h S 7) r.arguments (disorder_of_line h S e) in
      admitted_same (record { answer = refl; node = refl; named = refl; plan = refl; state = refl }) (step_refused h S (admit 7) NotInOrder out)

  pub pages_fit : (h ≤ 12) × (pages look.counts.at ≤ 2 ^ h)
  pages_fit =
      let low = lengths.height in
      (low, rw r.looked.counts (in_order_fits h S.table low ((in_order_iff h S.table low).0 r.looked.in_order)))

  module _ (line : line_in_order? h S.table S.line ≡ true) where
    both : ordered h S ≡ true
    both = rw (r.looked.in_order, line)

    pub line_to_admit : LineInOrder h S.table S.line
    line_to_admit = line_ordered h S lengths.numbers both

    -- n levels have room, and the one chosen among them stands at place k
    module _ (n : ℕ) (levels : (l : ℕ) → ltb l n ≡ leb (pages look.counts.at + 2 ^ l) (2 ^ h))
        (k : ℕ) (place : k ≡ place_chosen (λ l. ltb l n) (waiting_in S.line)) where
      fitting : (l : ℕ) → ltb l n ≡ fits h S.table l
      fitting l = levels l ∙ ap (λ (ds : List ℕ). leb (pages ds + 2 ^ l) (2 ^ h)) r.looked.counts

      pub nobody_given : waiting_count S.line ≤ k → {p : Plan} → p ≡ plan_of []
          → GivesAdmitted (step h S (admit 7)) (Ok (record { tenant = None; node = 0; plan = p })) S.table S.line
      nobody_given behind no_moves =
          admitted_same (record { answer = refl; node = refl; named = refl; plan = no_moves; state = refl })
          (nobody_chosen h S 7 r.arguments both n fitting k place behind)

      module _ (there : k < waiting_count S.line) where
        pub fits_there : fits h S.table (at S.line k).level ≡ true
        fits_there = one_fits h S 7 r.arguments both n fitting k place there

        pub one_given : {q : Result Admitted Refusal} {T' L' : List ℕ} → GivesAdmitted (admission h S 7 (some (at S.line k))) q T' L'
            → GivesAdmitted (step h S (admit 7)) q T' L'
        one_given g = admitted_same g (one_chosen h S 7 r.arguments both n fitting k place there)
