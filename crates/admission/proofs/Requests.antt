-- A request: what its arguments decide, that seven entries serve as well as any that it takes, and what it hands back by its kind.
use mathlib.Core.Path.{◌≡◌, refl, sym, ap, ◌∙◌}
use mathlib.Core.Bool.{false, not}
use mathlib.Core.List.{List, [], ◌∷◌, ◌++◌}
use mathlib.Core.Option.{Option, some, none}
use Prim.Native.Nat.{ℕ, zero, suc, ◌≤◌}
use Rattle.std.specs.Prelude.{Result, Ok, Err, None}
use Rattle.refusal.specs.declared.Refusal.{Refusal}
use native.Mathlib.Omega.{arith}
use borrow.Author.Tests.{le-ltb, ltb-false, eqb-true, not-false}
use lib.Dec.{eqb, ltb}
use lib.ListN.{length}
use Rattle.table.specs.Table.{in_order?}
use Rattle.sizes.specs.Level.{level_for}
use Rattle.line.specs.Line.{Waiting, waiting_in}
use Rattle.line.specs.Changes.{choose}
use Rattle.rules.specs.Call.{Call as TableCall, least_entries as least_of, entries_of}
use Rattle.rules.specs.Step.{Check, check, first, length_checks, validity, holdings}
use Rattle.rules.specs.Step.{step as table_step}
use Rattle.rules.specs.Value.{call_of}
use Rattle.rules.specs.declared.Call.{Call}
use Rattle.rules.specs.declared.Call.TheVariants.{GrantLevel, GrantPages, Release, Grow}
use Rattle.rules.specs.declared.Done.{Done}
use Rattle.rules.proofs.Cases.{both_zero}
use Rattle.rules.proofs.Checks.{Numbered, validity_numbered, first_after_none, not_applied, rest_zero, height_passed, valid_entries}
use Rattle.admission.proofs.Demand.{unnamed}
use Rattle.admission.specs.Call.{State, direct, admit}
use Rattle.admission.specs.Step.{lent_checks, order_check, grant_holdings, checks, fits, admission, Outcome, unless, step}
use Rattle.admission.specs.Value.{requested, least_entries, Gives, GivesAdmitted}
use Rattle.admission.specs.Inner.{argument_checks}
use Rattle.admission.specs.declared.Admitted.{Admitted}
use Rattle.admission.specs.declared.Request.{Request}
use Rattle.admission.specs.declared.Request.TheVariants.{Direct, Admit}
use Rattle.admission.proofs.Arguments.{found_first, lent_numbered}
use Rattle.admission.proofs.Answering.{admitted_same}

-- ---- the arguments, and what follows them

module _ (h : ℕ) (S : State) (m : ℕ) where
  abbrev asked : Request → List Check
  asked q = argument_checks h (length S.table) (length S.line) q m

  -- 7 and what comes after it
  abbrev rest : Request → List Check
  rest (Direct (GrantLevel t l)) = order_check h S ∷ grant_holdings h S t l
  rest (Direct (GrantPages t p)) = order_check h S ∷ grant_holdings h S t (level_for h p)
  rest (Direct (Release t)) = check 7 (not (in_order? h S.table)) ∷ holdings h S.table (call_of (Release t) m)
  rest (Direct (Grow t l)) = check 7 (not (in_order? h S.table)) ∷ holdings h S.table (call_of (Grow t l) m)
  rest Admit = order_check h S ∷ []

  in_parts : (q : Request) → first (asked q ++ rest q) ≡ first (checks h S (requested q m))
  in_parts (Direct (GrantLevel t l)) = refl
  in_parts (Direct (GrantPages t p)) = refl
  in_parts (Direct (Release t)) = refl
  in_parts (Direct (Grow t l)) = refl
  in_parts Admit = refl

  lengths_numbered : (c : TableCall) → Numbered (length_checks h (length S.table) ++ validity h c)
  lengths_numbered c = (omega arith, (omega arith, validity_numbered h c))

  both_numbered : (c : TableCall) → Numbered (lent_checks h (length S.table) (length S.line) ++ validity h c)
  both_numbered c = (omega arith, (omega arith, (omega arith, validity_numbered h c)))

  numbered : (q : Request) → Numbered (asked q)
  numbered (Direct (GrantLevel t l)) = both_numbered (call_of (GrantLevel t l) m)
  numbered (Direct (GrantPages t p)) = both_numbered (call_of (GrantPages t p) m)
  numbered (Direct (Release t)) = lengths_numbered (call_of (Release t) m)
  numbered (Direct (Grow t l)) = lengths_numbered (call_of (Grow t l) m)
  numbered Admit = (omega arith, (omega arith, (omega arith, (omega arith, tt))))

  -- 1 to 6
  pub first_of_request : (q : Request) (k : ℕ) → k ≡ first (asked q) → ¬ (k ≡ 0) → k ≡ first (checks h S (requested q m))
  first_of_request q k e found = found_first (asked q) (rest q) k e found ∙ in_parts q

  -- 7 where the table is not in order
  seven_first : (q : Request) → in_order? h S.table ≡ false → 7 ≡ first (rest q)
  seven_first (Direct (GrantLevel t l)) e = rw e
  seven_first (Direct (GrantPages t p)) e = rw e
  seven_first (Direct (Release t)) e = rw e
  seven_first (Direct (Grow t l)) e = rw e
  seven_first Admit e = rw e

  pub disorder_of_request : (q : Request) → first (asked q) ≡ 0 → in_order? h S.table ≡ false → 7 ≡ first (checks h S (requested q m))
  disorder_of_request q passed e = seven_first q e ∙ sym (first_after_none (asked q) (rest q) (numbered q) passed) ∙ in_parts q

-- ---- what the arguments tell

-- 1 and 2 of the table have passed
table_lengths : (h n : ℕ) (cs : List Check) → first (length_checks h n ++ cs) ≡ 0 → (h ≤ 12) × (n ≡ 4096)
table_lengths h n cs e =
    let short = not (eqb n 4096) in
    let second = rest_zero 1 (ltb 12 h) (check 2 short ∷ cs) (omega arith) e in
    (height_passed h (check 2 short ∷ cs) e, eqb-true n 4096 (not-false (eqb n 4096) (not_applied 2 short cs (omega arith) second)))

pub passed_lengths : (h n k m : ℕ) (q : Request) → first (argument_checks h n k q m) ≡ 0 → (h ≤ 12) × (n ≡ 4096)
passed_lengths h n k m (Direct (GrantLevel t l)) e = table_lengths h n (check 2 (not (eqb k 193)) ∷ validity h (call_of (GrantLevel t l) m)) e
passed_lengths h n k m (Direct (GrantPages t p)) e = table_lengths h n (check 2 (not (eqb k 193)) ∷ validity h (call_of (GrantPages t p) m)) e
passed_lengths h n k m (Direct (Release t)) e = table_lengths h n (validity h (call_of (Release t) m)) e
passed_lengths h n k m (Direct (Grow t l)) e = table_lengths h n (validity h (call_of (Grow t l) m)) e
passed_lengths h n k m Admit e = table_lengths h n (check 2 (not (eqb k 193)) ∷ check 3 (ltb m 4) ∷ []) e

-- ---- seven entries

-- what an admit grants does not depend on the entries, if there are as many as a grant takes
chosen_enough : (h : ℕ) (S : State) (m n : ℕ) (w : Option Waiting) → 4 ≤ m → unless n S (admission h S 7 w) ≡ unless n S (admission h S m w)
unfolding table_step
chosen_enough h S m zero none q = refl
chosen_enough h S m zero (some w) q = rw (le-ltb m 4 q)
chosen_enough h S m (suc n) w q = refl

-- as many entries as the call takes, or more, change nothing
pub seven_enough : (h : ℕ) (S : State) (c : Request) (m : ℕ) → least_entries c ≤ m → step h S (requested c 7) ≡ step h S (requested c m)
unfolding step
seven_enough h S (Direct (GrantLevel t l)) m q = rw (le-ltb m 4 q)
seven_enough h S (Direct (GrantPages t p)) m q = rw (le-ltb m 4 q)
seven_enough h S (Direct (Release t)) m q = rw (le-ltb m 4 q)
seven_enough h S (Direct (Grow t l)) m q = rw (le-ltb m 7 q)
seven_enough h S Admit m q =
    chosen_enough h S m (first (checks h S (admit 7))) (choose (fits h S.table) (waiting_in S.line)) q ∙ rw (le-ltb m 4 q)

module _ (h n k m : ℕ) where
  -- 3 is among the checks of the arguments
  lent_enough : (c : TableCall) → first (lent_checks h n k ++ validity h c) ≡ 0 → least_of c ≤ entries_of c
  lent_enough c e = valid_entries h c (both_zero (lent_checks h n k) (validity h c) (lent_numbered h n k) e).1

  table_enough : (c : TableCall) → first (length_checks h n ++ validity h c) ≡ 0 → least_of c ≤ entries_of c
  table_enough c e = valid_entries h c (both_zero (length_checks h n) (validity h c) (omega arith, (omega arith, tt)) e).1

  pub passed_enough : (q : Request) → first (argument_checks h n k q m) ≡ 0 → least_entries q ≤ m
  passed_enough (Direct (GrantLevel t l)) e = lent_enough (call_of (GrantLevel t l) m) e
  passed_enough (Direct (GrantPages t p)) e = lent_enough (call_of (GrantPages t p) m) e
  passed_enough (Direct (Release t)) e = table_enough (call_of (Release t) m) e
  passed_enough (Direct (Grow t l)) e = table_enough (call_of (Grow t l) m) e
  passed_enough Admit e =
      let last = (both_zero (lent_checks h n k) (check 3 (ltb m 4) ∷ []) (lent_numbered h n k) e).1 in
      ltb-false m 4 (not_applied 3 (ltb m 4) [] (omega arith) last)

  pub passed_with_seven : (q : Request) → first (argument_checks h n k q m) ≡ 0 → first (argument_checks h n k q 7) ≡ 0
  passed_with_seven (Direct (GrantLevel t l)) e = rw (le-ltb m 4 (passed_enough (Direct (GrantLevel t l)) e)) at e
  passed_with_seven (Direct (GrantPages t p)) e = rw (le-ltb m 4 (passed_enough (Direct (GrantPages t p)) e)) at e
  passed_with_seven (Direct (Release t)) e = rw (le-ltb m 4 (passed_enough (Direct (Release t)) e)) at e
  passed_with_seven (Direct (Grow t l)) e = rw (le-ltb m 7 (passed_enough (Direct (Grow t l)) e)) at e
  passed_with_seven Admit e = rw (le-ltb m 4 (passed_enough Admit e)) at e

-- ---- what is handed back, by the kind of request

-- what a direct call reports, which names nobody
abbrev pub naming_nobody : Result Done Refusal → Result Admitted Refusal
naming_nobody (Ok d) = Ok (record { tenant = None; node = d.node; plan = d.plan })
naming_nobody (Err e) = Err e

nobody_named : {o : Outcome} (r : Result Done Refusal) {T L : List ℕ} → o.named ≡ none → Gives o r T L → GivesAdmitted o (naming_nobody r) T L
nobody_named (Ok d) none_named g = record { answer = g.answer; node = g.node; named = sym none_named; plan = g.plan; state = g.state }
nobody_named (Err e) none_named g = record { answer = g.answer; node = g.node; named = sym none_named; plan = g.plan; state = g.state }

module _ (h : ℕ) (S : State) (q : Request) (m : ℕ) (enough : least_entries q ≤ m) {T' L' : List ℕ} where
  pub direct_given : (c : Call) (r : Result Done Refusal) → q ≡ Direct c → Gives (step h S (direct (call_of c 7))) r T' L'
      → GivesAdmitted (step h S (requested q m)) (naming_nobody r) T' L'
  direct_given c r is g =
      admitted_same (nobody_named r (unnamed h S (call_of c 7)) g)
      (ap (λ (r : Request). step h S (requested r 7)) (sym is) ∙ seven_enough h S q m enough)

  pub admit_given : {r : Result Admitted Refusal} → q ≡ Admit → GivesAdmitted (step h S (admit 7)) r T' L'
      → GivesAdmitted (step h S (requested q m)) r T' L'
  admit_given is g = admitted_same g (ap (λ (r : Request). step h S (requested r 7)) (sym is) ∙ seven_enough h S q m enough)
