-- A direct call behind a line: what the line decides of a grant, and that the table decides the rest.
use mathlib.Core.Path.{◌≡◌, refl, sym, ap, subst, ◌∙◌}
use mathlib.Core.Bool.{Bool, true, false, not, cond, ◌||◌}
use mathlib.Core.List.{List, [], ◌∷◌, ◌++◌, map, append-nil}
use mathlib.Core.Logic.{◌⊎◌, inl, inr}
use mathlib.Core.Option.{none}
use Prim.Native.Nat.{ℕ}
use Rattle.std.specs.Prelude.{Result, Err}
use Rattle.refusal.specs.declared.Refusal.{Refusal}
use Rattle.refusal.specs.Number.{number_of, number_in}
use native.Mathlib.Omega.{arith}
use borrow.Author.Tests.{eqb-true, eq-eqb, ltb-false}
use lib.Dec.{eqb, ltb}
use lib.ListN.{length}
use lib.Seq.{take-length, drop-length}
use Rattle.table.specs.Table.{node_at, in_order?}
use Rattle.line.specs.Line.{Waiting, line_of, waiting_count, waiting_in}
use Rattle.line.specs.Order.{waits, line_in_order?}
use Rattle.line.specs.Changes.{InForm, barred, once_more, front}
use Rattle.line.proofs.Numbers.{length_standing}
use Rattle.line.proofs.Ordered.{decides_line, in_form}
use Rattle.rules.specs.Call.{Call as Direct, tenant_of}
use Rattle.rules.specs.Step.{Outcome as TableOutcome, Check, check, first, validity, repeats, block_checks}
use Rattle.rules.specs.Step.{grant_holdings as table_holdings, holdings}
use Rattle.rules.specs.Step.{checks as table_checks, accepted as table_accepted, step as table_step}
use Rattle.calls.specs.Changes.{change_on}
use Rattle.rules.specs.Demand.{Asks, by_level, by_pages, releases, grows}
use Rattle.rules.specs.Value.{call_of, Gives as TableGives}
use Rattle.rules.specs.declared.Call.{Call as Arguments}
use Rattle.rules.specs.declared.Call.TheVariants.{GrantLevel, GrantPages, Release, Grow}
use Rattle.rules.specs.declared.Done.{Done}
use Rattle.rules.proofs.Checks.{Numbered, validity_numbered, first_after_none, not_applied, answer_is_first}
use Rattle.calls.proofs.Calling.{arguments, arguments_numbered, same_tenant, changes}
use Rattle.rules.proofs.Cases.{both_zero}
use Rattle.rules.proofs.Answers.{asked_holdings}
use Rattle.rules.proofs.Given.{gives_same as table_same}
use Rattle.rules.proofs.Repeats.{never_repeats}
use Rattle.admission.specs.Call.{State, Call, direct}
use Rattle.admission.specs.Step.{lent_checks, Outcome, reserve_checks, order_check, no_room, grant_holdings, checks}
use Rattle.admission.specs.Step.{with_line, line_behind, line_after, unless, step}
use Rattle.admission.specs.Value.{lent, Gives}
use Rattle.admission.specs.Inner.{argument_checks}
use Rattle.admission.specs.declared.Request.TheVariants as Request
use Rattle.granting.specs.Inner.{line_checks, line_number, Unopposed}
use Rattle.admission.proofs.Direct.{unless_with_line, release_alone, growth_alone, grant_asks, grant_line}
use Rattle.admission.proofs.Answering.{step_refused}
use Rattle.admission.proofs.Arguments.{lent_numbered, Lengths, lengths_passed, lengths_tested_again}
use Rattle.admission.proofs.Arguments.{ordered, disorder_decides, rest_decides}

-- ---- what the table does, with a line beside it

pub gives_with_line : {o : TableOutcome} {r : Result Done Refusal} {T : List ℕ} (L : List ℕ) → TableGives o r T → Gives (with_line o none L) r T L
gives_with_line L g = record { answer = g.answer; node = g.node; plan = g.plan; state = ap (λ (T : List ℕ). lent T L) g.table }

pub gives_same : {o o' : Outcome} {r : Result Done Refusal} {T L : List ℕ} → Gives o r T L → o ≡ o' → Gives o' r T L
gives_same {r = r} {T = T} {L = L} g e = subst (λ (p : Outcome). Gives p r T L) e g

-- a refusal leaves table and line as they were
pub refusal_given : (h : ℕ) (S : State) (c : Call) (e : Refusal) → number_of e ≡ first (checks h S c) → Gives (step h S c) (Err e) S.table S.line
refusal_given h S c e is = gives_same (record { answer = refl; node = refl; plan = refl; state = refl }) (step_refused h S c e is)

-- a call whose arguments have passed, settled on a table in order, does what the table's call does
pub settled : (h : ℕ) (T : List ℕ) (c : Arguments) (m : ℕ) → first (arguments h T (call_of c m)) ≡ 0
    → {r : Result Done Refusal} {T' : List ℕ} → TableGives (change_on h T (call_of c 0)) r T' → TableGives (table_step h T (call_of c m)) r T'
settled h T c m passed g = table_same g (changes h T c m passed)

-- a release and a growth leave the line alone
pub alone_given : (h : ℕ) (T L : List ℕ) (d : Arguments) → ((t : ℕ) × (d ≡ Release t)) ⊎ ((t : ℕ) × (l : ℕ) × (d ≡ Grow t l))
    → first (argument_checks h (length T) (length L) (Request.Direct d) 7) ≡ 0 → {r : Result Done Refusal} {T' : List ℕ}
    → TableGives (change_on h T (call_of d 0)) r T' → Gives (step h (lent T L) (direct (call_of d 7))) r T' L
alone_given h T L d (inl p) passed g =
    let done = settled h T d 7 (rw p.1 (rw p.1 at passed)) g in
    gives_same (gives_with_line L done) (sym (release_alone h (lent T L) (call_of d 7) (rw p.1 releases)))
alone_given h T L d (inr p) passed g =
    let done = settled h T d 7 (rw p.2 (rw p.2 at passed)) g in
    gives_same (gives_with_line L done) (sym (growth_alone h (lent T L) (call_of d 7) p.1 (rw p.2 grows)))

-- and a grant asks for a level
pub grant_level_asked : (h : ℕ) (d : Arguments) → ((t : ℕ) × (l : ℕ) × (d ≡ GrantLevel t l)) ⊎ ((t : ℕ) × (p : ℕ) × (d ≡ GrantPages t p))
    → (x : ℕ) × Asks h (call_of d 7) x
grant_level_asked h d (inl p) = rw p.2 (p.1, by_level)
grant_level_asked h d (inr p) = rw p.2 (_, by_pages)

-- ---- which number a grant answers

-- where the line alone refuses one that holds nothing, so do the line and the table's room
line_first : (w b full : Bool) (k : ℕ) → k ≡ first (check 18 w ∷ check 10 b ∷ []) → ¬ (k ≡ 0) → k ≡ first (check 18 w ∷ check 10 (b || full) ∷ [])
line_first true b full k e found = e
line_first false true full k e found = e
line_first false false full k e found = absurd (found e)

-- where the line has nothing against one that holds nothing, a grant's checks are those without a line
line_none : (again holds w b full : Bool) → (holds ≡ false → first (check 18 w ∷ check 10 b ∷ []) ≡ 0)
    → first (cond again [] (check 8 holds ∷ check 18 w ∷ check 10 (b || full) ∷ [])) ≡ first (cond again [] (check 8 holds ∷ check 10 full ∷ []))
line_none true holds w b full clear = refl
line_none false true w b full clear = refl
line_none false false true b full clear = absurd (omega (arith, clear refl))
line_none false false false true full clear = absurd (omega (arith, clear refl))
line_none false false false false full clear = refl

abbrev asked : ℕ → State → Direct → List Check
asked h S c = reserve_checks h S ++ validity h c

module _ (h : ℕ) (S : State) (c : Direct) (passed : first (asked h S c) ≡ 0) where
  arguments_lengths : Lengths h (length S.table) (length S.line)
  arguments_lengths = lengths_passed h (length S.table) (length S.line) (validity h c) passed

  pub form_of_line : line_in_order? h S.table S.line ≡ true → InForm S.line
  form_of_line line = in_form h S.table S.line ((decides_line h S.table S.line arguments_lengths.numbers).0 line)

module _ (h : ℕ) (S : State) (c : Direct) (asks : (l : ℕ) × Asks h c l) where
  abbrev l : ℕ
  l = asks.0

  abbrev a : Asks h c l
  a = asks.1

  asked_numbered : Numbered (asked h S c)
  asked_numbered = (omega arith, (omega arith, (omega arith, validity_numbered h c)))

  in_parts : first (asked h S c ++ order_check h S ∷ grant_holdings h S (tenant_of c) l) ≡ first (checks h S (direct c))
  in_parts = ap first (sym (grant_asks h S c l a))

  module _ (passed : first (asked h S c) ≡ 0) where
    -- 7
    pub first_of_disorder : ordered h S ≡ false → 7 ≡ first (checks h S (direct c))
    first_of_disorder e = disorder_decides h S (asked h S c) (grant_holdings h S (tenant_of c) l) asked_numbered passed e ∙ in_parts

    module _ (line : line_in_order? h S.table S.line ≡ true) where
      module _ (table : in_order? h S.table ≡ true) where
        pub first_of_holdings : first (checks h S (direct c)) ≡ first (grant_holdings h S (tenant_of c) l)
        first_of_holdings =
            sym in_parts ∙ rest_decides h S (asked h S c) (grant_holdings h S (tenant_of c) l) asked_numbered passed (rw (table, line))

        -- 18 or 10 where the line has it
        pub first_of_line : (k : ℕ) → k ≡ line_number S (tenant_of c) → ¬ (k ≡ 0) → k ≡ first (checks h S (direct c))
        first_of_line k = go (eqb (node_at S.table (tenant_of c)) 0) refl
          where
            go : (z : Bool) → eqb (node_at S.table (tenant_of c)) 0 ≡ z
                → k ≡ cond z (first (line_checks (tenant_of c) (waiting_in S.line))) 0 → ¬ (k ≡ 0) → k ≡ first (checks h S (direct c))
            go true q e found =
                let nothing = eqb-true (node_at S.table (tenant_of c)) 0 q in
                let W = waiting_in S.line in
                line_first (waits (tenant_of c) W) (barred W) (no_room h S.table l) k e found
                ∙ sym (first_of_holdings ∙ rw (never_repeats h S.table (tenant_of c) l nothing, nothing))
            go false q e found = absurd (found e)

  -- ---- a grant that the line does not refuse

  module _ (table : in_order? h S.table ≡ true) (u : Unopposed h S c) where
    abbrev number : ℕ
    number = first (table_checks h S.table c)

    pub arguments_pass : first (arguments h S.table c) ≡ 0
    arguments_pass =
        let n = length S.table in
        let m = length S.line in
        lengths_tested_again h n m (validity h c) (both_zero (lent_checks h n m) (validity h c) (lent_numbered h n m) u.arguments).0
        ∙ u.arguments

    -- past its arguments, the table decides
    by_table : number ≡ first (table_holdings h S.table (tenant_of c) l)
    by_table =
        let T = S.table in
        first_after_none (arguments h T c) (check 7 (not (in_order? h T)) ∷ holdings h T c) (arguments_numbered h T c) arguments_pass
        ∙ ap (λ (cs : List Check). first (check 7 (not (in_order? h T)) ∷ cs)) (asked_holdings h T c l a)
        ∙ rw table

    same_number : first (checks h S (direct c)) ≡ number
    same_number =
        let T = S.table in
        let t = tenant_of c in
        let W = waiting_in S.line in
        first_of_holdings u.arguments u.line table
        ∙ line_none (repeats h T t l) (ltb 0 (node_at T t)) (waits t W) (barred W) (no_room h T l)
        (λ q. rw (eq-eqb (node_at T t) 0 (omega (arith, ltb-false 0 (node_at T t) q))) at u.clear)
        ∙ sym by_table

    -- so a grant does to the table what it does without a line, and the line is L' afterwards if it is so where it is done and where it is refused
    beside : (L' : List ℕ) → (number ≡ 0 → line_after h S c ≡ L') → (¬ (number ≡ 0) → S.line ≡ L')
        → step h S (direct c) ≡ with_line (table_step h S.table c) none L'
    unfolding step table_step
    beside L' done stays =
        ap (λ (n : ℕ). unless n S (with_line (table_accepted h S.table c) none (line_after h S c))) same_number
        ∙ unless_with_line number S (table_accepted h S.table c) (line_after h S c) L' done stays

    -- a refused one leaves the line as it was
    pub refused_beside : ¬ (number ≡ 0) → step h S (direct c) ≡ with_line (table_step h S.table c) none S.line
    refused_beside found = beside S.line (λ z. absurd (found z)) (λ _. refl)

    -- so does one to a holder, which is refused or a repeated one
    pub holder_beside : ¬ (node_at S.table (tenant_of c) ≡ 0) → step h S (direct c) ≡ with_line (table_step h S.table c) none S.line
    holder_beside holds = beside S.line (λ z. grant_line h S c l a ∙ go (repeats h T t l) (sym by_table ∙ z)) (λ _. refl)
      where
        T : List ℕ
        T = S.table

        t : ℕ
        t = tenant_of c

        go : (b : Bool) → first (cond b [] (block_checks h T t l)) ≡ 0 → line_behind b S.line ≡ S.line
        go true z = refl
        go false z =
            let free = not_applied 8 (ltb 0 (node_at T t)) (check 10 (no_room h T l) ∷ []) (omega arith) z in
            absurd (holds (omega (arith, ltb-false 0 (node_at T t) free)))

    -- one that gives a block passes everybody
    pub block_beside : node_at S.table (tenant_of c) ≡ 0 → number ≡ 0
        → step h S (direct c) ≡ with_line (table_step h S.table c) none (line_of (map once_more (waiting_in S.line)))
    block_beside nothing passed =
        beside (line_of (map once_more (waiting_in S.line)))
        (λ _. grant_line h S c l a ∙ rw (never_repeats h S.table (tenant_of c) l nothing)) (λ found. absurd (found passed))

-- everybody in line passed once more
front_of_all : (W : List Waiting) (n : ℕ) → n ≡ length W → front once_more n W ≡ map once_more W
front_of_all W n e = rw (e, take-length W, drop-length W) (append-nil (map once_more W))

passed_all : (L : List ℕ) → front once_more (waiting_count L) (waiting_in L) ≡ map once_more (waiting_in L)
passed_all L = front_of_all (waiting_in L) (waiting_count L) (sym (length_standing L 0 (waiting_count L)))

-- what it hands back, by what the table's call does
module _ (h : ℕ) (T L : List ℕ) (d : Arguments) (asks : (l : ℕ) × Asks h (call_of d 7) l) (table : in_order? h T ≡ true)
    (u : Unopposed h (lent T L) (call_of d 7)) {r : Result Done Refusal} {T' : List ℕ} (g : TableGives (change_on h T (call_of d 0)) r T') where
  abbrev t : ℕ
  t = tenant_of (call_of d 0)

  done : TableGives (table_step h T (call_of d 7)) r T'
  done = settled h T d 7 (arguments_pass h (lent T L) (call_of d 7) asks table u) g

  answered : number_in r ≡ first (table_checks h T (call_of d 7))
  answered = done.answer ∙ answer_is_first h T (call_of d 7)

  pub refused_given : ¬ (number_in r ≡ 0) → Gives (step h (lent T L) (direct (call_of d 7))) r T' L
  refused_given found =
      gives_same (gives_with_line L done) (sym (refused_beside h (lent T L) (call_of d 7) asks table u (λ z. found (answered ∙ z))))

  pub holder_given : ¬ (node_at T t ≡ 0) → Gives (step h (lent T L) (direct (call_of d 7))) r T' L
  holder_given holds =
      gives_same (gives_with_line L done)
      (sym (holder_beside h (lent T L) (call_of d 7) asks table u (λ z. holds (ap (node_at T) (sym (same_tenant h T 7 d)) ∙ z))))

  pub block_given : node_at T t ≡ 0 → number_in r ≡ 0 → {L' : List ℕ} → L' ≡ line_of (front once_more (waiting_count L) (waiting_in L))
      → Gives (step h (lent T L) (direct (call_of d 7))) r T' L'
  block_given nothing passed {L'} e =
      gives_same (gives_with_line L' done)
      (ap (with_line (table_step h T (call_of d 7)) none) (e ∙ ap line_of (passed_all L))
      ∙ sym (block_beside h (lent T L) (call_of d 7) asks table u (ap (node_at T) (same_tenant h T 7 d) ∙ nothing) (sym answered ∙ passed)))
