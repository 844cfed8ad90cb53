-- Demand 2 of every call on every table and line: a refusal leaves everything, and an accepted call does to the table what the same call does without
-- a line.
use mathlib.Core.Path.{◌≡◌, refl, sym, ap, subst, ◌∙◌}
use mathlib.Core.Bool.{Bool, true, false, false≢true}
use mathlib.Core.List.{List, [], ◌∷◌, ◌++◌, map}
use mathlib.Core.Option.{Option, some, none}
use Prim.Native.Nat.{ℕ, zero, suc, ◌≤◌, ◌<◌, zero-le}
use native.Mathlib.Omega.{arith}
use native.Mathlib.Decide.{dec_lt, ℕ_discrete}
use borrow.Author.Tests.{ltb-false, eq-eqb}
use lib.Dec.{ltb}
use lib.ListN.{length, length-map}
use Rattle.tree.specs.Node.{level}
use Rattle.tree.proofs.Sets.{both_left, both_right}
use Rattle.table.specs.Table.{node_at, in_order?}
use Rattle.line.specs.Line.{Waiting, line_of, waiting_in, at_place}
use Rattle.line.specs.Order.{waits, LineInOrder, line_in_order?}
use Rattle.line.specs.Changes.{barred, once_more}
use Rattle.line.proofs.Numbers.{length_line}
use Rattle.line.proofs.Ordered.{decides_line, line_of_orderly}
use Rattle.line.proofs.Places.{orderly_passed, orderly_over, waits_passed}
use Rattle.rules.specs.Call.{Call as Direct, grow, tenant_of}
use Rattle.rules.specs.Step.{Outcome as TableOutcome, Check, check, first, validity, step as table_step}
use Rattle.rules.specs.History.{gave_block, in_table}
use Rattle.rules.specs.Demand.{Asks, Grows, grows, changed}
use Rattle.rules.specs.Accepted.{AfterGrant, AfterRepetition, AfterRelease, AfterGrowth, Gave as TableGave}
use Rattle.rules.proofs.Checks.{Numbered, validity_numbered, not_applied}
use Rattle.rules.proofs.Cases.{Granted, both_zero}
use Rattle.rules.proofs.Given.{accepted_answer}
use Rattle.rules.proofs.Repeats.{gave_none, repeats_if_holder}
use Rattle.rules.proofs.OneKind.{grants_do_not_release, grants_do_not_grow, one_level_asked}
use Rattle.rules.proofs.Reported.{nothing_changes}
use Rattle.rules.proofs.Box.{Report, report}
use Rattle.rules.proofs.Accepted.{sound_if_accepted, the_kept, after_grant, demand_2 as table_demand_2}
use Rattle.admission.specs.Call.{State, Call, direct, join, admit, withdraw}
use Rattle.admission.specs.Step.{Outcome, on_table, refused, reserve_checks, order_check, grant_holdings, checks, with_line, line_changed}
use Rattle.admission.specs.Step.{accepted, unless, step}
use Rattle.admission.specs.Demand.{LeavesAll, LeavesTable, Again, Gave, AfterAdmit, Demand2}
use Rattle.admission.proofs.Direct.{release_alone, growth_alone, grant_asks, SoundState, first_of_grant, grant_valid}
use Rattle.admission.proofs.Arguments.{lengths_passed, ordered, arguments_passed, order_passed}
use Rattle.admission.proofs.Ways.{Way, turned_down, given, given_again, given_up, exchanged, Kind, a_grant, a_release, a_growth, kind, way}
use Rattle.admission.proofs.Numbers.{direct_answer}
use Rattle.admission.proofs.Admits.{place_in, grant_to, is_granted, admits_somebody, admits_nobody}

module _ (h : ℕ) (S : State) where
  -- ---- a call that passed 1, 2 and 7 of table and line

  sound_by : (ys : List Check) → first (reserve_checks h S ++ ys) ≡ 0 → ordered h S ≡ true → SoundState h S
  sound_by ys e o =
      let l = lengths_passed h (length S.table) (length S.line) ys e in
      record {
        table = record {
          height = l.height;
          entries = l.entries;
          in_order = both_left (in_order? h S.table) (line_in_order? h S.table S.line) o;
        };
        numbers = l.numbers;
        line = both_right (in_order? h S.table) (line_in_order? h S.table S.line) o;
      }

  grant_sound : (c : Direct) (l : ℕ) → Asks h c l → (step h S (direct c)).answer ≡ 0 → SoundState h S
  grant_sound c l a e =
      let xs = reserve_checks h S ++ validity h c in
      let rest = grant_holdings h S (tenant_of c) l in
      let numbered : Numbered xs = (omega arith, (omega arith, (omega arith, validity_numbered h c))) in
      let none : first (xs ++ order_check h S ∷ rest) ≡ 0 = ap first (sym (grant_asks h S c l a)) ∙ sym (direct_answer h S c) ∙ e in
      sound_by (validity h c) (arguments_passed h S xs rest numbered none) (order_passed h S xs rest numbered none)

  -- ---- direct calls

  -- one that is answered 0 goes on the table as without a line
  alone : (c : Direct) → (step h S (direct c)).answer ≡ 0 → on_table (step h S (direct c)) ≡ table_step h S.table c
  alone c done = go (kind h c)
    where
      by_way : Way h S c → on_table (step h S (direct c)) ≡ table_step h S.table c
      by_way (turned_down n e) = absurd (omega (arith, done, ap (λ (o : Outcome). o.answer) e))
      by_way (given l g out free e) = ap on_table e
      by_way (given_again l r e) = ap on_table e
      by_way (given_up r e) = ap on_table e
      by_way (exchanged l g e) = ap on_table e

      go : Kind h c → on_table (step h S (direct c)) ≡ table_step h S.table c
      go (a_grant l a) = by_way (way h S (grant_sound c l a done) c)
      go (a_release r) = ap on_table (release_alone h S c r)
      go (a_growth l g) = ap on_table (growth_alone h S c l g)

  done_alone : (c : Direct) → (step h S (direct c)).answer ≡ 0 → (table_step h S.table c).answer ≡ 0
  done_alone c done = ap (λ (o : TableOutcome). o.answer) (sym (alone c done)) ∙ done

  -- what holds of it without a line holds of it
  as_alone : (c : Direct) (P : TableOutcome → Type 0) → (step h S (direct c)).answer ≡ 0 → P (table_step h S.table c)
      → P (on_table (step h S (direct c)))
  as_alone c P done = subst P (sym (alone c done))

  -- ---- admits

  data AdmitWay (m : ℕ) : Type 0 where
    refusal : (n : ℕ) → step h S (admit m) ≡ refused (suc n) S → AdmitWay m
    nobody_granted : step h S (admit m) ≡ record { answer = 0; node = 0; named = none; moves = []; state = S } → AdmitWay m
    granted_to : (k : ℕ) (L : List ℕ) → k < length (waiting_in S.line)
        → Granted h S.table (grant_to (at_place (waiting_in S.line) k) m) (at_place (waiting_in S.line) k).level
        → step h S (admit m)
        ≡ with_line (table_step h S.table (grant_to (at_place (waiting_in S.line) k) m)) (some (at_place (waiting_in S.line) k).tenant) L
        → AdmitWay m

  admit_way : (m : ℕ) → AdmitWay m
  unfolding step
  admit_way m = go (first (checks h S (admit m))) refl
    where
      by_place : SoundState h S → 4 ≤ m → Dec (place_in h S < length (waiting_in S.line)) → AdmitWay m
      by_place s enough (yes there) = granted_to (place_in h S) _ there (is_granted h S s m enough there) (admits_somebody h S s m enough there)
      by_place s enough (no out) = nobody_granted (admits_nobody h S s m enough out)

      go : (n : ℕ) → first (checks h S (admit m)) ≡ n → AdmitWay m
      go zero e =
          let xs = reserve_checks h S ++ check 3 (ltb m 4) ∷ [] in
          let numbered : Numbered xs = (omega arith, (omega arith, (omega arith, (omega arith, tt)))) in
          let passed = arguments_passed h S xs [] numbered e in
          let lent : first (check 3 (ltb m 4) ∷ []) ≡ 0
          = (both_zero (reserve_checks h S) (check 3 (ltb m 4) ∷ []) (omega arith, (omega arith, (omega arith, tt))) passed).1 in
          by_place (sound_by (check 3 (ltb m 4) ∷ []) passed (order_passed h S xs [] numbered e))
          (ltb-false m 4 (not_applied 3 (ltb m 4) [] (omega arith) lent)) (dec_lt (place_in h S) (length (waiting_in S.line)))
      go (suc n) e = refusal n (ap (λ (n : ℕ). unless n S (accepted h S (admit m))) e)

  -- ---- refusals

  all_left : (n : ℕ) {o : Outcome} → o ≡ refused n S → LeavesAll S o
  all_left n e = rw e (record { node = refl; named = refl; moves = refl; state = refl })

  unless_refuses : (k : ℕ) (o : Outcome) → o.answer ≡ 0 → ¬ ((unless k S o).answer ≡ 0) → LeavesAll S (unless k S o)
  unless_refuses zero o e ne = absurd (ne e)
  unless_refuses (suc k) o e ne = all_left (suc k) refl

  refuses : (c : Call) → ¬ ((step h S c).answer ≡ 0) → LeavesAll S (step h S c)
  unfolding step
  refuses (direct c) ne = unless_refuses (first (checks h S (direct c))) (accepted h S (direct c)) (accepted_answer h S.table c) ne
  refuses (join t l) ne = unless_refuses (first (checks h S (join t l))) (accepted h S (join t l)) refl ne
  refuses (withdraw t) ne = unless_refuses (first (checks h S (withdraw t))) (accepted h S (withdraw t)) refl ne
  refuses (admit m) ne = go (admit_way m)
    where
      go : AdmitWay m → LeavesAll S (step h S (admit m))
      go (refusal n e) = all_left (suc n) e
      go (nobody_granted e) = absurd (ne (ap (λ (o : Outcome). o.answer) e))
      go (granted_to k L p g e) = absurd (ne (ap (λ (o : Outcome). o.answer) e ∙ ap (λ (o : TableOutcome). o.answer) g.outcome))

  -- ---- joins and withdrawals

  unless_table : (n : ℕ) (W : List Waiting) → LeavesTable S (unless n S (line_changed S W))
  unless_table zero W = record { node = refl; named = refl; moves = refl; table = refl }
  unless_table (suc n) W = record { node = refl; named = refl; moves = refl; table = refl }

  joins : (t l : ℕ) → LeavesTable S (step h S (join t l))
  unfolding step
  joins t l = unless_table (first (checks h S (join t l))) _

  withdrawals : (t : ℕ) → LeavesTable S (step h S (withdraw t))
  unfolding step
  withdrawals t = unless_table (first (checks h S (withdraw t))) _

  pub unnamed : (c : Direct) → (step h S (direct c)).named ≡ none
  unfolding step
  unnamed c = go (first (checks h S (direct c)))
    where
      go : (n : ℕ) → (unless n S (accepted h S (direct c))).named ≡ none
      go zero = refl
      go (suc n) = refl

  -- ---- who got a block

  -- a call that gave one was answered 0, and gave it without a line too
  gave_done : (c : Direct) → Gave h S c → ((step h S (direct c)).answer ≡ 0) × TableGave h S.table c
  gave_done c gave = go (ℕ_discrete (step h S (direct c)).answer 0)
    where
      -- by the table afterwards
      gives : List ℕ → Bool
      gives T = gave_block (in_table h S.table (tenant_of c)) (in_table h T (tenant_of c))

      go : Dec ((step h S (direct c)).answer ≡ 0) → ((step h S (direct c)).answer ≡ 0) × TableGave h S.table c
      go (yes e) = (e, ap (λ (o : TableOutcome). gives o.table) (sym (alone c e)) ∙ gave)
      go (no ne) =
          let same = ap (λ (S' : State). gives S'.table) (refuses (direct c) ne).state in
          absurd (false≢true (sym (same ∙ gave_none (in_table h S.table (tenant_of c))) ∙ gave))

  not_gave : (c : Direct) → (step h S (direct c)).answer ≡ 0 → ¬ Gave h S c → ¬ TableGave h S.table c
  not_gave c e not_given g =
      not_given (ap (λ (o : TableOutcome). gave_block (in_table h S.table (tenant_of c)) (in_table h o.table (tenant_of c))) (alone c e) ∙ g)

  -- ---- a grant that gave no block leaves the line

  repetition_line : (c : Direct) (l : ℕ) → Asks h c l → (step h S (direct c)).answer ≡ 0 → 0 < node_at S.table (tenant_of c)
      → (step h S (direct c)).state.line ≡ S.line
  repetition_line c l a e holds = go (way h S (grant_sound c l a e) c)
    where
      go : Way h S c → (step h S (direct c)).state.line ≡ S.line
      go (turned_down n o) = ap (λ (x : Outcome). x.state.line) o
      go (given k g out free o) = absurd (omega (arith, holds, g.nothing))
      go (given_again k r o) = ap (λ (x : Outcome). x.state.line) o
      go (given_up r o) = ap (λ (x : Outcome). x.state.line) o
      go (exchanged k g o) = ap (λ (x : Outcome). x.state.line) o

-- ---- a grant made again at once

-- where the tenant holds a block of just the level, the grant names its node and changes nothing
held_again : (h : ℕ) (S : State) → SoundState h S → (c : Direct) (l : ℕ) → Asks h c l → first (validity h c) ≡ 0 → 0 < node_at S.table (tenant_of c)
    → level h (node_at S.table (tenant_of c)) ≡ l → Again S (node_at S.table (tenant_of c)) (step h S (direct c))
held_again h S s c l a v holds same = go (way h S s c)
  where
    done : (step h S (direct c)).answer ≡ 0
    done =
        direct_answer h S c
        ∙ grant_valid h S s c l a v
        ∙ rw (repeats_if_holder h S.table (tenant_of c) l holds, eq-eqb (level h (node_at S.table (tenant_of c))) l same)

    go : Way h S c → Again S (node_at S.table (tenant_of c)) (step h S (direct c))
    go (turned_down n o) = absurd (omega (arith, done, ap (λ (x : Outcome). x.answer) o))
    go (given k g out free o) = absurd (omega (arith, holds, g.nothing))
    go (given_again k r o) = rw (o, r.outcome) (record { answer = refl; node = refl; named = refl; moves = refl; state = refl })
    go (given_up r o) = absurd (grants_do_not_release h c l a r.asks)
    go (exchanged k g o) = absurd (grants_do_not_grow h c l k a g.asks)

module _ (h : ℕ) (S : State) (c : Direct) (l : ℕ) (a : Asks h c l) (done : (step h S (direct c)).answer ≡ 0) where
  s : SoundState h S
  s = grant_sound h S c l a done

  valid : first (validity h c) ≡ 0
  valid =
      (both_zero (validity h c) (grant_holdings h S (tenant_of c) l) (validity_numbered h c)
      (sym (first_of_grant h S s c l a) ∙ sym (direct_answer h S c) ∙ done)).0

  -- after a block was given, table and line are in order
  given_sound : Granted h S.table c l → waits (tenant_of c) (waiting_in S.line) ≡ false → barred (waiting_in S.line) ≡ false
      → SoundState h (record { table = (table_step h S.table c).table; line = line_of (map once_more (waiting_in S.line)) })
  given_sound g out free =
      let T = S.table in
      let T' = (table_step h T c).table in
      let W = waiting_in S.line in
      let D = table_demand_2 h T c in
      let e = done_alone h S c done in
      let after = after_grant h T c e l g in
      let in_order : LineInOrder h T S.line = (decides_line h T S.line s.numbers).0 s.line in
      let few : length (map once_more W) ≤ 64 = rw (length-map W once_more) in_order.few in
      let still : (t : ℕ) → waits t (map once_more W) ≡ true → node_at T t ≡ 0 → node_at T' t ≡ 0
      = λ t w z. after.settled.still_nothing t (other t (sym (waits_passed t W) ∙ w)) z in
      let passed = orderly_over h T T' (map once_more W) still (orderly_passed h T W free in_order.orderly) in
      let line = line_of_orderly h T' (map once_more W) few passed in
      record {
        table = sound_if_accepted h T' c (ap (λ (o : TableOutcome). o.answer) (D.again l a e));
        numbers = length_line (map once_more W) few;
        line = (decides_line h T' (line_of (map once_more W)) (length_line (map once_more W) few)).1 line;
      }
    where
      other : (t : ℕ) → waits t (waiting_in S.line) ≡ true → ¬ (t ≡ tenant_of c)
      other t w is = false≢true (sym out ∙ ap (λ (u : ℕ). waits u (waiting_in S.line)) (sym is) ∙ w)

  again : Again (step h S (direct c)).state (step h S (direct c)).node (step h (step h S (direct c)).state (direct c))
  again = go (way h S s c)
    where
      -- on what was left, if it is in order
      go_on : (S' : State) → (step h S (direct c)).state ≡ S' → SoundState h S' → 0 < node_at S'.table (tenant_of c)
          → level h (node_at S'.table (tenant_of c)) ≡ l → node_at S'.table (tenant_of c) ≡ (step h S (direct c)).node
          → Again (step h S (direct c)).state (step h S (direct c)).node (step h (step h S (direct c)).state (direct c))
      go_on S' left s' holds same node = rw (left, ← node) (held_again h S' s' c l a valid holds same)

      by_block : Granted h S.table c l → waits (tenant_of c) (waiting_in S.line) ≡ false → barred (waiting_in S.line) ≡ false
          → step h S (direct c) ≡ with_line (table_step h S.table c) none (line_of (map once_more (waiting_in S.line)))
          → Again (step h S (direct c)).state (step h S (direct c)).node (step h (step h S (direct c)).state (direct c))
      by_block g out free e =
          let placed = (after_grant h S.table c (done_alone h S c done) l g).placed in
          go_on (record { table = (table_step h S.table c).table; line = line_of (map once_more (waiting_in S.line)) })
          (ap (λ (o : Outcome). o.state) e) (given_sound g out free) (rw placed.newcomer placed.a_node)
          (rw placed.newcomer placed.on_level)
          (placed.newcomer ∙ ap (λ (o : Outcome). o.node) (sym e))

      go : Way h S c → Again (step h S (direct c)).state (step h S (direct c)).node (step h (step h S (direct c)).state (direct c))
      go (turned_down n e) = absurd (omega (arith, done, ap (λ (o : Outcome). o.answer) e))
      go (given k g out free e) = by_block (subst (Granted h S.table c) (one_level_asked h c k l g.asks a) g) out free e
      go (given_again k r e) =
          go_on S (ap (λ (o : Outcome). o.state) (e ∙ ap (λ (o : TableOutcome). with_line o none S.line) r.outcome)) s r.holds
          (r.same ∙ one_level_asked h c k l r.asks a)
          (ap (λ (o : Outcome). o.node) (sym (e ∙ ap (λ (o : TableOutcome). with_line o none S.line) r.outcome)))
      go (given_up r e) = absurd (grants_do_not_release h c l a r.asks)
      go (exchanged k g e) = absurd (grants_do_not_grow h c l k a g.asks)

-- ---- admits and moves

module _ (h : ℕ) (S : State) where
  no_name : {t : ℕ} → none ≡ some t → ⊥
  no_name e = absurd (subst is_none e tt)
    where
      is_none : Option ℕ → Type 0
      is_none none = Unit {0}
      is_none (some t) = ⊥

  same_name : {t u : ℕ} → some u ≡ some t → u ≡ t
  same_name {t} {u} e = ap value e
    where
      value : Option ℕ → ℕ
      value none = u
      value (some v) = v

  admits : (m t : ℕ) → (step h S (admit m)).named ≡ some t → AfterAdmit h S t (step h S (admit m))
  admits m t named = go (admit_way h S m)
    where
      go : AdmitWay h S m → AfterAdmit h S t (step h S (admit m))
      go (refusal n e) = absurd (no_name (sym (ap (λ (o : Outcome). o.named) e) ∙ named))
      go (nobody_granted e) = absurd (no_name (sym (ap (λ (o : Outcome). o.named) e) ∙ named))
      go (granted_to k L p g e) =
          let w = at_place (waiting_in S.line) k in
          let is : w.tenant ≡ t = same_name (sym (ap (λ (o : Outcome). o.named) e) ∙ named) in
          let a = ap (λ (o : TableOutcome). o.answer) g.outcome in
          let after = after_grant h S.table (grant_to w m) a w.level g in
          record {
            answer = ap (λ (o : Outcome). o.answer) e ∙ a;
            place = k;
            in_line = p;
            waits = is;
            granted =
                subst (λ (u : ℕ). AfterGrant h S.table u w.level (on_table (step h S (admit m)))) is
                (subst (AfterGrant h S.table w.tenant w.level) (sym (ap on_table e)) after);
          }

  nobody_admitted : (m : ℕ) → (step h S (admit m)).named ≡ none → LeavesAll S (step h S (admit m))
  nobody_admitted m unnamed = go (admit_way h S m)
    where
      go : AdmitWay h S m → LeavesAll S (step h S (admit m))
      go (refusal n e) = all_left h S (suc n) e
      go (nobody_granted e) = all_left h S 0 e
      go (granted_to k L p g e) = absurd (no_name (sym unnamed ∙ ap (λ (o : Outcome). o.named) e))

  -- a refused call has no moves, so that what holds of accepted ones holds of all
  few : (c : Call) (n : ℕ) → ((step h S c).answer ≡ 0 → length (step h S c).moves ≤ n) → length (step h S c).moves ≤ n
  few c n if_done = go (ℕ_discrete (step h S c).answer 0)
    where
      go : Dec ((step h S c).answer ≡ 0) → length (step h S c).moves ≤ n
      go (yes e) = if_done e
      go (no ne) = rw (refuses h S c ne).moves zero-le

  -- what is reported of a call without a line
  reported : (c : Direct) → (step h S (direct c)).answer ≡ 0 → Report h S.table c (on_table (step h S (direct c)))
  reported c e =
      as_alone h S c (Report h S.table c) e
      (report h S.table (in_table h S.table) (the_kept h S.table c (done_alone h S c e)) c)

  counted : (c : Direct) → length (step h S (direct c)).moves ≡ changed (tenant_of c) S.table (step h S (direct c)).state.table
  counted c = go (ℕ_discrete (step h S (direct c)).answer 0)
    where
      go : Dec ((step h S (direct c)).answer ≡ 0)
          → length (step h S (direct c)).moves ≡ changed (tenant_of c) S.table (step h S (direct c)).state.table
      go (yes e) = (reported c e).counted
      go (no ne) =
          let r = refuses h S (direct c) ne in
          rw (r.moves, r.state) (sym (nothing_changes (tenant_of c) S.table))

  growth_few : (c : Direct) (l : ℕ) → Grows c l → (step h S (direct c)).answer ≡ 0 → length (step h S (direct c)).moves ≤ 7
  growth_few c l (grows {t = t} {l = k} {m = m}) e = (reported (grow t k m) e).few

  admit_few : (m : ℕ) → length (step h S (admit m)).moves ≤ 3
  admit_few m = go (admit_way h S m)
    where
      go : AdmitWay h S m → length (step h S (admit m)).moves ≤ 3
      go (refusal n e) = rw e zero-le
      go (nobody_granted e) = rw e zero-le
      go (granted_to k L p g e) =
          let c = grant_to (at_place (waiting_in S.line) k) m in
          let done = ap (λ (o : TableOutcome). o.answer) g.outcome in
          rw e ((report h S.table (in_table h S.table) (the_kept h S.table c done) c).few_if_grant _ g.asks)

pub demand_2 : (h : ℕ) (S : State) → Demand2 h S
demand_2 h S = record {
  refuses = refuses h S;
  grant = λ c l a g. let d = gave_done h S c g in
      as_alone h S c (AfterGrant h S.table (tenant_of c) l) d.0 ((table_demand_2 h S.table c).grant l a d.1);
  repetition = λ c l a e not_given.
      let r = (table_demand_2 h S.table c).repetition l a (done_alone h S c e) (not_gave h S c e not_given) in
      (as_alone h S c (AfterRepetition h S.table (tenant_of c) l) e r, repetition_line h S c l a e r.had_one);
  gives = λ c g. let d = gave_done h S c g in (d.0, ((table_demand_2 h S.table c).gives d.1).1);
  unnamed = unnamed h S;
  again = again h S;
  release = λ c r e. (
    as_alone h S c (AfterRelease h S.table (tenant_of c)) e ((table_demand_2 h S.table c).release r (done_alone h S c e)),
    ap (λ (o : Outcome). o.state.line) (release_alone h S c r),
  );
  growth = λ c l g e. (
    as_alone h S c (AfterGrowth h S.table (tenant_of c) l) e ((table_demand_2 h S.table c).growth l g (done_alone h S c e)),
    ap (λ (o : Outcome). o.state.line) (growth_alone h S c l g),
  );
  admits = admits h S;
  admits_nobody = nobody_admitted h S;
  joins = joins h S;
  withdrawals = withdrawals h S;
  moves = counted h S;
  grant_moves = λ c l a. few h S (direct c) 3 (λ e. (reported h S c e).few_if_grant l a);
  release_moves = λ c r. few h S (direct c) 4 (λ e. (reported h S c e).few_if_release r);
  growth_moves = λ c l g. few h S (direct c) 7 (growth_few h S c l g);
  admit_moves = admit_few h S;
}
