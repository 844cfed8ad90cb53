-- Which number each call answers on a state in order.
use mathlib.Core.Path.{◌≡◌, refl, sym, ap, ◌∙◌}
use mathlib.Core.Bool.{Bool, true, false, not, cond}
use mathlib.Core.List.{List, [], ◌∷◌, ◌++◌}
use mathlib.Core.Logic.{◌⊎◌, inl, inr}
use Prim.Native.Nat.{ℕ, zero, suc, ◌≤◌, ◌<◌}
use native.Mathlib.Omega.{arith}
use native.Mathlib.Decide.{ℕ_discrete}
use borrow.Author.Tests.{eq-eqb, le-ltb, lt-ltb, ltb-false, leb-false, not-false}
use lib.Dec.{ltb, leb}
use lib.ListN.{length}
use Rattle.table.specs.Table.{node_at}
use Rattle.line.specs.Line.{waiting_in}
use Rattle.line.specs.Order.{waits}
use Rattle.line.specs.Changes.{barred, choose, joined, leave}
use Rattle.rules.specs.Call.{Call as Direct, tenant_of}
use Rattle.rules.specs.Step.{Check, check, first, level_check, validity, repeats, grant_holdings as table_holdings}
use Rattle.rules.specs.Step.{unless as table_unless, checks as table_checks, accepted as table_accepted, step as table_step}
use Rattle.rules.specs.Demand.{Asks}
use Rattle.rules.proofs.Checks.{first_of_sound, first_after_none, first_stands, validity_numbered, not_applied, rest_zero}
use Rattle.rules.proofs.Given.{accepted_answer}
use Rattle.rules.proofs.Answers.{asked_holdings}
use Rattle.admission.specs.Call.{State, direct, join, admit, withdraw}
use Rattle.admission.specs.Step.{on_table, refused, no_room, grant_holdings, checks, line_changed, fits, admission, accepted, unless, step}
use Rattle.admission.proofs.Direct.{unless_on_table, SoundState, first_of_grant}

-- a direct call answers the number of the first check that applies, or 0
pub direct_answer : (h : ℕ) (S : State) (c : Direct) → (step h S (direct c)).answer ≡ first (checks h S (direct c))
unfolding step
direct_answer h S c = go (first (checks h S (direct c)))
  where
    go : (n : ℕ) → (unless n S (accepted h S (direct c))).answer ≡ n
    go zero = accepted_answer h S.table c
    go (suc n) = refl

-- what 4, 5, 8, 18 and 17 have shown of a join where none of them applies
pub record MayJoin (S : State) (h t l : ℕ) : Type 0 where
  pub tenant : t < 4096
  pub level : l ≤ h
  pub holds_none : node_at S.table t ≡ 0
  pub not_waiting : waits t (waiting_in S.line) ≡ false
  pub room : length (waiting_in S.line) < 64

abbrev join_checks : ℕ → State → ℕ → ℕ → List Check
join_checks h S t l =
    check 4 (ltb 4095 t)
    ∷ level_check h l
    ∷ check 8 (ltb 0 (node_at S.table t))
    ∷ check 18 (waits t (waiting_in S.line))
    ∷ check 17 (leb 64 (length (waiting_in S.line)))
    ∷ []

module _ (h : ℕ) (S : State) (s : SoundState h S) where
  -- ---- a grant without anybody at eight, by one that does not wait

  unbarred_holdings : (t l : ℕ) → waits t (waiting_in S.line) ≡ false → barred (waiting_in S.line) ≡ false
      → first (grant_holdings h S t l) ≡ first (table_holdings h S.table t l)
  unbarred_holdings t l out none_at_eight = rw (out, none_at_eight) (go (repeats h S.table t l))
    where
      go : (b : Bool) → first (cond b [] (check 8 (ltb 0 (node_at S.table t)) ∷ check 18 false ∷ check 10 (no_room h S.table l) ∷ []))
          ≡ first (cond b [] (check 8 (ltb 0 (node_at S.table t)) ∷ check 10 (no_room h S.table l) ∷ []))
      go true = refl
      go false = refl

  module _ (c : Direct) (l : ℕ) (a : Asks h c l) where
    table_first : first (table_checks h S.table c) ≡ first (validity h c ++ table_holdings h S.table (tenant_of c) l)
    table_first = first_of_sound h S.table c s.table ∙ ap (λ (cs : List Check). first (validity h c ++ cs)) (asked_holdings h S.table c l a)

    same_first : waits (tenant_of c) (waiting_in S.line) ≡ false → barred (waiting_in S.line) ≡ false
        → first (checks h S (direct c)) ≡ first (table_checks h S.table c)
    same_first out none_at_eight = first_of_grant h S s c l a ∙ go (ℕ_discrete (first (validity h c)) 0) ∙ sym table_first
      where
        go : Dec (first (validity h c) ≡ 0)
            → first (validity h c ++ grant_holdings h S (tenant_of c) l) ≡ first (validity h c ++ table_holdings h S.table (tenant_of c) l)
        go (yes v) =
            first_after_none (validity h c) (grant_holdings h S (tenant_of c) l) (validity_numbered h c) v
            ∙ unbarred_holdings (tenant_of c) l out none_at_eight
            ∙ sym (first_after_none (validity h c) (table_holdings h S.table (tenant_of c) l) (validity_numbered h c) v)
        go (no v) =
            first_stands (validity h c) (grant_holdings h S (tenant_of c) l) v
            ∙ sym (first_stands (validity h c) (table_holdings h S.table (tenant_of c) l) v)

    -- it goes as on a table without a line
    pub unbarred : waits (tenant_of c) (waiting_in S.line) ≡ false → barred (waiting_in S.line) ≡ false
        → on_table (step h S (direct c)) ≡ table_step h S.table c
    unfolding step table_step
    unbarred out none_at_eight =
        unless_on_table (first (checks h S (direct c))) S (table_accepted h S.table c) _
        ∙ ap (λ (n : ℕ). table_unless n S.table (table_accepted h S.table c)) (same_first out none_at_eight)

  -- ---- joins

  join_first : (t l : ℕ) → first (checks h S (join t l)) ≡ first (join_checks h S t l)
  join_first t l =
      rw (
        le-ltb 12 h s.table.height,
        eq-eqb (length S.table) 4096 s.table.entries,
        eq-eqb (length S.line) 193 s.numbers,
        s.table.in_order,
        s.line,
      )

  pub join_answer : (t l : ℕ) → (step h S (join t l)).answer ≡ first (join_checks h S t l)
  unfolding step
  join_answer t l = go (first (checks h S (join t l))) ∙ join_first t l
    where
      go : (n : ℕ) → (unless n S (accepted h S (join t l))).answer ≡ n
      go zero = refl
      go (suc n) = refl

  may_join : (t l : ℕ) → first (join_checks h S t l) ≡ 0 → MayJoin S h t l
  may_join t l e =
      let W = waiting_in S.line in
      let c₁₇ = check 17 (leb 64 (length W)) ∷ [] in
      let c₁₈ = check 18 (waits t W) ∷ c₁₇ in
      let c₈ = check 8 (ltb 0 (node_at S.table t)) ∷ c₁₈ in
      let after₄ = rest_zero 4 (ltb 4095 t) (level_check h l ∷ c₈) (omega arith) e in
      let after₅ = rest_zero 5 (ltb h l) c₈ (omega arith) after₄ in
      let after₈ = rest_zero 8 (ltb 0 (node_at S.table t)) c₁₈ (omega arith) after₅ in
      let after₁₈ = rest_zero 18 (waits t W) c₁₇ (omega arith) after₈ in
      record {
        tenant = omega (arith, ltb-false 4095 t (not_applied 4 (ltb 4095 t) (level_check h l ∷ c₈) (omega arith) e));
        level = ltb-false h l (not_applied 5 (ltb h l) c₈ (omega arith) after₄);
        holds_none = omega (arith, ltb-false 0 (node_at S.table t) (not_applied 8 (ltb 0 (node_at S.table t)) c₁₈ (omega arith) after₅));
        not_waiting = not_applied 18 (waits t W) c₁₇ (omega arith) after₈;
        room = leb-false 64 (length W) (not_applied 17 (leb 64 (length W)) [] (omega arith) after₁₈);
      }

  -- a join is refused, or stands at the end of the line
  pub join_way : (t l : ℕ) → ((n : ℕ) × (step h S (join t l) ≡ refused (suc n) S))
      ⊎ (MayJoin S h t l × (step h S (join t l) ≡ line_changed S (joined t l (waiting_in S.line))))
  unfolding step
  join_way t l = go (first (checks h S (join t l))) refl
    where
      go : (n : ℕ) → first (checks h S (join t l)) ≡ n
          → ((n : ℕ) × (unless (first (checks h S (join t l))) S (accepted h S (join t l)) ≡ refused (suc n) S))
          ⊎ (MayJoin S h t l
          × (unless (first (checks h S (join t l))) S (accepted h S (join t l)) ≡ line_changed S (joined t l (waiting_in S.line))))
      go zero e = inr (may_join t l (sym (join_first t l) ∙ e), ap (λ (n : ℕ). unless n S (accepted h S (join t l))) e)
      go (suc n) e = inl (n, ap (λ (n : ℕ). unless n S (accepted h S (join t l))) e)

  -- ---- withdrawals

  abbrev withdraw_checks : ℕ → List Check
  withdraw_checks t = check 4 (ltb 4095 t) ∷ check 9 (not (waits t (waiting_in S.line))) ∷ []

  withdraw_first : (t : ℕ) → first (checks h S (withdraw t)) ≡ first (withdraw_checks t)
  withdraw_first t =
      rw (
        le-ltb 12 h s.table.height,
        eq-eqb (length S.table) 4096 s.table.entries,
        eq-eqb (length S.line) 193 s.numbers,
        s.table.in_order,
        s.line,
      )

  pub withdraw_answer : (t : ℕ) → (step h S (withdraw t)).answer ≡ first (withdraw_checks t)
  unfolding step
  withdraw_answer t = go (first (checks h S (withdraw t))) ∙ withdraw_first t
    where
      go : (n : ℕ) → (unless n S (accepted h S (withdraw t))).answer ≡ n
      go zero = refl
      go (suc n) = refl

  -- a withdrawal is refused, or the tenant waits and leaves
  pub withdraw_way : (t : ℕ) → ((n : ℕ) × (step h S (withdraw t) ≡ refused (suc n) S))
      ⊎ ((waits t (waiting_in S.line) ≡ true) × (step h S (withdraw t) ≡ line_changed S (leave (λ w. w) t (waiting_in S.line))))
  unfolding step
  withdraw_way t = go (first (checks h S (withdraw t))) refl
    where
      go : (n : ℕ) → first (checks h S (withdraw t)) ≡ n
          → ((n : ℕ) × (unless (first (checks h S (withdraw t))) S (accepted h S (withdraw t)) ≡ refused (suc n) S))
          ⊎ ((waits t (waiting_in S.line) ≡ true)
          × (unless (first (checks h S (withdraw t))) S (accepted h S (withdraw t)) ≡ line_changed S (leave (λ w. w) t (waiting_in S.line))))
      go zero e =
          let z = sym (withdraw_first t) ∙ e in
          let n = not (waits t (waiting_in S.line)) in
          inr (
            not-false _ (not_applied 9 n [] (omega arith) (rest_zero 4 (ltb 4095 t) (check 9 n ∷ []) (omega arith) z)),
            ap (λ (n : ℕ). unless n S (accepted h S (withdraw t))) e,
          )
      go (suc n) e = inl (n, ap (λ (n : ℕ). unless n S (accepted h S (withdraw t))) e)

  -- ---- admits

  admit_first : (m : ℕ) → first (checks h S (admit m)) ≡ first (check 3 (ltb m 4) ∷ [])
  admit_first m =
      rw (
        le-ltb 12 h s.table.height,
        eq-eqb (length S.table) 4096 s.table.entries,
        eq-eqb (length S.line) 193 s.numbers,
        s.table.in_order,
        s.line,
      )

  pub admit_done : (m : ℕ) → 4 ≤ m → step h S (admit m) ≡ admission h S m (choose (fits h S.table) (waiting_in S.line))
  unfolding step
  admit_done m q =
      let e : first (checks h S (admit m)) ≡ 0 = admit_first m ∙ rw (le-ltb m 4 q) in
      ap (λ (n : ℕ). unless n S (accepted h S (admit m))) e

  pub admit_refused : (m : ℕ) → m < 4 → step h S (admit m) ≡ refused 3 S
  unfolding step
  admit_refused m q =
      let e : first (checks h S (admit m)) ≡ 3 = admit_first m ∙ rw (lt-ltb m 4 q) in
      ap (λ (n : ℕ). unless n S (accepted h S (admit m))) e
