-- The ways that a direct call on a state in order can go: refused, a block given, or as without a line, which then stays.
use mathlib.Core.Path.{◌≡◌, refl, sym, ap, ◌∙◌}
use mathlib.Core.Bool.{Bool, true, false, cond, ◌||◌}
use mathlib.Core.List.{List, [], ◌∷◌, map}
use mathlib.Core.Logic.{◌⊎◌, inl, inr}
use mathlib.Core.Option.{none}
use Prim.Native.Nat.{ℕ, zero, suc}
use native.Mathlib.Omega.{arith}
use borrow.Author.Tests.{ltb-false}
use lib.Dec.{ltb}
use Rattle.table.specs.Table.{node_at}
use Rattle.line.specs.Line.{line_of, waiting_in}
use Rattle.line.specs.Order.{waits}
use Rattle.line.specs.Changes.{barred, once_more}
use Rattle.sizes.specs.Level.{level_for}
use Rattle.rules.specs.Call.{Call as Direct, grant_level, grant_pages, release, grow, tenant_of}
use Rattle.rules.specs.Step.{Outcome as TableOutcome, check, first, validity, repeats, holdings, grant_holdings as table_holdings}
use Rattle.rules.specs.Step.{unless as table_unless, accepted as table_accepted, step as table_step}
use Rattle.rules.specs.Demand.{Asks, by_level, by_pages, Releases, releases, Grows, grows}
use Rattle.rules.proofs.Checks.{first_of_sound, first_after_none, validity_numbered}
use Rattle.rules.proofs.Given.{accepted_answer}
use Rattle.rules.proofs.Answers.{asked_holdings}
use Rattle.rules.proofs.OneKind.{grants_do_not_release, grants_do_not_grow}
use Rattle.rules.proofs.Repeats.{repeats_holds}
use Rattle.rules.proofs.Cases.{Granted, Repeated, Released, Grown, Case, by_grant, by_repetition, by_release, by_growth, by_refusal, case, both_zero}
use Rattle.admission.specs.Call.{State, direct}
use Rattle.admission.specs.Step.{refused, no_room, grant_holdings, checks, with_line, line_behind, accepted, unless, step}
use Rattle.admission.proofs.Direct.{release_alone, growth_alone, grant_line, SoundState, first_of_grant}

pub data Way (h : ℕ) (S : State) (c : Direct) : Type 0 where
  turned_down : (n : ℕ) → step h S (direct c) ≡ refused (suc n) S → Way h S c
  given : (l : ℕ) → Granted h S.table c l → waits (tenant_of c) (waiting_in S.line) ≡ false → barred (waiting_in S.line) ≡ false
      → step h S (direct c) ≡ with_line (table_step h S.table c) none (line_of (map once_more (waiting_in S.line))) → Way h S c
  given_again : (l : ℕ) → Repeated h S.table c l → step h S (direct c) ≡ with_line (table_step h S.table c) none S.line → Way h S c
  given_up : Released h S.table c → step h S (direct c) ≡ with_line (table_step h S.table c) none S.line → Way h S c
  exchanged : (l : ℕ) → Grown h S.table c l → step h S (direct c) ≡ with_line (table_step h S.table c) none S.line → Way h S c

-- the kinds of a direct call
pub data Kind (h : ℕ) (c : Direct) : Type 0 where
  a_grant : (l : ℕ) → Asks h c l → Kind h c
  a_release : Releases c → Kind h c
  a_growth : (l : ℕ) → Grows c l → Kind h c

pub kind : (h : ℕ) (c : Direct) → Kind h c
kind h (grant_level t l m) = a_grant l by_level
kind h (grant_pages t p m) = a_grant (level_for h p) by_pages
kind h (release t m) = a_release releases
kind h (grow t l m) = a_growth l grows

-- what 8, 18 and 10 have shown where none of them applies
record Clear (holds waiting eight full : Bool) : Type 0 where
  holds_none : holds ≡ false
  not_waiting : waiting ≡ false
  nobody_at_eight : eight ≡ false
  room : full ≡ false

clear : (holds waiting eight full : Bool) → first (check 8 holds ∷ check 18 waiting ∷ check 10 (eight || full) ∷ []) ≡ 0
    → Clear holds waiting eight full
clear true w d n e = absurd (omega arith)
clear false true d n e = absurd (omega arith)
clear false false true n e = absurd (omega arith)
clear false false false true e = absurd (omega arith)
clear false false false false e = record { holds_none = refl; not_waiting = refl; nobody_at_eight = refl; room = refl }

module _ (h : ℕ) (S : State) (s : SoundState h S) (c : Direct) (l : ℕ) (a : Asks h c l) where
  -- without a line too, a grant that none of 8, 18 and 10 turns down is done
  pub done_on_table : first (validity h c) ≡ 0 → first (table_holdings h S.table (tenant_of c) l) ≡ 0
      → table_step h S.table c ≡ table_accepted h S.table c
  unfolding table_step
  done_on_table v e =
      ap (λ (n : ℕ). table_unless n S.table (table_accepted h S.table c))
      (first_of_sound h S.table c s.table
      ∙ first_after_none (validity h c) (holdings h S.table c) (validity_numbered h c) v
      ∙ ap first (asked_holdings h S.table c l a)
      ∙ e)

  -- a grant that is done gives a block on a table in order, or is a repeated one
  pub as_case : (table_step h S.table c).answer ≡ 0 → ((k : ℕ) × Granted h S.table c k) ⊎ ((k : ℕ) × Repeated h S.table c k)
  as_case done = go (case h S.table s.table c)
    where
      go : Case h S.table c → ((k : ℕ) × Granted h S.table c k) ⊎ ((k : ℕ) × Repeated h S.table c k)
      go (by_grant k g) = inl (k, g)
      go (by_repetition k r) = inr (k, r)
      go (by_release r) = absurd (grants_do_not_release h c l a r.asks)
      go (by_growth k g) = absurd (grants_do_not_grow h c l k a g.asks)
      go (by_refusal n o) = absurd (omega (arith, done, ap (λ (x : TableOutcome). x.answer) o))

  grant_done : first (validity h c) ≡ 0 → first (grant_holdings h S (tenant_of c) l) ≡ 0
      → step h S (direct c) ≡ with_line (table_accepted h S.table c) none (line_behind (repeats h S.table (tenant_of c) l) S.line)
      → Way h S c
  grant_done v = go (repeats h S.table (tenant_of c) l) refl
    where
      answered : table_step h S.table c ≡ table_accepted h S.table c → (table_step h S.table c).answer ≡ 0
      answered e = ap (λ (x : TableOutcome). x.answer) e ∙ accepted_answer h S.table c

      go : (b : Bool) → repeats h S.table (tenant_of c) l ≡ b
          → first (cond b [] (check 8 (ltb 0 (node_at S.table (tenant_of c))) ∷ check 18 (waits (tenant_of c) (waiting_in S.line))
          ∷ check 10 (barred (waiting_in S.line) || no_room h S.table l) ∷ [])) ≡ 0
          → step h S (direct c) ≡ with_line (table_accepted h S.table c) none (line_behind b S.line) → Way h S c
      go true r e o = again (as_case (answered same))
        where
          same : table_step h S.table c ≡ table_accepted h S.table c
          same = done_on_table v (rw r)

          again : ((k : ℕ) × Granted h S.table c k) ⊎ ((k : ℕ) × Repeated h S.table c k) → Way h S c
          again (inl g) = absurd (omega (arith, (repeats_holds h S.table (tenant_of c) l r).0, g.1.nothing))
          again (inr q) = given_again q.0 q.1 (o ∙ ap (λ (x : TableOutcome). with_line x none S.line) (sym same))
      go false r e o = anew (as_case (answered same))
        where
          cleared : Clear (ltb 0 (node_at S.table (tenant_of c))) (waits (tenant_of c) (waiting_in S.line)) (barred (waiting_in S.line))
              (no_room h S.table l)
          cleared = clear _ _ _ _ e

          same : table_step h S.table c ≡ table_accepted h S.table c
          same = done_on_table v (rw (r, cleared.holds_none, cleared.room))

          anew : ((k : ℕ) × Granted h S.table c k) ⊎ ((k : ℕ) × Repeated h S.table c k) → Way h S c
          anew (inl g) =
              given g.0 g.1 cleared.not_waiting cleared.nobody_at_eight
              (o ∙ ap (λ (x : TableOutcome). with_line x none (line_of (map once_more (waiting_in S.line)))) (sym same))
          anew (inr q) = absurd (omega (arith, q.1.holds, ltb-false 0 (node_at S.table (tenant_of c)) cleared.holds_none))

  grant_way : Way h S c
  unfolding step
  grant_way = go (first (checks h S (direct c))) refl
    where
      go : (n : ℕ) → first (checks h S (direct c)) ≡ n → Way h S c
      go zero e =
          let z = both_zero (validity h c) (grant_holdings h S (tenant_of c) l) (validity_numbered h c) (sym (first_of_grant h S s c l a) ∙ e) in
          grant_done z.0 z.1
          (ap (λ (n : ℕ). unless n S (accepted h S (direct c))) e
          ∙ ap (λ (L : List ℕ). with_line (table_accepted h S.table c) none L) (grant_line h S c l a))
      go (suc n) e = turned_down n (ap (λ (n : ℕ). unless n S (accepted h S (direct c))) e)

module _ (h : ℕ) (S : State) (s : SoundState h S) where
  -- a release or a growth goes as without a line
  alone_way : (c : Direct) → step h S (direct c) ≡ with_line (table_step h S.table c) none S.line → ((l : ℕ) → Asks h c l → ⊥) → Way h S c
  alone_way c alone not_grant = go (case h S.table s.table c)
    where
      go : Case h S.table c → Way h S c
      go (by_grant k g) = absurd (not_grant k g.asks)
      go (by_repetition k r) = absurd (not_grant k r.asks)
      go (by_release r) = given_up r alone
      go (by_growth k g) = exchanged k g alone
      go (by_refusal n o) = turned_down n (alone ∙ ap (λ (x : TableOutcome). with_line x none S.line) o)

  pub way : (c : Direct) → Way h S c
  way c = go (kind h c)
    where
      go : Kind h c → Way h S c
      go (a_grant l a) = grant_way h S s c l a
      go (a_release r) = alone_way c (release_alone h S c r) (λ l a. grants_do_not_release h c l a r)
      go (a_growth l g) = alone_way c (growth_alone h S c l g) (λ k a. grants_do_not_grow h c k l a g)
