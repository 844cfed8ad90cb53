-- A history in which each grant is made again at once ends in the same table.
use mathlib.Core.Path.{◌≡◌, refl, sym, ap, ◌∙◌}
use mathlib.Core.Bool.{true, false}
use mathlib.Core.List.{List, [], ◌∷◌}
use Prim.Native.Nat.{ℕ}
use native.Mathlib.Decide.{ℕ_discrete}
use Rattle.sizes.specs.Level.{level_for}
use Rattle.rules.specs.Call.{Call, grant_level, grant_pages, release, grow}
use Rattle.rules.specs.Step.{Outcome, step}
use Rattle.rules.specs.History.{table_from, answers_from, is_grant, grants_twice}
use Rattle.rules.specs.Demand.{Asks, by_level, by_pages}
use Rattle.rules.specs.Accepted.{SafeToRepeat}
use Rattle.rules.proofs.Given.{step_refuses}
use Rattle.rules.proofs.Accepted.{demand_2}

-- the second of two equal grants: accepted, it changes nothing; refused, so was the first, on the same table
same_again : (h : ℕ) (T : List ℕ) (c : Call) (l : ℕ) → Asks h c l → let T' = (step h T c).table in
    ((step h T' c).table ≡ T') × ((step h T' c).answer ≡ (step h T c).answer)
same_again h T c l a = go (ℕ_discrete (step h T c).answer 0)
  where
    T' : List ℕ
    T' = (step h T c).table

    go : Dec ((step h T c).answer ≡ 0) → ((step h T' c).table ≡ T') × ((step h T' c).answer ≡ (step h T c).answer)
    go (yes e) =
        let again = (demand_2 h T c).again l a e in
        (ap (λ (o : Outcome). o.table) again, ap (λ (o : Outcome). o.answer) again ∙ sym e)
    go (no ne) =
        let stays : T' ≡ T = ap (λ (o : Outcome). o.table) (step_refuses h T c ne) in
        (ap (λ (S : List ℕ). (step h S c).table) stays, ap (λ (S : List ℕ). (step h S c).answer) stays)

module _ (h : ℕ) (T : List ℕ) (c : Call) (cs : List Call) (more : SafeToRepeat h (step h T c).table cs) where
  other_more : is_grant c ≡ false → SafeToRepeat h T (c ∷ cs)
  unfolding table_from answers_from grants_twice
  other_more other = record {
    table = rw other more.table;
    numbers = rw other (ap (λ (as' : List ℕ). (step h T c).answer ∷ as') more.numbers);
  }

  grant_more : (l : ℕ) → Asks h c l → is_grant c ≡ true → SafeToRepeat h T (c ∷ cs)
  unfolding table_from answers_from grants_twice
  grant_more l asks grants =
      let a = (step h T c).answer in
      let T'' = (step h (step h T c).table c).table in
      let same = same_again h T c l asks in
      record {
        table = rw grants (ap (λ (S : List ℕ). table_from h S (grants_twice cs cs)) same.0 ∙ more.table);
        numbers = rw grants
            (ap (λ (n : ℕ). a ∷ n ∷ answers_from h T'' (grants_twice cs cs)) same.1
            ∙ ap (λ (S : List ℕ). a ∷ a ∷ answers_from h S (grants_twice cs cs)) same.0
            ∙ ap (λ (as' : List ℕ). a ∷ a ∷ as') more.numbers);
      }

pub safe_to_repeat : (h : ℕ) (T : List ℕ) (cs : List Call) → SafeToRepeat h T cs
unfolding table_from answers_from grants_twice
safe_to_repeat h T [] = record { table = refl; numbers = refl }
safe_to_repeat h T (grant_level t l m ∷ cs) =
    grant_more h T (grant_level t l m) cs (safe_to_repeat h (step h T (grant_level t l m)).table cs) l by_level refl
safe_to_repeat h T (grant_pages t p m ∷ cs) =
    grant_more h T (grant_pages t p m) cs (safe_to_repeat h (step h T (grant_pages t p m)).table cs) (level_for h p) by_pages refl
safe_to_repeat h T (release t m ∷ cs) = other_more h T (release t m) cs (safe_to_repeat h (step h T (release t m)).table cs) refl
safe_to_repeat h T (grow t l m ∷ cs) = other_more h T (grow t l m) cs (safe_to_repeat h (step h T (grow t l m)).table cs) refl
