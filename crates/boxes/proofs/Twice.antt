-- Grants made again at once change nothing, on any table and line.
use mathlib.Core.Path.{◌≡◌, refl, sym, ap, ap₂, ◌∙◌}
use mathlib.Core.Bool.{Bool, true, false, false≢true}
use mathlib.Core.List.{List, [], ◌∷◌}
use Prim.Native.Nat.{ℕ}
use native.Mathlib.Decide.{ℕ_discrete}
use Rattle.sizes.specs.Level.{level_for}
use Rattle.rules.specs.Call.{Call as Direct, grant_level, grant_pages, release, grow}
use Rattle.rules.specs.Demand.{Asks, by_level, by_pages}
use Rattle.admission.specs.Call.{State, Call, direct, join, admit, withdraw}
use Rattle.admission.specs.Step.{Outcome, step}
use Rattle.admission.proofs.Demand.{demand_2}
use Rattle.boxes.specs.History.{Reply, reply, state_from, replies_from}
use Rattle.boxes.specs.Demand.{grants_twice, is_grant, SafeToRepeat}

-- what a call made again gives: the same reply, and the state as it was
record Again (h : ℕ) (S : State) (c : Call) : Type 0 where
  state : (step h (step h S c).state c).state ≡ (step h S c).state
  replied : reply (step h (step h S c).state c) ≡ reply (step h S c)

grant_again : (h : ℕ) (S : State) (c : Direct) (l : ℕ) → Asks h c l → Again h S (direct c)
grant_again h S c l a = go (ℕ_discrete (step h S (direct c)).answer 0)
  where
    go : Dec ((step h S (direct c)).answer ≡ 0) → Again h S (direct c)
    go (yes done) =
        let r = (demand_2 h S).again c l a done in
        record {
          state = r.state;
          replied = λ i. record { answer = (r.answer ∙ sym done) i; named = (r.named ∙ sym ((demand_2 h S).unnamed c)) i };
        }
    go (no refused) =
        let same : step h (step h S (direct c)).state (direct c) ≡ step h S (direct c)
        = ap (λ (S' : State). step h S' (direct c)) ((demand_2 h S).refuses (direct c) refused).state in
        record { state = ap (λ (o : Outcome). o.state) same; replied = ap reply same }

again : (h : ℕ) (S : State) (c : Call) → is_grant c ≡ true → Again h S c
again h S (direct (grant_level t l m)) g = grant_again h S (grant_level t l m) l by_level
again h S (direct (grant_pages t p m)) g = grant_again h S (grant_pages t p m) (level_for h p) by_pages
again h S (direct (release t m)) g = absurd (false≢true g)
again h S (direct (grow t l m)) g = absurd (false≢true g)
again h S (join t l) g = absurd (false≢true g)
again h S (admit m) g = absurd (false≢true g)
again h S (withdraw t) g = absurd (false≢true g)

pub safe_to_repeat : (h : ℕ) (S : State) (cs : List Call) → SafeToRepeat h S cs
unfolding state_from replies_from grants_twice
safe_to_repeat h S [] = record { state = refl; replies = refl }
safe_to_repeat h S (c ∷ cs) = go (is_grant c) refl (safe_to_repeat h (step h S c).state cs)
  where
    go : (b : Bool) → is_grant c ≡ b → SafeToRepeat h (step h S c).state cs → SafeToRepeat h S (c ∷ cs)
    go true g rest =
        let a = again h S c g in
        record {
          state = rw g (ap (λ (T : State). state_from h T (grants_twice cs cs)) a.state ∙ rest.state);
          replies = rw g (
              ap₂ (λ (r : Reply) (rs : List Reply). reply (step h S c) ∷ r ∷ rs) a.replied
              (ap (λ (T : State). replies_from h T (grants_twice cs cs)) a.state ∙ rest.replies)
              );
        }
    go false g rest = record {
      state = rw g rest.state;
      replies = rw g (ap (λ (rs : List Reply). reply (step h S c) ∷ rs) rest.replies);
    }
