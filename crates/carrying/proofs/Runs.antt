-- The movers that a run names: each once, none that was away before.
use mathlib.Core.Path.{◌≡◌, sym, ap, ◌∙◌}
use mathlib.Core.Bool.{true, false, true≢false, false≢true}
use mathlib.Core.Logic.{◌⊎◌, inl, inr}
use mathlib.Core.List.{List}
use Prim.Native.Nat.{ℕ, ◌<◌}
use native.Mathlib.Omega.{arith}
use Rattle.staging.specs.Graph.{Group, Graph, joined, Run, nobody, next}
use Rattle.staging.proofs.Booleans.{false_if_not_true}
use Rattle.staging.proofs.Running.{joined_self}
use Rattle.carrying.specs.Carrying.{among, Once}
use Rattle.carrying.proofs.Lists.{one_or_other, neither}

-- they are movers
pub run_below : (g : Graph) (A : Group) (ks : List ℕ) → Run g A ks → (k : ℕ) → among k ks ≡ true → k < g.n
run_below g _ _ (nobody A) k e = absurd (false≢true e)
run_below g _ _ (next A j ks q there can rest) k e = by_case (one_or_other k j (among k ks) e) (run_below g (joined A j) ks rest k)
  where
    by_case : (k ≡ j) ⊎ (among k ks ≡ true) → (among k ks ≡ true → k < g.n) → k < g.n
    by_case (inl same) later = omega arith
    by_case (inr f) later = later f

-- nobody who goes is away before
pub run_there : (g : Graph) (A : Group) (ks : List ℕ) → Run g A ks → (k : ℕ) → among k ks ≡ true → A k ≡ false
run_there g _ _ (nobody A) k e = absurd (false≢true e)
run_there g _ _ (next A j ks q there can rest) k e = by_case (one_or_other k j (among k ks) e) (run_there g (joined A j) ks rest k)
  where
    by_case : (k ≡ j) ⊎ (among k ks ≡ true) → (among k ks ≡ true → joined A j k ≡ false) → A k ≡ false
    by_case (inl same) later = ap A same ∙ there
    by_case (inr f) later = (neither k j (A k) (later f)).1

pub run_once : (g : Graph) (A : Group) (ks : List ℕ) → Run g A ks → Once ks
run_once g _ _ (nobody A) = tt
run_once g _ _ (next A k ks q there can rest) = (
  false_if_not_true (among k ks) (λ e. true≢false (sym (joined_self A k) ∙ run_there g (joined A k) ks rest k e)),
  run_once g (joined A k) ks rest,
)
