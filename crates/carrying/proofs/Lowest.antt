-- In an order by lowest possible tenant number first, no lower one that is to go later has free pages.
use mathlib.Core.Path.{◌≡◌, sym, subst}
use mathlib.Core.Bool.{true, false}
use mathlib.Core.List.{List, [], ◌∷◌, ◌++◌, map, nil≢cons, head-eq_of_cons-eq, tail-eq_of_cons-eq}
use Prim.Native.Nat.{ℕ, ◌<◌}
use lib.ListN.{length}
use Rattle.staging.specs.Graph.{Group, Graph, joined, CanGo, Run, nobody, next, LowestFirst}
use Rattle.table.specs.Table.{node_at}
use Rattle.table.specs.declared.Move.{Move}
use Rattle.carrying.specs.Carrying.{Lying, FreePages, laid, among, lying_after}
use Rattle.carrying.specs.Order.{waiting_of}
use Rattle.carrying.proofs.Moving.{Moving}
use Rattle.carrying.proofs.Lists.{neither, from_map}
use Rattle.carrying.proofs.Indices.{tenant_at, higher_index}
use Rattle.carrying.proofs.Standing.{Standing, one_gone, can_go_if_free}
use Rattle.carrying.proofs.Runs.{run_below, run_there}

-- the first of the order, and the rest
first_lowest : (g : Graph) (A : Group) (k : ℕ) (ks : List ℕ) → LowestFirst g A (k ∷ ks)
    → ((j : ℕ) → k < j → j < g.n → A j ≡ false → ¬ CanGo g A j) × LowestFirst g (joined A k) ks
first_lowest g _ _ _ (next A k ks lowest more) = (lowest, more)

not_empty : (us : List ℕ) (u : ℕ) (vs : List ℕ) → ¬ (◌≡◌ {A = List ℕ} [] (us ++ (u ∷ vs)))
not_empty [] u vs e = nil≢cons e
not_empty (w ∷ us) u vs e = nil≢cons e

module _ {h t : ℕ} {T T' : List ℕ} {ms : List Move} (M : Moving h t T T' ms) where
  pub no_lower_free : (A : Group) (L : Lying) (ks : List ℕ) → Standing T T' ms A L → Run (waiting_of h ms) A ks → LowestFirst (waiting_of h ms) A ks
      → (us vs : List ℕ) (u v : ℕ) → map (tenant_at ms) ks ≡ us ++ (u ∷ vs) → among v vs ≡ true → v < u
      → ¬ FreePages h (lying_after T' L us) (node_at T' v)
  unfolding waiting_of
  no_lower_free _ L _ S (nobody A) low us vs u v e later less = absurd (not_empty us u vs e)
  no_lower_free _ L _ S (next A k ks q there can rest) low [] vs u v e later less = λ free.
      let g = waiting_of h ms in
      let r = from_map (tenant_at ms) v ks (subst (λ (ws : List ℕ). among v ws ≡ true) (sym (tail-eq_of_cons-eq e)) later) in
      let j = r.0 in
      let j<n : j < length ms = run_below g (joined A k) ks rest j r.1 in
      let above : k < j = higher_index M j k j<n q (rw (r.2, head-eq_of_cons-eq e) less) in
      (first_lowest g A k ks low).0 j above j<n (neither j k (A j) (run_there g (joined A k) ks rest j r.1)).1
      (can_go_if_free M A L S j j<n (subst (λ (w : ℕ). FreePages h L (node_at T' w)) (sym r.2) free))
  no_lower_free _ L _ S (next A k ks q there can rest) low (w ∷ us) vs u v e later less =
      let g = waiting_of h ms in
      let after = no_lower_free (joined A k) (laid L (tenant_at ms k) (node_at T' (tenant_at ms k))) ks (one_gone M A L k q S) rest
      (first_lowest g A k ks low).1 us vs u v (tail-eq_of_cons-eq e) later less in
      subst (λ (x : ℕ). ¬ FreePages h (lying_after T' (laid L x (node_at T' x)) us) (node_at T' v)) (head-eq_of_cons-eq e) after
