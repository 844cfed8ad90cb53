-- Every plan that can be carried out is a plan of the graph, with the same pages and as many tenants staged.
use mathlib.Core.Path.{◌≡◌, refl, sym, ap, ap₂, ◌∙◌, subst}
use mathlib.Core.Bool.{true, false, ◌||◌}
use mathlib.Core.List.{List, [], ◌∷◌, ◌++◌, map, map-append, append_assoc}
use Prim.Native.Nat.{ℕ, ◌+◌, ◌<◌}
use native.Mathlib.Omega.{arith}
use lib.ListN.{length}
use Rattle.staging.specs.Graph.{Group, joined, Run, nobody, next, pages_of, tenants_of}
use Rattle.staging.specs.Graph as Graph
use Rattle.table.specs.Table.{node_at}
use Rattle.table.specs.declared.Move.{Move}
use Rattle.carrying.specs.Carrying.{Lying, FreePages, laid, among, Once, lifted_out, LaidDown, Plan, newcomer_in, CarriedOut, pages_at}
use Rattle.carrying.specs.Carrying as Carrying
use Rattle.carrying.specs.Order.{waiting_of}
use Rattle.carrying.proofs.Moving.{Moving}
use Rattle.carrying.proofs.Lists.{is_first, is_other, is_neither, not_same, among_append, in_first_part, in_second_part}
use Rattle.carrying.proofs.Lists.{away_is, once_first, once_second, once_apart, once_of_map, sum_of_list}
use Rattle.carrying.proofs.Indices.{tenant_at, plan_by, Indices, tenant_among, indexed, pages_are}
use Rattle.carrying.proofs.Standing.{Standing, at_first, one_gone, can_go_if_free}

-- the plan in the graph
pub record InGraph (h : ℕ) (T : List ℕ) (ms : List Move) (q : Plan) : Type 0 where
  pub graph : Graph.Plan (waiting_of h ms)
  pub pages : pages_at h T q.staged ≡ pages_of (waiting_of h ms) graph.staged
  pub tenants : length q.staged ≡ tenants_of (waiting_of h ms) graph.staged
  pub group : (k : ℕ) → k < length ms → graph.staged k ≡ among (tenant_at ms k) q.staged

-- the first of those who are laid down, and the rest
first_laid : (h : ℕ) (T' : List ℕ) (L : Lying) (u : ℕ) (us : List ℕ) → LaidDown h T' L (u ∷ us)
    → FreePages h L (node_at T' u) × LaidDown h T' (laid L u (node_at T' u)) us
first_laid h T' _ _ _ (Carrying.next L u us free later) = (free, later)

module _ {h t : ℕ} {T T' : List ℕ} {ms : List Move} (M : Moving h t T T' ms) where
  -- movers who are laid down one by one go one by one
  run_of_laid : (A : Group) (L : Lying) → Standing T T' ms A L → (ks rest : List ℕ) → Indices ms ks → Once ks
      → ((j : ℕ) → among j ks ≡ true → A j ≡ false) → LaidDown h T' L (map (tenant_at ms) ks ++ rest) → Run (waiting_of h ms) A ks
  unfolding waiting_of
  run_of_laid A L S [] rest below once there d = nobody A
  run_of_laid A L S (k ∷ ks) rest below once there d =
      let k<n : k < length ms = below k (is_first k (among k ks)) in
      let r = first_laid h T' L (tenant_at ms k) (map (tenant_at ms) ks ++ rest) d in
      next A k ks k<n (there k (is_first k (among k ks))) (can_go_if_free M A L S k k<n r.0)
      (run_of_laid (joined A k) (laid L (tenant_at ms k) (node_at T' (tenant_at ms k))) (one_gone M A L k k<n S) ks rest
      (λ j e. below j (is_other j k (among j ks) e)) once.1
      (λ j e. is_neither j k (A j) (not_same ks j k e once.0) (there j (is_other j k (among j ks) e)))
      r.1)

  -- a plan by indices
  module _ (ks ss : List ℕ) (ks_below : Indices ms ks) (ss_below : Indices ms ss) (C : CarriedOut h t T T' (plan_by ms ks ss)) where
    once_both : Once (ks ++ ss)
    once_both = once_of_map (tenant_at ms) (ks ++ ss) (subst Once (sym (map-append (tenant_at ms) ks ss)) C.once)

    graph_plan : Graph.Plan (waiting_of h ms)
    unfolding waiting_of
    graph_plan = record {
      staged = λ k. among k ss;
      order = ks;
      only_movers = ss_below;
      goes = run_of_laid (λ k. among k ss) (lifted_out t T (map (tenant_at ms) ss)) (at_first M ss ss_below) ks
          (map (tenant_at ms) ss ++ newcomer_in T' t) ks_below (once_first ks ss once_both) (once_apart ks ss once_both)
          (subst (LaidDown h T' (lifted_out t T (map (tenant_at ms) ss)))
          (append_assoc (map (tenant_at ms) ks) (map (tenant_at ms) ss) (newcomer_in T' t)) C.works);
      everybody = λ k q.
          away_is (λ j. among j ss) ks k
          ∙ ap₂ ◌||◌ (sym (tenant_among M k ks q ks_below)) (sym (tenant_among M k ss q ss_below))
          ∙ sym (among_append (tenant_at ms k) (map (tenant_at ms) ks) (map (tenant_at ms) ss))
          ∙ (C.movers (tenant_at ms k)).1 (M.listed k q);
    }

    by_indices : InGraph h T ms (plan_by ms ks ss)
    unfolding waiting_of graph_plan
    by_indices = record {
      graph = graph_plan;
      pages = sum_of_list (length ms) (waiting_of h ms).pages (λ js. pages_at h T (map (tenant_at ms) js)) refl
          (λ k js q. ap (λ (x : ℕ). x + pages_at h T (map (tenant_at ms) js)) (sym (pages_are M k q))) ss (once_second ks ss once_both) ss_below;
      tenants = sum_of_list (length ms) (λ k. 1) (λ js. length (map (tenant_at ms) js)) refl
          (λ k js q. omega arith) ss (once_second ks ss once_both) ss_below;
      group = λ k q. sym (tenant_among M k ss q ss_below);
    }

  -- any plan
  pub in_graph : (q : Plan) → CarriedOut h t T T' q → InGraph h T ms q
  in_graph q C =
      let d = indexed M q.direct (λ u e. (C.movers u).0 (in_first_part u q.direct q.staged e)) in
      let s = indexed M q.staged (λ u e. (C.movers u).0 (in_second_part u q.direct q.staged e)) in
      let same : plan_by ms d.indices s.indices ≡ q = λ i. record { direct = d.tenants i; staged = s.tenants i } in
      subst (InGraph h T ms) same (by_indices d.indices s.indices d.of_movers s.of_movers (subst (CarriedOut h t T T') (sym same) C))
