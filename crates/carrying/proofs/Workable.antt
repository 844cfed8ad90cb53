-- The list of moves as it is computed is that of document 02: the best of all plans that can be carried out.
use mathlib.Core.Path.{◌≡◌, refl, sym, ap, ◌∙◌, subst}
use mathlib.Core.Bool.{Bool, true, false, cond, true≢false}
use mathlib.Core.List.{List, ◌∷◌, map}
use Prim.Native.Nat.{ℕ, zero, suc, ◌≤◌, ◌<◌}
use native.Mathlib.Omega.{arith}
use lib.ListN.{length}
use Rattle.staging.specs.Graph.{Group, Graph, away, Run, LowestFirst, Earlier, Best, sum_over, pages_of, tenants_of}
use Rattle.staging.specs.Choice.{has, order_of}
use Rattle.staging.proofs.Booleans.{false_if_not_true}
use Rattle.staging.proofs.Sums.{sum_cong}
use Rattle.staging.proofs.Best.{chosen_plan, chosen_movers, chosen_is_best}
use Rattle.table.specs.declared.Move.{Move}
use Rattle.carrying.specs.Carrying.{among, lifted_out, Plan, CarriedOut, pages_at, Ascending, Before, AscendingOf, BestPlan, Workable, plan_in}
use Rattle.carrying.specs.Order.{waiting_of, staged_in, worked, by_tenant, moves_in_order, members}
use Rattle.carrying.proofs.Moving.{Unsorted, Moving}
use Rattle.carrying.proofs.Ordered.{moving_by_tenant}
use Rattle.carrying.proofs.Lists.{from_map, of_members, in_members, once_members, first_difference, in_second_part}
use Rattle.carrying.proofs.Indices.{tenant_at, plan_by, Indices, tenant_among}
use Rattle.carrying.proofs.Standing.{at_first}
use Rattle.carrying.proofs.FromPages.{InGraph, in_graph}
use Rattle.carrying.proofs.ToPages.{carried_out}
use Rattle.carrying.proofs.Spelling.{plan_of_list, at_most_one, zeros_first}
use Rattle.carrying.proofs.Lowest.{no_lower_free}
use Rattle.carrying.proofs.Arriving.{carried_arrives}

module _ {h t : ℕ} {T T' : List ℕ} {ms : List Move} (M : Moving h t T T' ms) where
  -- from the highest index down the tenant numbers ascend
  ascending_members : (n : ℕ) (S : Group) → n ≤ length ms → Ascending (map (tenant_at ms) (members n S))
  ascending_members zero S q = tt
  ascending_members (suc n) S q = by_test (S n) (ascending_members n S (omega arith))
    where
      by_test : (b : Bool) → Ascending (map (tenant_at ms) (members n S)) → Ascending (map (tenant_at ms) (cond b (n ∷ members n S) (members n S)))
      by_test false a = a
      by_test true a = (
        λ v e.
            let r = from_map (tenant_at ms) v (members n S) e in
            subst (λ (w : ℕ). tenant_at ms n < w) r.2 (M.standing r.0 n (of_members n S r.0 r.1).0 (omega arith)),
        a,
      )

  -- the graph of the movers, the group that is staged, the others in the order of their going, and the staged by tenant number
  abbrev graph : Graph
  graph = waiting_of h ms

  abbrev group : Group
  group = has (staged_in h ms)

  abbrev order : List ℕ
  order = order_of graph group

  abbrev aside : List ℕ
  aside = members (length ms) group

  -- just the members of the group stand in the list of its members
  group_listed : (λ k. among k aside) ≡ group
  unfolding waiting_of
  group_listed = λ i k. alike k i
    where
      alike : (k : ℕ) → among k aside ≡ group k
      alike k = by_test (group k) refl
        where
          by_test : (b : Bool) → group k ≡ b → among k aside ≡ b
          by_test true e = in_members (length ms) group k (chosen_movers graph k e) e
          by_test false e = false_if_not_true (among k aside) (λ f. true≢false (sym (of_members (length ms) group k f).1 ∙ e))

  aside_below : Indices ms aside
  aside_below k e = (of_members (length ms) group k e).0

  best : Best graph (chosen_plan graph)
  unfolding waiting_of
  best = chosen_is_best graph M.few

  goes : Run graph (λ k. among k aside) order
  unfolding order_of
  goes = subst (λ (A : Group). Run graph A order) (sym group_listed) (chosen_plan graph).goes

  carried : CarriedOut h t T T' (plan_by ms order aside)
  unfolding waiting_of order_of
  carried =
      carried_out M order aside aside_below (once_members (length ms) group) goes
      (λ k q. ap (λ (A : Group). away A order k) group_listed ∙ (chosen_plan graph).everybody k q)

  -- a mover stands in the list of the staged if it is in the group
  tenant_listed : (k : ℕ) → k < length ms → among (tenant_at ms k) (map (tenant_at ms) aside) ≡ group k
  tenant_listed k q = tenant_among M k aside q aside_below ∙ ap (λ (A : Group). A k) group_listed

  -- the plan that is listed, in the graph: its staged are those of the chosen plan
  own : InGraph h T ms (plan_by ms order aside)
  own = in_graph M (plan_by ms order aside) carried

  own_sum : (f : ℕ → ℕ) → sum_over graph.n own.graph.staged f ≡ sum_over graph.n group f
  unfolding waiting_of
  own_sum f = sum_cong (length ms) own.graph.staged group f (λ k q. own.group k q ∙ tenant_listed k q)

  own_pages : pages_at h T (map (tenant_at ms) aside) ≡ pages_of graph group
  own_pages = own.pages ∙ own_sum graph.pages

  own_tenants : length (map (tenant_at ms) aside) ≡ tenants_of graph group
  own_tenants = own.tenants ∙ own_sum (λ k. 1)

  -- an earlier list of the staged is one of an earlier group
  earlier : (q : Plan) (C : CarriedOut h t T T' q) (vs : List ℕ) → AscendingOf q.staged vs → Before vs (map (tenant_at ms) aside)
      → Earlier graph (in_graph M q C).graph.staged group
  unfolding waiting_of
  earlier q C vs A before =
      let G = in_graph M q C in
      let d = first_difference vs (map (tenant_at ms) aside) before A.ascending (ascending_members (length ms) group (omega arith)) in
      let in_staged : among d.at q.staged ≡ true = sym (A.members d.at) ∙ d.in_one in
      let i = M.all_listed d.at ((C.movers d.at).0 (in_second_part d.at q.direct q.staged in_staged)) in
      record {
        at = i.0;
        a_mover = i.1;
        in_one = G.group i.0 i.1 ∙ ap (λ (u : ℕ). among u q.staged) i.2 ∙ in_staged;
        not_in_other =
            sym (tenant_listed i.0 i.1) ∙ ap (λ (u : ℕ). among u (map (tenant_at ms) aside)) i.2 ∙ d.not_in_other;
        lower_alike = λ j above r.
            G.group j r
            ∙ sym (A.members (tenant_at ms j))
            ∙ d.lower_alike (tenant_at ms j) (omega (arith, i.2, M.standing i.0 j above r))
            ∙ tenant_listed j r;
      }

  best_plan : BestPlan h t T T' (plan_by ms order aside)
  unfolding order_of
  best_plan = record {
    carried_out = carried;
    fewest_pages = λ q C.
        let G = in_graph M q C in
        omega (arith, own_pages, G.pages, best.fewest_pages G.graph);
    fewest_tenants = λ q C e.
        let G = in_graph M q C in
        omega (arith, own_tenants, G.tenants, best.fewest_tenants G.graph (sym G.pages ∙ e ∙ own_pages));
    first_list = λ q C e f vs A before.
        let G = in_graph M q C in
        best.first_list G.graph (sym G.pages ∙ e ∙ own_pages) (sym G.tenants ∙ f ∙ own_tenants) (earlier q C vs A before);
    lowest_first =
        no_lower_free M (λ k. among k aside) (lifted_out t T (map (tenant_at ms) aside)) order (at_first M aside aside_below) goes
        (subst (λ (A : Group). LowestFirst graph A order) (sym group_listed) best.lowest_first);
    by_number = ascending_members (length ms) group (omega arith);
  }

pub worked_workable : (h t : ℕ) (T T' : List ℕ) (ms : List Move) → Moving h t T T' ms → Workable h t T T' (worked h ms)
unfolding worked
worked_workable h t T T' ms M = let listed = subst (BestPlan h t T T') (sym (plan_of_list ms (order M) (aside M))) (best_plan M) in record {
  best = listed;
  arrives = carried_arrives M (plan_in (worked h ms)) listed.carried_out;
  zero_or_one = at_most_one ms (aside M) (order M);
  direct_first = zeros_first ms (aside M) (order M);
}

-- the same of movers that stand in any order
pub in_order_workable : (h t : ℕ) (T T' : List ℕ) (ms : List Move) → Unsorted h t T T' ms → Workable h t T T' (moves_in_order h ms)
unfolding moves_in_order
in_order_workable h t T T' ms u = worked_workable h t T T' (by_tenant ms) (moving_by_tenant h t T T' ms u)
