-- The plan that is chosen is the best of all plans.
use mathlib.Core.Path.{◌≡◌, ap, ◌∙◌}
use mathlib.Core.Bool.{true}
use Prim.Native.Nat.{ℕ, ◌+◌, ◌*◌, ◌^◌, ◌≤◌, ◌<◌}
use native.Mathlib.Omega.{arith}
use lib.Pow.{pow_pos}
use Rattle.staging.specs.Graph.{Group, Graph, Plan, pages_of, tenants_of, Earlier, Best}
use Rattle.staging.specs.Choice.{has, works?, cost_of, everyone, chosen_of, order_of}
use Rattle.staging.proofs.Bits.{has_below, number_of, number_below, group_of_number, number_of_has, number_greater}
use Rattle.staging.proofs.Sums.{sum_both, count_le}
use Rattle.staging.proofs.Running.{works_of_plan, plan_of, order_lowest_first}
use Rattle.staging.proofs.Searching.{chosen_cheapest, chosen_highest, chosen_to, chosen_works}

cost_is : (g : Graph) (S : Group) → cost_of g S ≡ pages_of g S * 8 + tenants_of g S
unfolding cost_of
cost_is g S = sum_both g.n S g.pages (λ k. 1)

module _ (g : Graph) where
  chosen_below : chosen_of g < 2 ^ g.n
  chosen_below = omega (arith, chosen_to g, pow_pos g.n)

  pub chosen_movers : (k : ℕ) → has (chosen_of g) k ≡ true → k < g.n
  chosen_movers k = has_below g.n (chosen_of g) k chosen_below

  -- the chosen group, and the others in the order of their going
  abbrev pub chosen_plan : Plan g
  chosen_plan = plan_of g (has (chosen_of g)) chosen_movers (chosen_works g)

  -- the staged group of a plan is that of its number
  module _ (q : Plan g) where
    abbrev number : ℕ
    number = number_of g.n q.staged

    group : has number ≡ q.staged
    group = group_of_number g.n q.staged q.only_movers

    number_works : works? g (has number) ≡ true
    number_works = ap (works? g) group ∙ works_of_plan g q

    number_to : number ≤ everyone g.n
    number_to = omega (arith, number_below g.n q.staged)

    pub cheapest : cost_of g (has (chosen_of g)) ≤ cost_of g q.staged
    cheapest = omega (arith, chosen_cheapest g number number_to number_works, ap (cost_of g) group)

    pub not_earlier : cost_of g q.staged ≡ cost_of g (has (chosen_of g)) → ¬ Earlier g q.staged (has (chosen_of g))
    not_earlier e r =
        let up = number_greater g.n q.staged (has (chosen_of g)) r.at r.a_mover r.in_one r.not_in_other r.lower_alike in
        let own = number_of_has g.n (chosen_of g) chosen_below in
        let most = chosen_highest g number number_to number_works (ap (cost_of g) group ∙ e) in
        omega (arith, up, own, most)

-- with at most seven movers
pub chosen_is_best : (g : Graph) → g.n ≤ 7 → Best g (chosen_plan g)
unfolding order_of
chosen_is_best g few = record {
  fewest_pages = λ q. omega (arith, cheapest g q, cost_is g (has (chosen_of g)), cost_is g q.staged, count_le g.n q.staged);
  fewest_tenants = λ q e. omega (arith, e, cheapest g q, cost_is g (has (chosen_of g)), cost_is g q.staged);
  first_list = λ q e f. not_earlier g q (omega (arith, e, f, cost_is g (has (chosen_of g)), cost_is g q.staged));
  lowest_first = order_lowest_first g g.n (has (chosen_of g));
}
