-- The planner may be asked in every call that is accepted, and what it plans is what the value-level call says.
use mathlib.Core.Path.{◌≡◌, refl, sym, ap, ◌∙◌, subst}
use mathlib.Core.Bool.{true}
use mathlib.Core.List.{List}
use Prim.Native.Nat.{ℕ, ◌+◌, ◌-◌, ◌^◌, ◌≤◌, ◌<◌}
use native.Mathlib.Nat.{le_trans}
use native.Mathlib.Omega.{arith}
use native.Mathlib.Decide.{ℕ_discrete, dec_lt}
use borrow.Author.Tests.{le-leb, lt-leb}
use lib.ListN.{length, get_or, set, length-set}
use lib.Seq.{get_or-take, get_or-set_same, get_or-set_other, set-get_or, set_out}
use lib.Pow.{pow_mono}
use Rattle.std.specs.Prelude.{Ok}
use Rattle.tree.specs.Node.{level}
use Rattle.layout.specs.Layout.{pages}
use Rattle.layout.specs.Set.{layout_set}
use Rattle.layout.specs.Change.{one_block_more, one_block_fewer}
use Rattle.layout.specs.Rows.{no_level, rows_of}
use Rattle.table.specs.Table.{node_at, occupied, counts_of, tenants_at, in_order?, InOrder}
use Rattle.table.specs.Owners.{owners_of}
use Rattle.table.specs.Pairing.{newcomer, moved, moves_of, written}
use Rattle.plans.specs.Plan.{no_move, moves_in, plan_of, Plannable, AllPlanned}
use Rattle.table.specs.declared.Move.{Move}
use Rattle.plans.specs.declared.Plan.{Plan}
use Rattle.plans.specs.declared.Planned.{Planned}
use Rattle.table.proofs.Used.{tally_le_length}
use Rattle.table.proofs.Order.{counts_at, in_order_fits, in_order_iff}
use Rattle.table.proofs.Moved.{Movable, moved_nothing, moved_in_new}
use Rattle.table.proofs.Moves.{Moves, moves_in_list}
use Rattle.plans.proofs.Written.{written_is_moved}
use Rattle.plans.proofs.PlanOf.{moves_in_plan_of, count_in_plan_of, made_of_its_moves}
use Rattle.plans.proofs.PlanLaws.{Replan, plannable, plan_of_table, replan}
use Rattle.carrying.specs.Order.{moves_in_order, Orderable}
use Rattle.rules.specs.Step.{counts_but}
use Rattle.rules.specs.History.{in_table}
use Rattle.rules.specs.Value.{Gives, TenantsIn}
use Rattle.rules.specs.declared.Done.{Done}
use Rattle.calls.specs.Changes.{Ready, Looked, others, Target, given_up, placed, Resettled, place_on, release_on}
use Rattle.calls.specs.declared.change.Look.{Look}
use Rattle.std.proofs.Math.Nat.{pos_of_ne-zero}
use Rattle.layout.specs.Counts.{more}
use Rattle.layout.proofs.Counting.{more_below}
use Rattle.rules.proofs.Given.{gives_same}
use Rattle.rules.proofs.Kept.{Kept, level_in_counts}
use Rattle.rules.proofs.Struck.{node_after_set}
use Rattle.rules.proofs.Placing.{Coming, new_counts_fit, coming_movable, grant_coming}
use Rattle.rules.proofs.Releasing.{release_movable, counts_before, level_in_fewer, fewer_counts_fit, growth_coming}
use Rattle.rules.proofs.Reported.{grant_moves_few, release_moves_few, growth_moves_few}
use Rattle.rules.proofs.Accepted.{kept_of_order}
use Rattle.calls.proofs.Changing.{others_are_all, nothing_to_strike, others_of_holder, place_with_room, release_by_holder}

-- a reserve has at most 4,096 pages
pages_below : (h n : ℕ) → h ≤ 12 → n ≤ 2 ^ h → n ≤ 4096
pages_below h n q p = le_trans p (pow_mono q)

-- no level has more blocks than the table has entries
count_below : (h : ℕ) (T : List ℕ) (l : ℕ) → l < 13 → get_or (counts_of h T) l 0 ≤ length T
unfolding tenants_at
count_below h T l q = rw (counts_at h T l q) (tally_le_length _ T)

-- one fewer on a level leaves no level with more
fewer_at_most : (cs : List ℕ) (x l : ℕ) → get_or (one_block_fewer cs x) l 0 ≤ get_or cs l 0
fewer_at_most cs x l = go (ℕ_discrete l x) (dec_lt x (length cs))
  where
    go : Dec (l ≡ x) → Dec (x < length cs) → get_or (one_block_fewer cs x) l 0 ≤ get_or cs l 0
    go (yes e) (yes q) = rw (e, get_or-set_same cs x (get_or cs x 0 - 1) 0 q) (omega arith)
    go (yes e) (no q) = rw (set_out cs x (get_or cs x 0 - 1) (omega arith)) (omega arith)
    go (no ne) q = rw (get_or-set_other cs x l (get_or cs x 0 - 1) 0 ne) (omega arith)

-- a plan's tenants are in the table that it was made for
tenants_of_plan : {h : ℕ} {cs ds : List ℕ} {gone : ℕ} {T owners : List ℕ} (p : Replan h cs ds gone T owners) (x : ℕ) (r : Planned)
    → AllPlanned h (rows_of cs) (rows_of ds) gone x owners r → TenantsIn T r.plan
tenants_of_plan {h} {cs} {ds} {gone} {T} {owners} p x r planned =
    let moves = moves_of h (layout_set h ds) T in
    let q = (plan_of_table p x r planned).0 in
    let count = count_in_plan_of r.plan moves q in
    record {
      few = rw count p.few;
      tenants = λ i i<n.
          rw (← (get_or-take r.plan.n r.plan.moves i no_move i<n), moves_in_plan_of r.plan moves q)
          (moves_in_list p.movable no_move i (rw count at i<n)).inside_table;
    }

-- and its moves are between nodes of the tree
plan_orderable : {h : ℕ} {cs ds : List ℕ} {gone : ℕ} {T owners : List ℕ} (p : Replan h cs ds gone T owners) (x : ℕ) (r : Planned)
    → AllPlanned h (rows_of cs) (rows_of ds) gone x owners r → Orderable h r.plan
plan_orderable {h} {cs} {ds} {gone} {T} {owners} p x r planned =
    let moves = moves_of h (layout_set h ds) T in
    let q = (plan_of_table p x r planned).0 in
    let count = count_in_plan_of r.plan moves q in
    let at : (i : ℕ) → i < r.plan.n → Moves h (layout_set h ds) T (get_or r.plan.moves i no_move) = λ i i<n.
    rw (← (get_or-take r.plan.n r.plan.moves i no_move i<n), moves_in_plan_of r.plan moves q)
    (moves_in_list p.movable no_move i (rw count at i<n)) in
    record {
      height = p.height;
      made = record { whole = made_of_its_moves r.plan moves q; few = rw count p.few };
      old_in_tree = λ i i<n. record { above_zero = (at i i<n).from_above_zero; in_height = rw (at i i<n).from_is (p.movable.in_tree _) };
      new_in_tree = λ i i<n.
          rw (at i i<n).to_is
          (p.movable.within _ (moved_in_new p.movable _ (subst (λ (n : ℕ). 0 < n) (at i i<n).from_is (at i i<n).from_above_zero)));
    }

module _ {h : ℕ} {T : List ℕ} {t : ℕ} (ready : Ready h T t) (seen : in_order? h T ≡ true) where
  order : InOrder h T
  order = (in_order_iff h T ready.height).0 seen

  kept : Kept h T (in_table h T)
  kept = kept_of_order h T ready.height ready.entries order

  abbrev struck : List ℕ
  struck = set T t 0

  -- a newcomer comes onto the same table, and one that grows onto the table without its entry
  coming : (l : ℕ) → l ≤ h → pages (others h T t) + 2 ^ l ≤ 2 ^ h → Coming h T t l struck (others h T t)
  coming l low fits = go (ℕ_discrete (node_at T t) 0)
    where
      go : Dec (node_at T t ≡ 0) → Coming h T t l struck (others h T t)
      go (yes z) =
          rw (others_are_all h T t z, nothing_to_strike h T t z) (grant_coming kept t l ready.tenant z low (rw (← others_are_all h T t z) fits))
      go (no nz) =
          let same = others_of_holder h T t nz in
          rw same (growth_coming h T (in_table h T) kept t ready.tenant (pos_of_ne-zero nz) l low (rw (← same) fits))

  -- few of the others have to move for it
  coming_few : (l : ℕ) → l ≤ h → Movable h (layout_set h (one_block_more (others h T t) l)) struck
      → length (moves_of h (layout_set h (one_block_more (others h T t) l)) struck) ≤ 7
  coming_few l low = go (ℕ_discrete (node_at T t) 0)
    where
      in_counts : l < length (counts_of h T)
      in_counts = level_in_counts h T (in_table h T) kept l low

      go : Dec (node_at T t ≡ 0) → Movable h (layout_set h (one_block_more (others h T t) l)) struck
          → length (moves_of h (layout_set h (one_block_more (others h T t) l)) struck) ≤ 7
      go (yes z) =
          rw (others_are_all h T t z, nothing_to_strike h T t z)
          (λ M. omega (arith, grant_moves_few h T l ready.height order in_counts M))
      go (no nz) =
          let holds = pos_of_ne-zero nz in
          let x = level h (node_at T t) in
          let fewer = counts_but h T t in
          rw (others_of_holder h T t nz)
          (growth_moves_few h T t x fewer ready.height order (level_in_fewer h T (in_table h T) kept t ready.tenant holds)
          (counts_before h T (in_table h T) kept t ready.tenant holds) l (rw (length-set (counts_of h T) x _) in_counts))

  -- what is planned for: the others can move, few of them have to, and the counts fit
  record CanSettle (ds : List ℕ) : Type 0 where
    movable : Movable h (layout_set h ds) struck
    few : length (moves_of h (layout_set h ds) struck) ≤ 7
    fits : pages ds ≤ 2 ^ h

  can_settle : (ds : List ℕ) (x : ℕ) → Target h T t ds x → CanSettle ds
  can_settle ds x (given_up holds) =
      let B = in_table h T in
      let M = release_movable h T B kept t ready.tenant holds in
      let level_in = level_in_fewer h T B kept t ready.tenant holds in
      let before = counts_before h T B kept t ready.tenant holds in
      let few = release_moves_few h T t (level h (node_at T t)) (counts_but h T t) ready.height order level_in before M in
      rw (others_of_holder h T t (λ z. omega (arith, holds, z)))
      (record { movable = M; few = omega (arith, few); fits = fewer_counts_fit h T B kept t ready.tenant holds })
  can_settle ds x (placed l low room) =
      let C = coming l low room in
      record { movable = coming_movable C; few = coming_few l low (coming_movable C); fits = new_counts_fit C }

  module _ {ds : List ℕ} {x : ℕ} (goal : Target h T t ds x) where
    asked : Replan h (counts_of h T) ds (node_at T t) struck (owners_of 8192 T)
    asked =
        let p = can_settle ds x goal in
        replan h T ready.height order t ds (rw ready.entries ready.tenant) p.fits p.movable p.few

    pub target_fits : pages ds ≤ 4096
    target_fits = pages_below h (pages ds) ready.height asked.new_fits

  -- ---- what the two callers make of it

  pub place_gives : {l : ℕ} → l ≤ h → pages (others h T t) + 2 ^ l ≤ 2 ^ h → {r : Done} {T' : List ℕ}
      → Resettled h T t (one_block_more (others h T t) l) l r T' → Gives (place_on h T t l) (Ok r) T'
  place_gives {l} low room {r} {T'} done =
      let N = layout_set h (one_block_more (others h T t) l) in
      let node : r.node ≡ newcomer h (occupied struck) N l = done.node ∙ rw (le-leb l h low) in
      gives_same
      (record { answer = refl; node = node; plan = done.plan; table = done.table ∙ ap (set (moved h N struck) t) node })
      (place_with_room h T t l room)

  pub release_gives : ¬ (node_at T t ≡ 0) → {r : Done} {T' : List ℕ} → Resettled h T t (others h T t) no_level r T'
      → Gives (release_on h T t) (Ok (record { node = node_at T t; plan = r.plan })) T'
  release_gives holds {r} {T'} done =
      let M = (can_settle (others h T t) no_level (given_up (pos_of_ne-zero holds))).movable in
      let N = layout_set h (others h T t) in
      let none : r.node ≡ 0 = done.node ∙ rw (lt-leb no_level h (omega arith)) in
      let out : node_at (moved h N struck) t ≡ 0 = moved_nothing M t (node_after_set T t 0 (rw ready.entries ready.tenant)) in
      let same = others_of_holder h T t holds in
      gives_same
      (record {
        answer = refl;
        node = refl;
        plan = done.plan ∙ ap (λ (cs : List ℕ). plan_of (moves_in_order h (moves_of h (layout_set h cs) struck))) same;
        table = done.table
            ∙ ap (set (moved h N struck) t) (none ∙ sym out)
            ∙ set-get_or (moved h N struck) t 0
            ∙ ap (λ (cs : List ℕ). moved h (layout_set h cs) struck) same;
      })
      (release_by_holder h T t holds)

  -- the counts of the others, for which the room is asked
  others_below : (l : ℕ) → l ≤ h → get_or (others h T t) l 0 < 65535
  others_below l low = go (ℕ_discrete (node_at T t) 0)
    where
      below : get_or (counts_of h T) l 0 < 65535
      below = omega (arith, count_below h T l (omega arith))

      go : Dec (node_at T t ≡ 0) → get_or (others h T t) l 0 < 65535
      go (yes z) = rw (others_are_all h T t z) below
      go (no nz) = rw (others_of_holder h T t nz) (omega (arith, below, fewer_at_most (counts_of h T) (level h (node_at T t)) l))

  pub others_fit : pages (others h T t) ≤ 4096
  others_fit = go (ℕ_discrete (node_at T t) 0)
    where
      go : Dec (node_at T t ≡ 0) → pages (others h T t) ≤ 4096
      go (yes z) = rw (others_are_all h T t z) (pages_below h (pages (counts_of h T)) ready.height (in_order_fits h T ready.height order))
      go (no nz) = target_fits (given_up (pos_of_ne-zero nz))

  pub newcomer_counted : {l : ℕ} {cs ds : List ℕ} → l ≤ h → cs ≡ others h T t → ds ≡ more cs l → ds ≡ one_block_more (others h T t) l
  newcomer_counted {l} low same is =
      is ∙ ap (λ (xs : List ℕ). more xs l) same ∙ more_below (others h T t) l (others_below l low)

-- ---- what is planned with a look at the table

module _ {h : ℕ} {T : List ℕ} {t : ℕ} {k : Look} (ready : Ready h T t) (looked : Looked h T k) where
  module _ {ds : List ℕ} {x : ℕ} (goal : Target h T t ds x) where
    replanned : Replan h (counts_of h T) ds (node_at T t) (set T t 0) (owners_of 8192 T)
    replanned = asked ready looked.in_order goal

    pub old_counts_fit : pages k.counts.at ≤ 4096
    old_counts_fit = rw looked.counts (pages_below h (pages (counts_of h T)) ready.height replanned.old_fits)

    pub target_plannable : Plannable h (rows_of k.counts.at) (rows_of ds) (node_at T t) k.owners.now
    target_plannable = rw (looked.counts, looked.owners) (plannable replanned)

    module _ {r : Planned} (planned : AllPlanned h (rows_of k.counts.at) (rows_of ds) (node_at T t) x k.owners.now r) where
      on_table : AllPlanned h (rows_of (counts_of h T)) (rows_of ds) (node_at T t) x (owners_of 8192 T) r
      on_table = rw (looked.counts, looked.owners) at planned

      pub target_tenants : TenantsIn (set T t 0) r.plan
      target_tenants = tenants_of_plan replanned x r on_table

      pub target_orderable : Orderable h r.plan
      target_orderable = plan_orderable replanned x r on_table

      pub target_resettled : {T' : List ℕ} {q : Plan} → T' ≡ written (set T t 0) (moves_in r.plan) → q ≡ plan_of (moves_in_order h (moves_in r.plan))
          → Resettled h T t ds x (record { plan = q; node = r.node }) (set T' t r.node)
      target_resettled done ordered =
          let p = plan_of_table replanned x r on_table in
          let moves = moves_in_plan_of r.plan (moves_of h (layout_set h ds) (set T t 0)) p.0 in
          record {
            plan = ordered ∙ ap (λ (ms : List Move). plan_of (moves_in_order h ms)) moves;
            node = p.1;
            table = ap (λ (S : List ℕ). set S t r.node) (done ∙ ap (written (set T t 0)) moves ∙ written_is_moved replanned.movable);
          }
