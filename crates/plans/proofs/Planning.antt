-- Two layouts' moves, level by level: what one level adds, and that in the end the plan has the moves of all.
use mathlib.Core.Path.{◌≡◌, refl, sym, ap, ◌∙◌}
use mathlib.Core.Bool.{true, cond, not, false≢true, and-eq-true_iff}
use mathlib.Core.List.{List, [], ◌∷◌, ◌++◌, map, map-append, append-nil, append_assoc}
use Prim.Native.Nat.{ℕ, zero, suc, ◌+◌, ◌-◌, ◌^◌, ◌≤◌, ◌<◌}
use native.Mathlib.Nat.{sub-zero}
use native.Mathlib.Numerals.{add-one}
use native.Mathlib.Decide.{dec_lt, ℕ_discrete}
use native.Mathlib.Omega.{arith}
use borrow.Author.Tests.{lt-ltb, le-ltb, le-leb, lt-leb, eq-eqb, ne_eqb}
use lib.Dec.{eqb, ltb}
use lib.ListN.{length, get_or, length-append, length-map, get_or-eq_default}
use Rattle.tree.specs.Held.{Nodes}
use Rattle.layout.specs.Rows.{no_index, holds_node}
use Rattle.layout.specs.declared.Layout.{Layout}
use Rattle.table.specs.Pairing.{shifts_from, shifts, newcomer}
use Rattle.plans.specs.Plan.{row_holds, only_from, moves_in, plan_of, nodes_at, level_shifts, spare_index, move_of, Shiftable, LevelShifted}
use Rattle.plans.specs.Plan.{row_of, index_on, node_on, nodes_but, shifts_at, shifts_of, newcomer_on, Plannable, LevelPlanned, AllPlanned}
use Rattle.plans.specs.declared.Row.{Row}
use Rattle.plans.specs.declared.Shifted.{Shifted}
use Rattle.plans.specs.declared.Planned.{Planned}
use Rattle.table.specs.declared.Move.{Move}
use Rattle.plans.proofs.PlanOf.{moves_in_plan_of, count_in_plan_of, made_of_its_moves}
use Rattle.plans.proofs.LeastIndex.{only_listed}
use Rattle.plans.proofs.RowNodes.{RowOf, old_row, new_row, few_nodes, old_row_holds, new_row_holds, level_leavers, level_places, level_shifts_are}

-- the index that a row has is an index of the level
row_index : {b : ℕ} {w : Row} {A : Nodes} → RowOf b w A → (i : ℕ) → i < no_index → row_holds w i ≡ true → i < b
row_index {b} r i q e =
    elim (dec_lt i b) [
      | yes s ↦ s
      | no s ↦ absurd (false≢true (sym (r.none_past i (omega arith) q) ∙ e))
    ]

-- the place left over is in the new row, if there is one
spare_held : (v w : Row) → ¬ (spare_index v w ≡ no_index) → (spare_index v w < no_index) × (row_holds w (spare_index v w) ≡ true)
unfolding spare_index
spare_held v w some =
    elim (dec_lt (length (only_from v w 0)) (length (only_from w v 0))) [
      | yes q ↦
          let listed = only_listed w v 0 (omega arith) (length (only_from v w 0)) no_index q in
          (listed.0, ((and-eq-true_iff (row_holds w (spare_index v w)) (not (row_holds v (spare_index v w)))).0 listed.1).0)
      | no q ↦ absurd (some (get_or-eq_default (only_from w v 0) no_index (omega arith)))
    ]

-- the node of an index of a list, where no_index stands for none
node_of_index : (b : ℕ) (xs : List ℕ) (k : ℕ) → (k < length xs → get_or xs k no_index < no_index)
    → node_on b (get_or xs k no_index) ≡ get_or (nodes_at b xs) k 0
node_of_index b [] k below = refl
node_of_index b (x ∷ xs) zero below = rw (ne_eqb x no_index (omega (arith, below (omega arith))))
node_of_index b (x ∷ xs) (suc k) below = node_of_index b xs k (λ q. below (omega arith))

module _ {h : ℕ} {old new : Layout} {gone : ℕ} {owners : List ℕ} (p : Plannable h old new gone owners) (l : ℕ) (q : l ≤ h) where
  level_shiftable : Shiftable (2 ^ (h - l)) (old_row h old gone l) (new_row new l) owners
  level_shiftable =
      record {
        old_fits = omega (arith, (p.old_within l q).run_within, few_nodes p l q);
        new_fits = omega (arith, (p.new_within l q).run_within, few_nodes p l q);
        leaves = λ i r e.
            let s = row_index (old_row_holds p l q) i r e in
            (omega (arith, few_nodes p l q), p.owned (2 ^ (h - l) + i) (sym ((old_row_holds p l q).same i s) ∙ e));
        takes = λ i r e. let s = row_index (new_row_holds p l q) i r e in omega (arith, few_nodes p l q);
      }

  spare_fits : (s : ℕ) → s ≡ spare_index (old_row h old gone l) (new_row new l) → s < no_index → 2 ^ (h - l) + s < 2 ^ 16
  spare_fits s e some =
      let spare = spare_held (old_row h old gone l) (new_row new l) (omega arith) in
      omega (arith, row_index (new_row_holds p l q) (spare_index (old_row h old gone l) (new_row new l)) spare.0 spare.1, few_nodes p l q)

  level_newcomer : (s : ℕ) → s ≡ spare_index (old_row h old gone l) (new_row new l)
      → node_on (2 ^ (h - l)) s ≡ newcomer h (nodes_but h old gone) (holds_node new h) l
  unfolding newcomer spare_index
  level_newcomer s e =
      let k = length (only_from (old_row h old gone l) (new_row new l) 0) in
      rw (e, ← level_places p l q, ← level_leavers p l q, length-map)
      (node_of_index (2 ^ (h - l)) (only_from (new_row new l) (old_row h old gone l) 0) k
      (λ r. (only_listed (new_row new l) (old_row h old gone l) 0 (omega arith) k no_index r).0))

  level_planned : (x : ℕ) (below : Planned) (s : Shifted)
      → LevelShifted (2 ^ (h - l)) (old_row h old gone l) (new_row new l) owners below.plan s
      → (n : ℕ) → n ≡ cond (eqb l x) (node_on (2 ^ (h - l)) s.spare) below.node
      → LevelPlanned h old new gone l x owners below (record { plan = s.plan; node = n })
  level_planned x below s t n e =
      record {
        plan = rw (← level_shifts_are p l q) t.plan;
        node = e ∙ by_level (ℕ_discrete l x);
      }
    where
      by_level : Dec (l ≡ x)
          → cond (eqb l x) (node_on (2 ^ (h - l)) s.spare) below.node
          ≡ cond (eqb l x) (newcomer_on h old new gone x) below.node
      by_level (yes f) = rw (← f, eq-eqb l l refl, le-leb l h q) (level_newcomer s.spare t.spare)
      by_level (no f) = rw (ne_eqb l x f)

-- ---- all levels

-- The plan so far with the moves of the levels from l on is the whole plan, and the newcomer's node is known if its level is below l.
pub record Planning (h : ℕ) (old new : Layout) (gone x : ℕ) (owners : List ℕ) (sofar : Planned) (l : ℕ) : Type 0 where
  pub in_height : l ≤ suc h
  pub moves : moves_in sofar.plan ++ map (move_of owners) (shifts_from h (nodes_but h old gone) (holds_node new h) l (suc h - l))
      ≡ map (move_of owners) (shifts_of h old new gone)
  pub count : sofar.plan.n + length (shifts_from h (nodes_but h old gone) (holds_node new h) l (suc h - l)) ≡ length (shifts_of h old new gone)
  pub whole : sofar.plan ≡ plan_of (moves_in sofar.plan)
  pub node : sofar.node ≡ cond (ltb x l) (newcomer_on h old new gone x) 0

-- below l + 1 is below l or l itself
one_more_below : (l x c d : ℕ) → cond (eqb l x) c (cond (ltb x l) c d) ≡ cond (ltb x (suc l)) c d
one_more_below l x c d = by_order (ℕ_discrete l x) (dec_lt x l)
  where
    by_order : Dec (l ≡ x) → Dec (x < l) → cond (eqb l x) c (cond (ltb x l) c d) ≡ cond (ltb x (suc l)) c d
    by_order (yes e) r = rw (eq-eqb l x e, lt-ltb x (suc l) (omega arith))
    by_order (no e) (yes r) = rw (ne_eqb l x e, lt-ltb x l r, lt-ltb x (suc l) (omega arith))
    by_order (no e) (no r) = rw (ne_eqb l x e, le-ltb x l (omega arith), le-ltb x (suc l) (omega arith))

module _ (h : ℕ) (old new : Layout) (gone x : ℕ) (owners : List ℕ) where
  pub planning_begins : (sofar : Planned) → sofar.plan ≡ plan_of [] → sofar.node ≡ 0
      → Planning h old new gone x owners sofar 0
  unfolding shifts
  planning_begins sofar none e =
      record {
        in_height = omega arith;
        moves = rw (moves_in_plan_of sofar.plan [] none, sub-zero);
        count = rw (count_in_plan_of sofar.plan [] none, sub-zero) (omega arith);
        whole = made_of_its_moves sofar.plan [] none;
        node = e ∙ ap (λ t. cond t (newcomer_on h old new gone x) 0) (sym (le-ltb x 0 (omega arith)));
      }

module _ {h : ℕ} {old new : Layout} {gone x : ℕ} {owners : List ℕ} {sofar : Planned} {l : ℕ} (s : Planning h old new gone x owners sofar l) where
  level_opens : l ≤ h
      → shifts_from h (nodes_but h old gone) (holds_node new h) l (suc h - l)
      ≡ shifts_at h old new gone l ++ shifts_from h (nodes_but h old gone) (holds_node new h) (suc l) (suc h - suc l)
  level_opens q = rw left
    where
      left : suc h - l ≡ suc (suc h - suc l)
      left = omega arith

  pub room_for_level : l ≤ h → sofar.plan.n + length (shifts_at h old new gone l) ≤ length (shifts_of h old new gone)
  room_for_level q = omega (arith, rw (level_opens q, length-append) at s.count)

  pub planning_goes_on : (after : Planned) → l ≤ h → LevelPlanned h old new gone l x owners sofar after
      → Planning h old new gone x owners after (l + 1)
  planning_goes_on after q t =
      rw add-one
      (record {
        in_height = omega arith;
        moves = rw (moves_in_plan_of after.plan with_level t.plan, append_assoc, ← map-append) (rw (level_opens q) at s.moves);
        count = rw longer (omega (arith, rw (level_opens q, length-append) at s.count));
        whole = made_of_its_moves after.plan with_level t.plan;
        node = t.node ∙ ap (cond (eqb l x) (newcomer_on h old new gone x)) s.node ∙ one_more_below l x (newcomer_on h old new gone x) 0;
      })
    where
      of_level : List Move
      of_level = map (move_of owners) (shifts_at h old new gone l)

      with_level : List Move
      with_level = moves_in sofar.plan ++ of_level

      longer : after.plan.n ≡ sofar.plan.n + length (shifts_at h old new gone l)
      longer =
          let appended = length-append (moves_in sofar.plan) of_level in
          let mapped = length-map (shifts_at h old new gone l) (move_of owners) in
          let before = count_in_plan_of sofar.plan (moves_in sofar.plan) s.whole in
          omega (arith, count_in_plan_of after.plan with_level t.plan, appended, mapped, before)

  pub planning_ends : h < l → AllPlanned h old new gone x owners sofar
  planning_ends q =
      let none : suc h - l ≡ 0 = omega (arith, s.in_height) in
      record {
        plan = s.whole ∙ ap plan_of (rw (none, append-nil) at s.moves);
        node = s.node ∙ by_level (dec_lt h x);
      }
    where
      by_level : Dec (h < x) → cond (ltb x l) (newcomer_on h old new gone x) 0 ≡ newcomer_on h old new gone x
      by_level (yes r) = rw (le-ltb x l (omega (arith, s.in_height)), lt-leb x h r)
      by_level (no r) = rw (lt-ltb x l (omega arith))

-- ---- a level's rows

-- The numbers of level l as they are computed: its first node b, the index i of the node given up, the row v of the old layout and the row w of
-- the new one.
module _ {h : ℕ} {old new : Layout} {gone : ℕ} {owners : List ℕ} (p : Plannable h old new gone owners) {l b i : ℕ} {v w : Row}
    (q : l ≤ h) (base : b ≡ 2 ^ (h - l)) (hole : i ≡ index_on b gone) (old_is : v ≡ row_of old l i) (new_is : w ≡ row_of new l no_index) where
  old_is_row : v ≡ old_row h old gone l
  old_is_row = old_is ∙ ap (row_of old l) (hole ∙ ap (λ (m : ℕ). index_on m gone) base)

  pub rows_shiftable : Shiftable b v w owners
  rows_shiftable = rw (base, old_is_row, new_is) (level_shiftable p l q)

  pub rows_shifts : level_shifts b v w ≡ shifts_at h old new gone l
  rows_shifts = rw (base, old_is_row, new_is) (level_shifts_are p l q)

  pub rows_spare_fits : (s : ℕ) → s ≡ spare_index v w → s < no_index → b + s < 2 ^ 16
  rows_spare_fits s e some = rw base (spare_fits p l q s (rw (old_is_row, new_is) at e) some)

  pub rows_planned : {x n : ℕ} {below : Planned} {s : Shifted} → Planning h old new gone x owners below l → LevelShifted b v w owners below.plan s
      → n ≡ cond (eqb l x) (node_on b s.spare) below.node → Planning h old new gone x owners (record { plan = s.plan; node = n }) (l + 1)
  rows_planned {x} {n} {below} {s} sofar t e =
      planning_goes_on sofar _ q
      (level_planned p l q x below s (rw (base, old_is_row, new_is) at t) n (e ∙ ap (λ (m : ℕ). cond (eqb l x) (node_on m s.spare) below.node) base))
