-- The rows of a layout whose pages are no more than a tree has lie in that tree.
use mathlib.Core.Path.{◌≡◌, refl}
use mathlib.Core.Bool.{true}
use mathlib.Core.Logic.{◌⊎◌, inl, inr, ⊎_elim}
use mathlib.Core.List.{List, [], ◌∷◌}
use Prim.Native.Nat.{ℕ, zero, suc, ◌+◌, ◌-◌, ◌*◌, ◌^◌, ◌≤◌, ◌<◌}
use native.Mathlib.Nat.{zero-add, add-zero, add-suc, suc-add, sub-add_cancel, le_of_mul-le-mul_right}
use native.Mathlib.Omega.{arith}
use borrow.Author.Tests.{le-ltb, eq-eqb}
use lib.ListN.{get_or}
use lib.Pow.{pow-add, pow_pos}
use Rattle.tree.specs.Block.{Block}
use Rattle.tree.proofs.Coordinates.{index_lt}
use Rattle.layout.specs.Layout.{State, block, start, running, layout, among, pages_from, pages}
use Rattle.layout.specs.Runs.{starts_from, runs_from, starts, runs}
use Rattle.layout.specs.Rows.{no_index, rows_of, start_at, run_at, lone_at}
use Rattle.layout.proofs.States.{start_place}
use Rattle.layout.proofs.Within.{multiple_fits, Tight, full_tight, place_tight, tight_start, next_tight, layout_within}
use Rattle.layout.proofs.Levels.{Row, run_only, run_and_lone, row_of_layout}
use Rattle.layout.proofs.Rows.{kth_in_layout}

-- Runs

run_from_within : (h l p d : ℕ) {s : State} (cs : List ℕ) → Tight l p s → p + pages_from l cs ≤ 2 ^ h → l + d ≤ h
    → (get_or (starts_from l s cs) d 0 + get_or (runs_from l s cs) d 0) * 2 ^ (l + d) ≤ 2 ^ h
run_from_within h l p d [] t f q = omega arith
run_from_within h l p zero {s} (c ∷ cs) t f q =
    let tight = rw start_place at (tight_start l (p + c * 2 ^ l) (place_tight l p c t)) in
    rw add-zero (multiple_fits l h (start s + running s c) (omega arith) (omega arith))
run_from_within h l p (suc d) {s} (c ∷ cs) t f q =
    rw (add-suc, ← suc-add) (run_from_within h (suc l) (p + c * 2 ^ l) d cs (next_tight l p c t) (omega arith) (omega arith))

module _ (h : ℕ) (cs : List ℕ) (fits : pages cs ≤ 2 ^ h) (l : ℕ) (in_height : l ≤ h) where
  -- a run ends in the tree, also if it has no block
  pub run_in_tree : start_at (rows_of cs) l + run_at (rows_of cs) l ≤ 2 ^ (h - l)
  unfolding starts runs pages
  run_in_tree =
      let within = rw zero-add at (run_from_within h 0 0 l cs (full_tight {u = 0} (omega arith)) (omega arith) (omega arith)) in
      le_of_mul-le-mul_right (rw (← pow-add, sub-add_cancel in_height) within) (pow_pos l)

  -- and a lone block lies in it
  pub lone_in_tree : (lone_at (rows_of cs) l ≡ no_index) ⊎ (lone_at (rows_of cs) l < 2 ^ (h - l))
  lone_in_tree = ⊎_elim inl (λ last. inr (in_tree last)) (lone_is_last (row_of_layout cs l))
    where
      lone_is_last : {m s n x c : ℕ} {bs : List Block} → Row m s n x bs c → (x ≡ no_index) ⊎ (n < c)
      lone_is_last (run_only e) = inl e
      lone_is_last (run_and_lone q) = inr (omega arith)

      in_tree : run_at (rows_of cs) l < get_or cs l 0 → lone_at (rows_of cs) l < 2 ^ (h - l)
      in_tree last =
          let n : ℕ = run_at (rows_of cs) l in
          let lone : Block = block l (lone_at (rows_of cs) l) in
          let held : among (layout cs) lone ≡ true = rw (le-ltb n n (omega arith), eq-eqb n n refl) at (kth_in_layout cs l n last) in
          index_lt h lone (layout_within h cs fits lone held)
