-- Looking at the rows level by level from the root down.
use mathlib.Core.Path.{◌≡◌, refl, sym, ap, ◌∙◌}
use mathlib.Core.Bool.{Bool, true, false, ◌&&◌}
use mathlib.Core.Logic.{⊎_elim}
use mathlib.Core.List.{List}
use Prim.Native.Nat.{ℕ, suc, ◌+◌, ◌-◌, ◌*◌, ◌^◌, ◌≤◌, ◌<◌}
use native.Mathlib.Nat.{pow-suc}
use native.Mathlib.Omega.{arith}
use lib.ListN.{length, get_or}
use Rattle.layout.specs.Layout.{pages}
use Rattle.layout.specs.Rows.{no_index, rows_of, start_at, run_at, lone_at}
use Rattle.layout.specs.declared.Layout.{Layout}
use Rattle.layout.proofs.Bounds.{power_le_4096}
use Rattle.layout.proofs.RowCases.{get_or_inside}
use Rattle.layout.proofs.RowsWithin.{run_in_tree, lone_in_tree}
use Rattle.table.specs.Table.{all_below}
use Rattle.survey.specs.Owned.{row_owned, level_owned, rows_owned}

-- the levels from l on have owners on all their rows, and w is the first node of the next level down
pub record Looked (h : ℕ) (L : Layout) (o : List ℕ) (l w : ℕ) : Type 0 where
  pub inside : l ≤ suc h
  pub first : w ≡ 2 ^ (suc h - l)
  pub rest : all_below l (level_owned h L o) ≡ rows_owned h L o

pub looked_none : (h : ℕ) (L : Layout) (o : List ℕ) → Looked h L o (suc h) 1
unfolding rows_owned
looked_none h L o =
    let none : suc h - suc h ≡ 0 = omega arith in
    record { inside = omega arith; first = rw none; rest = refl }

pub looked_all : {h : ℕ} {L : Layout} {o : List ℕ} {l w : ℕ} → l ≡ 0 → Looked h L o l w → true ≡ rows_owned h L o
unfolding all_below
looked_all {h} {L} {o} e k = rw e at k.rest

-- the next level down, l
module _ {h : ℕ} {L : Layout} {o : List ℕ} {l w : ℕ} (low : h ≤ 12) (long : length L.lone ≡ 13) (k : Looked h L o (suc l) w) where
  in_height : l ≤ h
  in_height = omega (arith, k.inside)

  first_is : w ≡ 2 ^ (h - l)
  first_is =
      let depth : suc h - suc l ≡ h - l = omega arith in
      rw depth at k.first

  lone_is : get_or L.lone l 0 ≡ lone_at L l
  lone_is = get_or_inside L.lone l 0 no_index (omega (arith, in_height))

  -- r is what a look at its row says
  module _ {r : Bool} (row : r ≡ row_owned o w (get_or L.start l 0) (get_or L.run l 0) (get_or L.lone l 0)) where
    rest_is : (r && all_below l (level_owned h L o)) ≡ rows_owned h L o
    unfolding all_below
    rest_is =
        let level_is : level_owned h L o l ≡ r = rw (← first_is, ← lone_is) (sym row) in
        rw level_is at k.rest

    pub looked_gap : r ≡ false → false ≡ rows_owned h L o
    looked_gap e = rw e at rest_is

    pub looked_next : r ≡ true → Looked h L o l (w * 2)
    looked_next e =
        let depth : suc h - l ≡ suc (h - l) = omega (arith, in_height) in
        record {
          inside = omega (arith, in_height);
          first = rw (depth, pow-suc, first_is);
          rest = rw e at rest_is;
        }

  -- its row lies among the 8,192 nodes
  module _ (cs : List ℕ) (fits : pages cs ≤ 2 ^ h) (rows : L ≡ rows_of cs) where
    pub run_in_nodes : w + get_or L.start l 0 + get_or L.run l 0 ≤ 8192
    run_in_nodes =
        let in_tree : start_at L l + run_at L l ≤ 2 ^ (h - l) = rw rows (run_in_tree h cs fits l in_height) in
        omega (arith, first_is, power_le_4096 (h - l) (omega arith))

    pub lone_in_nodes : get_or L.lone l 0 < 65535 → w + get_or L.lone l 0 < 8192
    lone_in_nodes q =
        let bound = power_le_4096 (h - l) (omega arith) in
        let lone_in_rows = lone_is ∙ ap (λ (R : Layout). lone_at R l) rows in
        ⊎_elim (λ none. absurd (omega arith)) (λ in_tree. omega (arith, first_is)) (lone_in_tree h cs fits l in_height)
