-- Every node of a layout has an owner exactly if every node of its rows has one.
use mathlib.Core.Path.{◌≡◌, refl, sym, ap, ap₂, ◌∙◌}
use mathlib.Core.Bool.{Bool, true, false, ◌&&◌, ◌||◌, or-true}
use mathlib.Core.Logic.{◌↔◌, ⊎_elim}
use mathlib.Core.List.{List, [], ◌∷◌}
use Prim.Native.Nat.{ℕ, suc, ◌+◌, ◌-◌, ◌^◌, ◌≤◌, ◌<◌}
use native.Mathlib.Nat.{add_assoc}
use native.Mathlib.Omega.{arith}
use borrow.Author.Tests.{eqb-true, eqb-false, eq-eqb, ne_eqb, leb-true, le-leb, ltb-true, lt-ltb}
use lib.Dec.{eqb, leb, ltb}
use lib.ListN.{length, get_or, take, drop, length-drop}
use lib.Seq.{length-take-le, get_or-take, get_or-drop}
use lib.Pow.{pow_mono}
use Rattle.tree.specs.Node.{InTree}
use Rattle.tree.specs.Block.{Block, node, block_of}
use Rattle.tree.proofs.Coordinates.{node_of_block}
use Rattle.tree.proofs.Bridge.{SameSet, held_node, held_block}
use Rattle.tree.proofs.Sets.{both_left, both_right, set_of_nodes}
use Rattle.layout.specs.Layout.{block, layout, among, pages}
use Rattle.layout.specs.Rows.{no_index, in_row, rows_of, start_at, run_at, lone_at, rows_hold}
use Rattle.layout.specs.Set.{layout_set}
use Rattle.layout.proofs.Bounds.{power_le_4096}
use Rattle.layout.proofs.Within.{layout_within}
use Rattle.layout.proofs.Rows.{row_holds}
use Rattle.layout.proofs.RowsWithin.{run_in_tree, lone_in_tree}
use Rattle.layout.proofs.Theorems.{layout_in_tree}
use Rattle.table.specs.Table.{tally}
use Rattle.table.specs.Owners.{used_in}
use Rattle.table.proofs.Tally.{tally_agrees, all_pass}
use Rattle.table.proofs.Order.{all_below_at, all_below_of}
use Rattle.table.proofs.Levels.{tree_below_8192}
use Rattle.survey.specs.Owned.{owned, run_owned, row_owned, level_owned, rows_owned}

-- ---- a run

tally_of_all : (T : List ℕ) → tally (λ n. true) T ≡ length T
unfolding tally
tally_of_all [] = refl
tally_of_all (e ∷ T) = omega (arith, tally_of_all T)

module _ (o : List ℕ) (a n : ℕ) (inside : a + n ≤ length o) where
  abbrev part : List ℕ
  part = take n (drop a o)

  length_part : length part ≡ n
  length_part = length-take-le n (drop a o) (rw length-drop (omega arith))

  part_owned : (k : ℕ) → k < n → ltb 0 (get_or part k 0) ≡ owned o (a + k)
  part_owned k q = ap (ltb 0) (get_or-take n (drop a o) k 0 q ∙ get_or-drop a o k 0)

  run_owned_iff : (run_owned o a n ≡ true) ↔ ((k : ℕ) → k < n → owned o (a + k) ≡ true)
  unfolding run_owned
  run_owned_iff = (
    λ e k q.
        let all_used = eqb-true (used_in part) n e ∙ sym (tally_of_all part ∙ length_part) in
        sym (part_owned k q) ∙ all_pass (λ n. ltb 0 n) part all_used k (rw length_part q),
    λ all.
        eq-eqb (used_in part) n
        (tally_agrees (λ n. ltb 0 n) (λ n. true) part (λ k q. let r : k < n = rw length_part at q in part_owned k r ∙ all k r)
        ∙ tally_of_all part ∙ length_part),
  )

-- ---- a row

-- every node of the row has an owner
abbrev RowOwned : List ℕ → ℕ → ℕ → ℕ → ℕ → Type 0
RowOwned o w s n x = (i : ℕ) → i < no_index → in_row s n x i ≡ true → owned o (w + i) ≡ true

module _ (o : List ℕ) (w s n x : ℕ) (inside : w + s + n ≤ length o) (run_index : s + n ≤ no_index) (lone_index : x ≤ no_index) where
  row_owned_iff : (row_owned o w s n x ≡ true) ↔ RowOwned o w s n x
  unfolding row_owned
  row_owned_iff = (to, from)
    where
      to : (run_owned o (w + s) n && (eqb x no_index || owned o (w + x))) ≡ true → RowOwned o w s n x
      to e i q r = by_run (leb s i && ltb i (s + n)) refl r
        where
          by_run : (b : Bool) → (leb s i && ltb i (s + n)) ≡ b → (b || eqb x i) ≡ true → owned o (w + i) ≡ true
          by_run true p t =
              let from_start : s ≤ i = leb-true s i (both_left (leb s i) (ltb i (s + n)) p) in
              let to_end : i < s + n = ltb-true i (s + n) (both_right (leb s i) (ltb i (s + n)) p) in
              let node_is : w + s + (i - s) ≡ w + i = omega arith in
              rw node_is at ((run_owned_iff o (w + s) n inside).0 (both_left (run_owned o (w + s) n) _ e) (i - s) (omega arith))
          by_run false p t =
              let lone_is : x ≡ i = eqb-true x i t in
              let some : ¬ (x ≡ no_index) = omega arith in
              rw (ne_eqb x no_index some, lone_is) at (both_right (run_owned o (w + s) n) (eqb x no_index || owned o (w + x)) e)

      from : RowOwned o w s n x → (run_owned o (w + s) n && (eqb x no_index || owned o (w + x))) ≡ true
      from all = ap₂ ◌&&◌ ((run_owned_iff o (w + s) n inside).1 in_run) (by_lone (eqb x no_index) refl)
        where
          in_run : (k : ℕ) → k < n → owned o (w + s + k) ≡ true
          in_run k q = rw add_assoc (all (s + k) (omega arith) (rw (le-leb s (s + k) (omega arith), lt-ltb (s + k) (s + n) (omega arith))))

          by_lone : (b : Bool) → eqb x no_index ≡ b → (b || owned o (w + x)) ≡ true
          by_lone true p = refl
          by_lone false p =
              let some : ¬ (x ≡ no_index) = eqb-false x no_index p in
              all x (omega arith) (rw (eq-eqb x x refl) (or-true (leb s x && ltb x (s + n))))

-- ---- all rows

-- every node of the layout of the counts has an owner
abbrev pub LayoutOwned : ℕ → List ℕ → List ℕ → Type 0
LayoutOwned h cs o = (n : ℕ) → layout_set h cs n ≡ true → owned o n ≡ true

module _ (h : ℕ) (cs o : List ℕ) (low : h ≤ 12) (fits : pages cs ≤ 2 ^ h) (long : 2 ^ suc h ≤ length o) where
  same_set : SameSet h (layout_set h cs) (among (layout cs))
  same_set = set_of_nodes h (among (layout cs)) (layout_within h cs fits)

  level_owned_iff : (l : ℕ) → l ≤ h
      → (level_owned h (rows_of cs) o l ≡ true) ↔ RowOwned o (2 ^ (h - l)) (start_at (rows_of cs) l) (run_at (rows_of cs) l) (lone_at (rows_of cs) l)
  level_owned_iff l q =
      let w : ℕ = 2 ^ (h - l) in
      let bound : w ≤ 4096 = power_le_4096 (h - l) (omega arith) in
      let level_in_nodes : w + w ≤ length o = omega (arith, pow_mono {i = suc (h - l)} {j = suc h} (omega arith)) in
      let run_ends = run_in_tree h cs fits l q in
      let lone_index : lone_at (rows_of cs) l ≤ no_index = ⊎_elim (λ none. omega arith) (λ inside. omega arith) (lone_in_tree h cs fits l q) in
      row_owned_iff o w (start_at (rows_of cs) l) (run_at (rows_of cs) l) (lone_at (rows_of cs) l) (omega arith) (omega arith) lone_index

  rows_of_layout : LayoutOwned h cs o → rows_owned h (rows_of cs) o ≡ true
  unfolding rows_owned
  rows_of_layout all = all_below_of (suc h) (level_owned h (rows_of cs) o) (λ l q. (level_owned_iff l (omega arith)).1 (row_is_owned l))
    where
      row_is_owned : (l i : ℕ) → i < no_index → rows_hold (rows_of cs) (block l i) ≡ true → owned o (2 ^ (h - l) + i) ≡ true
      row_is_owned l i q e =
          all (node h (block l i)) (held_node h (layout_set h cs) (among (layout cs)) same_set (block l i) (sym (row_holds cs l i q) ∙ e))

  layout_of_rows : rows_owned h (rows_of cs) o ≡ true → LayoutOwned h cs o
  unfolding rows_owned
  layout_of_rows all n e =
      let b : Block = block_of h n in
      let t : InTree h n = layout_in_tree h cs n e in
      let small = tree_below_8192 h low in
      let index : b.index < no_index = omega (arith, t.in_height) in
      let row_has = row_holds cs b.level b.index index ∙ held_block h (layout_set h cs) (among (layout cs)) same_set n e in
      let level_is_owned = all_below_at (suc h) (level_owned h (rows_of cs) o) all b.level (omega arith) in
      rw (node_of_block h n t) at ((level_owned_iff b.level (omega arith)).0 level_is_owned b.index index row_has)

  pub rows_owned_iff : (rows_owned h (rows_of cs) o ≡ true) ↔ LayoutOwned h cs o
  rows_owned_iff = (layout_of_rows, rows_of_layout)
