-- With one more block on a level at most three blocks leave their places, and with one fewer at most four, the one that goes among them.
-- Both bounds are met, and so is their sum when one goes and another comes.
use mathlib.Core.Path.{◌≡◌, refl}
use mathlib.Core.Bool.{true}
use mathlib.Core.List.{List, [], ◌∷◌, map}
use Prim.Native.Nat.{ℕ, zero, suc, ◌≤◌, ◌<◌}
use native.Mathlib.Numerals.{add-one}
use lib.ListN.{length}
use Rattle.tree.specs.Block.{node}
use Rattle.layout.specs.Layout.{State, full, block, place, rise, remaining, layout_from, layout, among}
use Rattle.layout.specs.Change.{one_block_more, one_block_fewer, missing, most_by_grant, most_by_release, most_by_growth}
use Rattle.layout.proofs.Edit.{Edit, done, miss, more, hits, same_list, backwards, missing_at_most}
use Rattle.layout.proofs.Apart.{Apart, lone_in_B, lone_in_A, lone_in_both, same, placed}
use Rattle.layout.proofs.Apart.{level_with_equal_counts, level_with_one_more}

edit_above : (l : ℕ) (cs : List ℕ) {a b : State} {m n : ℕ} → Apart a b m n → Edit (layout_from l a cs) (layout_from l b cs) m n
edit_above l [] lone_in_B = more done
edit_above l [] lone_in_A = miss done
edit_above l [] lone_in_both = miss (more done)
edit_above l [] (same {s}) = same_list (remaining s)
edit_above l (c ∷ cs) p = let v = level_with_equal_counts l c p in v.edit (edit_above (suc l) cs v.above)

edit_from : (l : ℕ) (s : State) (cs : List ℕ) (x : ℕ) → Edit (layout_from l s cs) (layout_from l s (one_block_more cs x)) 3 4
edit_from l s [] x = same_list (remaining s)
edit_from l s (c ∷ cs) zero = let v = level_with_one_more l c s in rw add-one (v.edit (edit_above (suc l) cs v.above))
edit_from l s (c ∷ cs) (suc x) = hits (placed l s c) (edit_from (suc l) (rise (place l s c)) cs x)

one_more_edit : (cs : List ℕ) (x : ℕ) → Edit (layout cs) (layout (one_block_more cs x)) 3 4
unfolding layout
one_more_edit cs x = edit_from 0 (full 0) cs x

-- `x < length cs` says that there is a level x; the bounds hold without it, since past the last level nothing changes.
pub grant_moves_at_most_3 : (cs : List ℕ) (x : ℕ) → x < length cs → missing (layout cs) (among (layout (one_block_more cs x))) ≤ most_by_grant
grant_moves_at_most_3 cs x inside = missing_at_most (one_more_edit cs x)

pub release_moves_at_most_4 : (cs : List ℕ) (x : ℕ) → x < length cs → missing (layout (one_block_more cs x)) (among (layout cs)) ≤ most_by_release
release_moves_at_most_4 cs x inside = missing_at_most (backwards (one_more_edit cs x))

-- Height 5, one block of level 0, one of level 1, two of level 2 and one of level 3; and one more of level 1.
abbrev counts : List ℕ
counts = 1 ∷ 1 ∷ 2 ∷ 1 ∷ 0 ∷ 0 ∷ []

nodes_before : map (node 5) (layout counts) ≡ 16 ∷ 34 ∷ 9 ∷ 5 ∷ 12 ∷ []
unfolding layout
nodes_before = refl

nodes_after : map (node 5) (layout (one_block_more counts 1)) ≡ 16 ∷ 17 ∷ 9 ∷ 10 ∷ 44 ∷ 6 ∷ []
unfolding layout
nodes_after = refl

pub a_grant_moves_3 : missing (layout counts) (among (layout (one_block_more counts 1))) ≡ most_by_grant
unfolding layout missing
a_grant_moves_3 = refl

pub a_release_moves_4 : missing (layout (one_block_more counts 1)) (among (layout counts)) ≡ most_by_release
unfolding layout missing
a_release_moves_4 = refl

-- Height 9, from one block of level 1 to one of level 5. The place of the block on node 257 is in both layouts, so if that one grows, seven others
-- have to leave theirs.
abbrev before_growth : List ℕ
before_growth = 3 ∷ 3 ∷ 3 ∷ 1 ∷ 3 ∷ 1 ∷ 1 ∷ 2 ∷ 0 ∷ 0 ∷ []

abbrev after_growth : List ℕ
after_growth = one_block_more (one_block_fewer before_growth 1) 5

pub a_growth_moves_7 : missing (layout before_growth) (among (layout after_growth)) ≡ most_by_growth
unfolding layout missing
a_growth_moves_7 = refl

pub its_place_stays : (node 9 (block 1 1) ≡ 257)
    × (among (layout before_growth) (block 1 1) ≡ true)
    × (among (layout after_growth) (block 1 1) ≡ true)
unfolding layout
its_place_stays = (refl, refl, refl)
