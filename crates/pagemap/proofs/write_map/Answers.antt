-- `pagemap::write_map` meets its contract: the flags of the layout, packed. The loop's invariant: the rows of the levels below `level` are set.
use Rattle.std.proofs.Common.{◌≡◌, ap, ap₂, ◌∙◌, ℕ, ◌<◌, List, ◌++◌, length, get_or, drop, add-one, arith, rules}
use Rattle.tree.specs.Pages.{coveredb}
use Rattle.layout.specs.Rows.{rows_hold}
use Rattle.layout.proofs.Bounds.{power_le_4096}
use Rattle.pagemap.specs.Map.{bytes_of}
use Rattle.pagemap.specs.Flags.{flags, row_filled}
use Rattle.pagemap.proofs.Flags.{flags_of_none, flags_cong, flag_le_one, bytes_of_flags}
use Rattle.pagemap.proofs.Rows.{covered_below, covered_below_all, next_row, shifted}
use Rattle.pagemap.proofs.write_map.Goals as goal

pub loop-level-init : goal.loop-level-init
loop-level-init c = rw (flags_of_none 4096)

pub fill_row-requires : goal.fill_row-requires
fill_row-requires c = rw (shifted c.loop-level.level (omega arith)) (power_le_4096 c.loop-level.level (omega arith))

pub loop-level-preserved : goal.loop-level-preserved
loop-level-preserved c =
    let L = c.args.layout in
    let l = c.loop-level.level in
    let long : ◌≡◌ {A = ℕ} (length L.lone) 13 = search rules in
    let inside : l < length L.lone = omega arith in
    let filled = λ (w : ℕ) (xs : List ℕ). row_filled w (get_or L.start l 0) (get_or L.run l 0) (get_or L.lone l 0) xs in
    c.fill_row.ensures
    ∙ ap₂ filled (shifted l (omega arith)) c.loop-level.invariant
    ∙ rw (add-one l) (next_row 4096 L l inside)

pub pack-requires : goal.pack-requires
pack-requires c = (search rules, λ p. rw c.loop-level.invariant (flag_le_one 4096 _ p))

pub returns : goal.returns
returns c =
    let B = rows_hold c.args.layout in
    let f = coveredb 12 B in
    let all : c.loop-level.level ≡ 13 = omega arith in
    let set : c.loop-level.pages ≡ flags 4096 f =
    rw all at c.loop-level.invariant ∙ flags_cong 4096 (covered_below 13 B) f (covered_below_all 12 B) in
    c.pack.ensures
    ∙ ap (λ (xs : List ℕ). bytes_of 512 (λ p. get_or xs p 0) ++ drop 512 c.args.map.now) set
    ∙ ap (λ (xs : List ℕ). xs ++ drop 512 c.args.map.now) (bytes_of_flags 4096 512 f (omega arith))
