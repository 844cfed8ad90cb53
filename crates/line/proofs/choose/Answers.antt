-- `line::choose` meets its contract. The loop's invariant: the place chosen from place i on is the place chosen.
use mathlib.Core.Path.{◌≡◌, sym, ◌∙◌}
use native.Mathlib.Omega.{arith}
use borrow.Author.Tests.{lt-ltb, le-ltb}
use Rattle.line.specs.Line.{waiting_count}
use Rattle.line.specs.Changes.{place_chosen}
use Rattle.line.proofs.Scans.{place_from_first, chosen_none, chosen_here, chosen_barred, chosen_further}
use Rattle.line.proofs.choose.Invariants.{lowest}
use Rattle.line.proofs.choose.Goals as goal

pub loop-place-init : goal.loop-place-init
loop-place-init c =
    let l = c.args.line.now in
    place_from_first (place_chosen (lowest c.args.levels)) l (waiting_count l)

pub returns-then-w-levels : goal.returns-then-w-levels
returns-then-w-levels c =
    let l = c.args.line.now in
    let w = c.waiting_at-w in
    let fits = lt-ltb w.result.level c.args.levels c.if-w-levels.true in
    sym (chosen_here l (waiting_count l) c.loop-place.place (omega arith) w.ensures (lowest c.args.levels) fits) ∙ c.loop-place.invariant

pub returns-then-w-ge-LIMIT : goal.returns-then-w-ge-LIMIT
returns-then-w-ge-LIMIT c =
    let l = c.args.line.now in
    let w = c.waiting_at-w in
    let no-fit = le-ltb w.result.level c.args.levels c.if-w-levels.false in
    let bars = chosen_barred l (waiting_count l) c.loop-place.place (omega arith) w.ensures (lowest c.args.levels)
    no-fit c.if-w-ge-LIMIT.true in
    sym bars ∙ c.loop-place.invariant

pub loop-place-preserved : goal.loop-place-preserved
loop-place-preserved c =
    let l = c.args.line.now in
    let w = c.waiting_at-w in
    let no-fit = le-ltb w.result.level c.args.levels c.if-w-levels.false in
    let further = chosen_further l (waiting_count l) c.loop-place.place (omega arith) w.ensures (lowest c.args.levels)
    no-fit c.if-w-ge-LIMIT.false in
    sym further ∙ c.loop-place.invariant

pub returns : goal.returns
returns c =
    let l = c.args.line.now in
    let end : c.loop-place.place ≡ waiting_count l = omega arith in
    sym (chosen_none l (waiting_count l) (lowest c.args.levels)) ∙ rw end at c.loop-place.invariant
