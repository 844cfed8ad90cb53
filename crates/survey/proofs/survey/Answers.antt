-- `survey::survey` meets its contract: what it hands to `ordered` is what is to be known of a table whose nodes are all in the tree.
use mathlib.Core.Path.{sym, ◌∙◌}
use native.Mathlib.Omega.{arith}
use Rattle.survey.proofs.Surveyed.{stored_over_zeros, gathered_from, found_past, found_inside}
use Rattle.survey.proofs.survey.Goals as goal

pub returns-then-not-owners : goal.returns-then-not-owners
returns-then-not-owners c =
    let a = c.args in
    let o = c.owners in
    let stored = stored_over_zeros a.height a.table.now a.owner.now o.new.owner c.requires.2 o.ensures.stored in
    let past = sym o.ensures.below ∙ c.if-not-owners.true in
    record { finding = found_past a.height a.table.now c.none.result.at (omega arith) past c.none.ensures; owners = stored }

pub ordered-requires : goal.ordered-requires
ordered-requires c =
    let a = c.args in
    let o = c.owners in
    let stored = stored_over_zeros a.height a.table.now a.owner.now o.new.owner c.requires.2 o.ensures.stored in
    let below = sym o.ensures.below ∙ c.if-not-owners.false in
    let n = c.level_counts in
    gathered_from a.height a.table.now n.result o.new.owner (omega arith) (omega arith) below stored n.ensures

pub returns : goal.returns
returns c =
    let a = c.args in
    let o = c.owners in
    let stored = stored_over_zeros a.height a.table.now a.owner.now o.new.owner c.requires.2 o.ensures.stored in
    let below = sym o.ensures.below ∙ c.if-not-owners.false in
    let n = c.level_counts in
    let g = gathered_from a.height a.table.now n.result o.new.owner (omega arith) (omega arith) below stored n.ensures in
    record { finding = found_inside g c.ordered.result c.ordered.ensures; owners = stored }
