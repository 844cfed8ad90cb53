-- `layout::Counts::expected` meets its contract: the rows of the layout have its k-th node.
use mathlib.Core.Path.{sym, ap, ◌∙◌}
use Prim.Native.Nat.{◌^◌, ◌≤◌}
use native.Mathlib.Omega.{arith}
use Rattle.layout.specs.Layout.{pages}
use Rattle.layout.specs.Rows.{kth_node}
use Rattle.layout.specs.declared.Layout.{Layout}
use Rattle.layout.proofs.Bounds.{power_le_4096}
use Rattle.layout.proofs.Expected.{none_expected_too_high, none_expected_no_room, expected_by_rows}
use Rattle.layout.proofs.Counts.expected.Goals as goal
use Rattle.layout.proofs.Counts.expected.Goals.{then-height-gt-MAX_HEIGHT-via-then-height-gt-MAX_HEIGHT as too_high}
use Rattle.layout.proofs.Counts.expected.Goals.{then-height-gt-MAX_HEIGHT-via-else-height-gt-MAX_HEIGHT+then-from-total as no_room}

pub returns-then-height-gt-MAX_HEIGHT : goal.returns-then-height-gt-MAX_HEIGHT
returns-then-height-gt-MAX_HEIGHT c =
    let a = c.args in
    elim c.then-height-gt-MAX_HEIGHT.branch [
      | too_high w ↦ sym (none_expected_too_high a.self.at a.height a.level a.k w.if-height-gt-MAX_HEIGHT.true)
      | no_room w ↦ sym (none_expected_no_room a.self.at a.height a.level a.k (omega arith))
    ]

pub layout-requires : goal.layout-requires
layout-requires c = omega (arith, power_le_4096 c.args.height (omega arith))

pub returns : goal.returns
returns c =
    let a = c.args in
    let fits : pages a.self.at ≤ 2 ^ a.height = omega arith in
    c.node.ensures
    ∙ ap (λ (L : Layout). kth_node L a.height a.level a.k) c.layout.ensures
    ∙ expected_by_rows a.self.at a.height a.level (omega arith) fits a.k
