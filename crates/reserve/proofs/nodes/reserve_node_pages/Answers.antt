-- `reserve::nodes::reserve_node_pages` meets its contract: the cases of the definition, told apart by the node's depth.
use mathlib.Core.Path.{sym, ◌∙◌}
use Prim.Native.Nat.{◌≤◌, ◌<◌}
use native.Mathlib.Omega.{arith}
use Rattle.tree.specs.Node.{depth}
use Rattle.reserve.proofs.NodePages.{pages_above_12, pages_of_zero, pages_past_tree, past_tree_by_depth}
use Rattle.reserve.proofs.NodePages.{first_of_level_le, product_fits, pages_by_depth}
use Rattle.reserve.proofs.nodes.reserve_node_pages.Goals as goal

pub returns-then-height-gt-MAX_HEIGHT : goal.returns-then-height-gt-MAX_HEIGHT
returns-then-height-gt-MAX_HEIGHT c =
    let a = c.args in
    c.from.ensures ∙ sym (pages_above_12 a.height a.node c.if-height-gt-MAX_HEIGHT.true)

pub returns-then-node-eq0 : goal.returns-then-node-eq0
returns-then-node-eq0 c =
    let a = c.args in
    c.from-then-node-eq0.ensures ∙ sym (pages_of_zero a.height a.node (omega (arith, c.if-height-gt-MAX_HEIGHT.false)) c.if-node-eq0.true)

pub returns-then-height-d : goal.returns-then-height-d
returns-then-height-d c =
    let x = c in
    let a = x.args in
    let low : a.height ≤ 12 = omega (arith, x.if-height-gt-MAX_HEIGHT.false) in
    let above : 0 < a.node = omega (arith, c.if-node-eq0.false) in
    let deep : a.height < depth a.node = omega (arith, c.if-height-d.true, c.depth-d.ensures) in
    c.from-then-height-d.ensures ∙ sym (pages_past_tree a.height a.node low above (past_tree_by_depth a.height a.node above deep))

pub overflow_sub-index : goal.overflow_sub-index
overflow_sub-index c =
    let above : 0 < c.args.node = omega (arith, c.if-node-eq0.false) in
    first_of_level_le c.args.node c.depth-d.result c.power.result above c.depth-d.ensures c.power.ensures

pub overflow_mul-first : goal.overflow_mul-first
overflow_mul-first c =
    let low : c.args.height ≤ 12 = omega (arith, c.if-height-gt-MAX_HEIGHT.false) in
    let above : 0 < c.args.node = omega (arith, c.if-node-eq0.false) in
    let inside : c.depth-d.result ≤ c.args.height = omega (arith, c.if-height-d.false) in
    record {
      fits =
          product_fits c.args.height c.args.node c.depth-d.result c.power.result c.power-count.result low above c.depth-d.ensures inside
          c.power.ensures c.power-count.ensures;
    }

pub returns : goal.returns
returns c =
    let low : c.args.height ≤ 12 = omega (arith, c.if-height-gt-MAX_HEIGHT.false) in
    let above : 0 < c.args.node = omega (arith, c.if-node-eq0.false) in
    let inside : c.depth-d.result ≤ c.args.height = omega (arith, c.if-height-d.false) in
    pages_by_depth c.args.height c.args.node c.depth-d.result c.power.result c.power-count.result low above c.depth-d.ensures inside
    c.power.ensures c.power-count.ensures
