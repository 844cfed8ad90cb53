-- `layout::Layout::node` meets its contract, by the cases in which there is no such node.
use mathlib.Core.Path.{◌≡◌, sym, ap₂, ◌∙◌}
use mathlib.Core.Logic.{inl, inr}
use Prim.Native.Nat.{ℕ, ◌+◌}
use native.Mathlib.Omega.{arith}
use borrow.Author.Rules.{rules}
use lib.ListN.{length}
use Rattle.layout.specs.Rows.{kth_node, index_at}
use Rattle.layout.proofs.RowCases.{index_at_level, no_node_too_high, no_node_above_root, no_node_past, node_inside}
use Rattle.layout.proofs.Layout.node.Goals as goal

pub returns-then-height-gt-MAX_HEIGHT : goal.returns-then-height-gt-MAX_HEIGHT
unfolding kth_node
returns-then-height-gt-MAX_HEIGHT c =
    let a = c.args in
    elim c.then-height-gt-MAX_HEIGHT.either [
      | inl p ↦ sym (no_node_too_high a.height a.level _ p)
      | inr p ↦ sym (no_node_above_root a.height a.level _ p.1)
    ]

pub returns-then-nodes-i : goal.returns-then-nodes-i
unfolding kth_node
returns-then-nodes-i c =
    let a = c.args in
    let long : ◌≡◌ {A = ℕ} (length a.self.lone) 13 = search rules in
    let found = c.kth_index-i.ensures ∙ index_at_level a.self a.level a.k (omega arith) in
    sym (no_node_past a.height a.level _ (omega (arith, found)))

pub returns : goal.returns
unfolding kth_node
returns c =
    let a = c.args in
    let long : ◌≡◌ {A = ℕ} (length a.self.lone) 13 = search rules in
    let found = c.kth_index-i.ensures ∙ index_at_level a.self a.level a.k (omega arith) in
    let first = c.from-nodes.ensures ∙ c.power.ensures in
    let i = index_at a.self a.level a.k in
    ap₂ ◌+◌ first found ∙ sym (node_inside a.height a.level i (omega arith) (omega arith) (omega arith))
