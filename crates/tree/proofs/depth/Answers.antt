-- `tree::depth` meets its contract: the depth is the place of the highest one bit.
use mathlib.Core.Path.{sym}
use borrow.Author.Rules.{rules}
use native.Mathlib.Omega.{arith}
use native.Mathlib.Nat.{pow-suc}
use Rattle.tree.specs.Node.{depth}
use Rattle.tree.proofs.Highest.{depth_is}
use Rattle.tree.proofs.depth.Goals as goal

pub returns-then-node-eq0 : goal.returns-then-node-eq0
unfolding depth
returns-then-node-eq0 c = search rules

pub returns : goal.returns
returns c =
    let d = c.ilog2.result in
    sym (depth_is d c.args.node (record { low = omega arith; high = omega (arith, pow-suc 2 d) }))
