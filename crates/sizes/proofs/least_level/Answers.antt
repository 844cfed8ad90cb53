-- `sizes::least_level` meets its contract: one page needs level 0, and more the level above the depth of one page less.
use mathlib.Core.Path.{sym}
use Prim.Native.Nat.{◌+◌, ◌-◌, zero-le}
use native.Mathlib.Omega.{arith}
use native.Mathlib.Nat.{pow-suc}
use Rattle.tree.specs.Node.{depth}
use Rattle.tree.proofs.Highest.{depth_is}
use Rattle.sizes.proofs.Level.{least_level_is, least_by_depth}
use Rattle.sizes.proofs.least_level.Goals as goal

pub returns-then-pages-le1 : goal.returns-then-pages-le1
returns-then-pages-le1 c = sym (least_level_is c.args.pages 0 (record { enough = omega arith; smallest = λ m q. zero-le }))

pub returns : goal.returns
returns c =
    let p = c.args.pages in
    let d = c.ilog2.result in
    omega (
      arith,
      depth_is d (p - 1) (record { low = omega arith; high = omega (arith, pow-suc 2 d) }),
      least_level_is p (depth (p - 1) + 1) (least_by_depth p (omega arith)),
    )
