-- `table::passes::owners` meets its contract.
use mathlib.Core.Path.{◌≡◌, sym, ◌∙◌}
use Prim.Native.Nat.{suc, ◌*◌, ◌^◌, ◌≤◌}
use native.Mathlib.Nat.{pow-suc}
use native.Mathlib.Omega.{arith}
use borrow.Author.Tests.{lt-ltb, le-ltb}
use lib.Dec.{ltb}
use Rattle.layout.proofs.Bounds.{power_le_4096}
use Rattle.table.specs.Owners.{nodes_below}
use Rattle.table.proofs.Owners.{below_mono}
use Rattle.table.proofs.passes.owners.Goals as goal

pub overflow_mul-limit : goal.overflow_mul-limit
overflow_mul-limit c =
    let power_bound : c.power-limit.result ≤ 4096 = rw c.power-limit.ensures (power_le_4096 c.args.height (omega arith)) in
    omega (arith, power_bound)

pub store-requires : goal.store-requires
store-requires c =
    let power_bound : c.power-limit.result ≤ 4096 = rw c.power-limit.ensures (power_le_4096 c.args.height (omega arith)) in
    let limit_is : 2 * c.power-limit.result ≡ 2 ^ suc c.args.height = rw (c.power-limit.ensures, pow-suc) (omega arith) in
    let decides : ltb c.any_bits.result (2 * c.power-limit.result)
    ≡ nodes_below (2 ^ suc c.args.height) c.args.table.now = rw (limit_is) (c.any_bits.ensures (suc c.args.height)) in
    let tested = c.before.before.before in
    let args = tested.args in
    let bits = tested.any_bits.result in
    let limit = 2 * tested.power-limit.result in (
      omega arith,
      below_mono (2 ^ suc args.height) 8192 args.table.now (omega (arith, limit_is, power_bound))
          (sym (decides) ∙ lt-ltb bits limit (omega arith)),
    )

pub returns-then-any_bits-limit : goal.returns-then-any_bits-limit
returns-then-any_bits-limit c =
    let limit_is : 2 * c.power-limit.result ≡ 2 ^ suc c.args.height = rw (c.power-limit.ensures, pow-suc) (omega arith) in
    let decides : ltb c.any_bits.result (2 * c.power-limit.result)
    ≡ nodes_below (2 ^ suc c.args.height) c.args.table.now = rw (limit_is) (c.any_bits.ensures (suc c.args.height)) in
    let tested = c.before.before.before.before in
    let below = sym (lt-ltb tested.any_bits.result (2 * tested.power-limit.result) (omega arith)) ∙ decides in
    record { below = below; stored = rw (← below) c.store.ensures }

pub returns : goal.returns
returns c =
    let limit_is : 2 * c.power-limit.result ≡ 2 ^ suc c.args.height = rw (c.power-limit.ensures, pow-suc) (omega arith) in
    let decides : ltb c.any_bits.result (2 * c.power-limit.result)
    ≡ nodes_below (2 ^ suc c.args.height) c.args.table.now = rw (limit_is) (c.any_bits.ensures (suc c.args.height)) in
    let tested = c.before.before in
    let below = sym (le-ltb tested.any_bits.result (2 * tested.power-limit.result) (omega arith)) ∙ decides in
    record { below = below; stored = rw (← below) }
