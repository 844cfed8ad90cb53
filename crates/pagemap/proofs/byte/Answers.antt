-- `pagemap::byte` meets its contract. The loop's invariant: the bits from `b` on, shifted to their places, and those below make the byte.
use Rattle.std.proofs.Common.{◌≡◌, ℕ, get_or, arith}
use Rattle.tree.specs.Pages.{sum}
use Rattle.pagemap.specs.Map.{byte_of}
use Rattle.pagemap.proofs.Bits.{next_bit}
use Rattle.pagemap.proofs.byte.Goals as goal

pub loop-b-init : goal.loop-b-init
unfolding byte_of
loop-b-init c = omega arith

pub overflow_mul-sum : goal.overflow_mul-sum
overflow_mul-sum c =
    let d : ℕ → ℕ = λ p. get_or c.args.pages.now p 0 in
    omega (arith, next_bit d c.requires.1 c.args.j c.loop-b.sum c.loop-b.b c.loop-b-test.true c.loop-b.invariant)

pub overflow_add-sum-in-loop-b : goal.overflow_add-sum-in-loop-b
overflow_add-sum-in-loop-b c =
    let d : ℕ → ℕ = λ p. get_or c.args.pages.now p 0 in
    omega (arith, next_bit d c.requires.1 c.args.j c.loop-b.sum c.loop-b.b c.loop-b-test.true c.loop-b.invariant)

pub loop-b-preserved : goal.loop-b-preserved
loop-b-preserved c =
    (next_bit (λ p. get_or c.args.pages.now p 0) c.requires.1 c.args.j c.loop-b.sum c.loop-b.b c.loop-b-test.true c.loop-b.invariant).0

pub returns : goal.returns
unfolding sum
returns c =
    let none_left : c.loop-b.b ≡ 0 = omega arith in
    omega (arith, rw none_left at c.loop-b.invariant)
