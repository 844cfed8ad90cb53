-- `pagemap::set_bits` meets its contract. The loop's invariant: the count so far is that of the numbers before this one.
use Rattle.std.proofs.Common.{◌≡◌, refl, ap, ◌∙◌, ◌≤◌, add-one, arith}
use lib.Count.{ones, ones-le}
use Rattle.std.proofs.Math.Seq.{length-take-le}
use Rattle.tree.specs.Pages.{sum}
use Rattle.pagemap.proofs.Numbers.{set_bits_of_chunks}
use Rattle.pagemap.proofs.set_bits.Goals as goal

pub loop-bytes-init : goal.loop-bytes-init
unfolding sum
loop-bytes-init c = (omega arith, refl)

pub overflow_add-n : goal.overflow_add-n
overflow_add-n c =
    let at_most_64 : ones c.number.result ≤ 64 = ones-le 64 c.number.result c.number.type_inv in
    omega (arith, at_most_64, length-take-le 512 c.args.map.now c.requires, c.as_chunks.ensures.front_len)

pub loop-bytes-preserved : goal.loop-bytes-preserved
unfolding sum
loop-bytes-preserved c =
    let k = c.loop-bytes.bytes-index in
    let at_most_64 : ones c.number.result ≤ 64 = ones-le 64 c.number.result c.number.type_inv in
    let counted = ap ones c.number.ensures in
    (omega (arith, at_most_64), rw (add-one k) (omega (arith, counted)))

pub overflow_cast-result : goal.overflow_cast-result
overflow_cast-result c = omega (arith, length-take-le 512 c.args.map.now c.requires, c.as_chunks.ensures.front_len)

pub returns : goal.returns
returns c =
    let all : c.loop-bytes.bytes-index ≡ 64 = omega (arith, length-take-le 512 c.args.map.now c.requires, c.as_chunks.ensures.front_len) in
    rw all at c.loop-bytes.invariant.1
    ∙ set_bits_of_chunks c.args.map.now (λ j. (c.type_inv.map j).fits) 64 c.requires c.as_chunks.result.0.now c.as_chunks.ensures.front
