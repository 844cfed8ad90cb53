-- `bytewise::set_bits` meets its contract. The loop's invariant: the count so far, and the set bits from this one on, make the whole.
use Rattle.std.proofs.Common.{add-one, arith}
use lib.Count.{ones-le}
use Rattle.bytewise.proofs.Bytes.{set_bits_from, set_bits_from_end}
use Rattle.bytewise.proofs.set_bits.Goals as goal

pub overflow_cast-n : goal.overflow_cast-n
overflow_cast-n c = omega (arith, ones-le 8 _ (c.type_inv.bytes c.loop-byte.byte-index).fits)

pub overflow_add-n : goal.overflow_add-n
overflow_add-n c = omega (arith, ones-le 8 _ (c.type_inv.bytes c.loop-byte.byte-index).fits)

pub loop-byte-preserved : goal.loop-byte-preserved
loop-byte-preserved c =
    let i = c.loop-byte.byte-index in
    let at_most_8 = ones-le 8 _ (c.type_inv.bytes i).fits in
    let from = set_bits_from c.args.bytes.now i c.loop-byte-test.true in
    (omega (arith, at_most_8), rw (add-one i) (omega (arith, from)))

pub returns : goal.returns
returns c = omega (arith, set_bits_from_end c.args.bytes.now c.loop-byte.byte-index (omega arith))
