-- `image::decode` meets its contract.
use Rattle.std.proofs.Common.{zero-le, sym, ◌∙◌, ◌*◌, length, arith}
use Rattle.std.proofs.Math.Seq.{take-length}
use borrow.Author.Tests.{eq-eqb, ne_eqb}
use Rattle.image.proofs.Images.{lent_as_none, lent_as_all, decoded_more, decoded_all}
use Rattle.image.proofs.decode.Goals as goal

pub returns-then-image-numbers : goal.returns-then-image-numbers
returns-then-image-numbers c =
    let s = c.args.image.now in
    let n = length c.args.numbers.now in
    let other = c.if-image-numbers.true in
    record { front = record { few = zero-le; front = sym (lent_as_none n s other) }; numbers = rw (ne_eqb (length s) (2 * n) other) }

pub loop-i-preserved : goal.loop-i-preserved
loop-i-preserved c =
    rw c.word.ensures (decoded_more c.args.image.now c.loop-i.numbers c.loop-i.i c.loop-i.invariant (omega arith) (omega arith))

pub returns : goal.returns
returns c =
    let s = c.args.image.now in
    let numbers = c.loop-i.numbers in
    let same = decoded_all s numbers c.loop-i.i (omega arith) (omega arith) c.loop-i.invariant in
    record {
      front = record { few = omega arith; front = take-length numbers ∙ same ∙ sym (lent_as_all (length numbers) s (omega arith)) };
      numbers = rw (eq-eqb (length s) (2 * length c.args.numbers.now) c.if-image-numbers.false) same;
    }
