-- `image::encode` meets its contract.
use Rattle.std.proofs.Common.{refl, ◌∙◌, arith}
use Rattle.image.specs.Image.{image_of}
use Rattle.image.proofs.Images.{encoded_more, encoded_all}
use Rattle.image.proofs.encode.Goals as goal

pub loop-i-init : goal.loop-i-init
unfolding image_of
loop-i-init c = refl

pub loop-i-preserved : goal.loop-i-preserved
loop-i-preserved c =
    c.put_word.ensures
    ∙ encoded_more c.args.image.now c.args.numbers.now c.loop-i.image c.loop-i.i c.loop-i.invariant c.loop-i-test.true (omega arith)

pub returns : goal.returns
returns c = encoded_all c.args.image.now c.args.numbers.now c.loop-i.image c.loop-i.i (omega arith) c.loop-i.invariant c.requires
