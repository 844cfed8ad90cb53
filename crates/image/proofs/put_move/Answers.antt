-- `image::put_move` meets its contract: its stores are one run of eight bytes.
use Rattle.image.specs.Image.{numbers_of}
use Rattle.image.proofs.Images.{four_numbers}
use Rattle.image.proofs.put_move.Goals as goal

pub returns : goal.returns
unfolding numbers_of
returns c =
    rw (c.put_word-4.ensures, c.put_word-3.ensures, c.put_word-2.ensures, c.put_word.ensures)
    (four_numbers c.args.list.now c.args.at c.args.m.tenant c.args.m.from c.args.m.to c.args.m.staged)
