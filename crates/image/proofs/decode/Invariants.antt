-- The loop's invariant: the numbers stored, and those of the bytes left, are the numbers of the image.
use Rattle.std.proofs.Common.{◌≡◌, ◌++◌, ◌*◌, take, drop}
use Rattle.image.specs.Image.{numbers_in}
use Rattle.image.proofs.decode.Given as goal

abbrev pub invariant-loop-i : goal.invariant-loop-i
invariant-loop-i l = take l.i l.numbers ++ numbers_in (drop (2 * l.i) l.image) ≡ numbers_in l.image
