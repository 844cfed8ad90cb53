-- The loop's invariant: the bytes passed are the image of the entries passed, the others as they were.
use Rattle.std.proofs.Common.{◌≡◌, ◌++◌, ◌*◌, take, drop}
use Rattle.image.specs.Image.{image_of}
use Rattle.image.proofs.encode.Given as goal

abbrev pub invariant-loop-i : goal.invariant-loop-i
invariant-loop-i l = l.image ≡ image_of (take l.i l.numbers) ++ drop (2 * l.i) l.initial.image
