-- The loop's invariant: the bytes passed are those of the moves passed, the others as they were.
use Rattle.std.proofs.Common.{◌≡◌, ◌++◌, ◌*◌, take, drop}
use Rattle.image.specs.Image.{move_bytes}
use Rattle.image.proofs.put_moves.Given as goal

abbrev pub invariant-loop-k : goal.invariant-loop-k
invariant-loop-k l = l.list ≡ move_bytes (take l.k l.m-items) ++ drop (8 * l.k) l.initial.list
