-- `pagemap::count` meets its contract, for a map of 512 bytes or more and for a shorter one.
use Rattle.std.proofs.Common.{refl, length, arith}
use borrow.Author.Tests.{lt-ltb, le-ltb}
use Rattle.pagemap.specs.Count.{counted}
use Rattle.pagemap.proofs.count.Goals as goal

pub returns-then-map-ge-MAP_BYTES : goal.returns-then-map-ge-MAP_BYTES
unfolding counted
returns-then-map-ge-MAP_BYTES c = rw (le-ltb (length c.args.map.now) 512 (omega arith)) (record { answer = refl; count = c.set_bits.ensures })

pub returns-else-map-ge-MAP_BYTES : goal.returns-else-map-ge-MAP_BYTES
unfolding counted
returns-else-map-ge-MAP_BYTES c = rw (lt-ltb (length c.args.map.now) 512 (omega arith)) (record { answer = refl; count = refl })
