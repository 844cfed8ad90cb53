-- `pagemap::pack` meets its contract. The loop's invariant: the first `j` bytes are written, and the others are as they were.
use Rattle.std.proofs.Common.{◌≡◌, sym, ap, ap₂, ◌∙◌, ℕ, List, [], ◌++◌, append-nil, get_or, set, take, drop, add-one, arith}
use Rattle.std.proofs.Math.ListN.{drop_of_length-le}
use Rattle.std.proofs.Math.Seq.{length-take-le}
use Rattle.pagemap.specs.Map.{bytes_of}
use Rattle.pagemap.proofs.Bits.{no_bytes, byte_more}
use Rattle.pagemap.proofs.pack.Goals as goal

pub loop-j-init : goal.loop-j-init
loop-j-init c = sym (no_bytes (λ p. get_or c.args.pages.now p 0) (take 512 c.args.map.now))

pub byte-requires : goal.byte-requires
byte-requires c = (omega (arith, length-take-le 512 c.args.map.now c.requires.0), c.requires.1)

pub loop-j-preserved : goal.loop-j-preserved
loop-j-preserved c =
    let j = c.loop-j.j in
    ap₂ (λ (xs : List ℕ) (x : ℕ). set xs j x) c.loop-j.invariant c.byte.ensures
    ∙ rw (add-one j) (byte_more (λ p. get_or c.args.pages.now p 0) (take 512 c.args.map.now) j c.loop-j-test.true)

pub returns : goal.returns
returns c =
    let first = take 512 c.args.map.now in
    let all : c.loop-j.j ≡ 512 = omega (arith, length-take-le 512 c.args.map.now c.requires.0) in
    let none : drop 512 first ≡ [] = drop_of_length-le first {i = 512} (omega (arith, length-take-le 512 c.args.map.now c.requires.0)) in
    ap (λ (xs : List ℕ). xs ++ drop 512 c.args.map.now)
    (rw (all, none) at c.loop-j.invariant ∙ append-nil (bytes_of 512 (λ p. get_or c.args.pages.now p 0)))
