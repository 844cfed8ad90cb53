-- `table::passes::any_bits` meets its contract: it is the fold of all entries.
use mathlib.Core.Path.{◌≡◌, ap, ◌∙◌}
use Prim.Native.Nat.{ℕ, ◌^◌}
use borrow.Author.Rules.{rules}
use lib.Bits.{bit_or}
use lib.Dec.{ltb}
use Rattle.std.specs.List.{fold}
use Rattle.table.proofs.Owners.{bits_of_all}
use Rattle.table.proofs.passes.any_bits.Goals as goal

pub returns : goal.returns
returns c = λ k.
    let folded : c.fold.result ≡ fold bit_or 0 c.args.part.now = search rules in
    ap (λ (n : ℕ). ltb n (2 ^ k)) folded ∙ bits_of_all k c.args.part.now
