-- `with_mover` meets its contract, digit by digit.
use mathlib.Core.Path.{◌∙◌, ap}
use lib.Bits.{bit_or}
use Rattle.staging.specs.Choice.{has}
use Rattle.staging.proofs.Bits.{has_joined}
use Rattle.staging.proofs.with_mover.Goals as goal

pub returns : goal.returns
returns c =
    let a = c.before.args in
    let number = ap (bit_or a.group) c.single.ensures in
    record { members = ap has number ∙ (λ i j. has_joined a.group a.k j i); number = number }
