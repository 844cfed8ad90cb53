-- The lists of the samples are those that the definitions give.
use mathlib.Core.Path.{refl}
use Rattle.tree.specs.Node.{depth}
use Rattle.staging.specs.Choice.{next_of, order_of, works?, cost_of, free_of, apart?, cheaper_of, better_of, chosen_of}
use Rattle.carrying.specs.Order.{by_tenant, meet?, waiting_of, worked, moves_in_order}
use Rattle.carrying.specs.Samples.{samples, AllAsWritten}

pub lists_as_written : AllAsWritten samples
unfolding
    AllAsWritten moves_in_order worked by_tenant waiting_of meet? depth chosen_of better_of cheaper_of apart? free_of works? cost_of order_of next_of
lists_as_written = (refl, (refl, (refl, (refl, tt))))
