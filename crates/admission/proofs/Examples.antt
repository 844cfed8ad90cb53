-- The worked examples are what `step` does, computed on the nodes of the first tenants.
use mathlib.Core.Path.{refl}
use mathlib.Core.List.{List, [], ◌∷◌}
use Rattle.tree.specs.Node.{depth}
use Rattle.layout.specs.Layout.{layout, pages}
use Rattle.table.specs.Table.{occupied, counts_of, all_below, in_order?}
use Rattle.table.specs.Pairing.{leavers, places, shifts, newcomer, moved, moves_of}
use Rattle.staging.specs.Choice.{next_of, order_of, works?, cost_of, free_of, apart?, cheaper_of, better_of, chosen_of}
use Rattle.carrying.specs.Order.{by_tenant, meet?, waiting_of, worked, moves_in_order}
use Rattle.sizes.specs.Level.{least_level, level_for}
use Rattle.line.specs.Line.{triples, line_of}
use Rattle.line.specs.Order.{line_in_order?}
use Rattle.line.specs.Changes.{barred, leave, choose}
use Rattle.rules.specs.Step.{repeats}
use Rattle.admission.specs.Examples.{Example, examples, AllAsWritten}
use Rattle.admission.proofs.Short.{ShortRows, as_written}

unfoldable AllShort : List Example → Type 0
AllShort [] = Unit {0}
AllShort (e ∷ es) = ShortRows e.height e.nodes e.waiting e.rows × AllShort es

all_short : AllShort examples
unfolding AllShort ShortRows repeats level_for least_level in_order? counts_of all_below occupied layout pages depth newcomer leavers places shifts
    moved moves_of moves_in_order worked by_tenant waiting_of meet? chosen_of better_of cheaper_of apart? free_of works? cost_of order_of next_of
    line_of triples line_in_order? barred leave choose
all_short = (
  (refl, (refl, (refl, (refl, (refl, (refl, (refl, (refl, tt)))))))),
  (
    (refl, (refl, tt)),
    (
      (refl, tt),
      (
        (refl, (refl, (refl, (refl, (refl, (refl, (refl, (refl, (refl, (refl, (refl, (refl, (refl, (refl, (refl, (refl, tt)))))))))))))))),
        (
          (refl, (refl, (refl, (refl, (refl, (refl, tt)))))),
          (
            (refl, (refl, (refl, (refl, (refl, (refl, (refl, (refl, (refl, (refl, tt)))))))))),
            (
              (refl, (refl, (refl, (refl, (refl, (refl, (refl, (refl, (refl, (refl, (refl, (refl, (refl, tt))))))))))))),
              (
                (refl, (refl, tt)),
                (
                  (refl, (refl, tt)),
                  (
                    (refl, (refl, (refl, tt))),
                    (
                      (refl, (refl, tt)),
                      tt,
                    ),
                  ),
                ),
              ),
            ),
          ),
        ),
      ),
    ),
  ),
)

from_short : (es : List Example) → AllShort es → AllAsWritten es
unfolding AllShort AllAsWritten
from_short [] s = tt
from_short (e ∷ es) s = (as_written e.height e.nodes e.waiting e.rows s.0, from_short es s.1)

pub examples_as_written : AllAsWritten examples
examples_as_written = from_short examples all_short
