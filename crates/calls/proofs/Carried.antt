-- One move carried out, and the rest still to do.
use mathlib.Core.Path.{◌≡◌, ap}
use mathlib.Core.List.{List}
use Prim.Native.Nat.{ℕ, ◌+◌, ◌≤◌, ◌<◌}
use native.Mathlib.Numerals.{add-one}
use lib.ListN.{length, get_or, drop, set, drop_of_length-le}
use lib.Seq.{drop-cons}
use Rattle.table.specs.Pairing.{written}
use Rattle.table.specs.declared.Move.{Move}
use Rattle.plans.specs.Plan.{no_move}

pub written_step : (T : List ℕ) (ms : List Move) (i : ℕ) → i < length ms
    → written T (drop i ms) ≡ written (set T (get_or ms i no_move).tenant (get_or ms i no_move).to) (drop (i + 1) ms)
unfolding written
written_step T ms i q = rw add-one (ap (written T) (drop-cons ms i no_move q))

pub written_end : (T : List ℕ) (ms : List Move) (i : ℕ) → length ms ≤ i → written T (drop i ms) ≡ T
unfolding written
written_end T ms i q = ap (written T) (drop_of_length-le ms q)
