-- `calls::open` meets its contract: a table whose length has passed has 4,096 entries.
use mathlib.Core.Path.{sym, ap, ◌∙◌}
use Prim.Native.Nat.{ℕ}
use lib.ListN.{replicate}
use Rattle.rules.specs.Step.{open_reserve}
use Rattle.rules.proofs.Opening.{table_length}
use Rattle.calls.proofs.open.Goals as goal

pub returns-clause-table : goal.returns-clause-table
unfolding open_reserve
returns-clause-table c =
    let passed = sym c.in_ok-reserve_refusal.ensures in
    rw passed (c.fill.ensures.after (λ y is. is) ∙ ap (λ (n : ℕ). replicate n 0) (table_length c.args.height c.args.table.now passed))
