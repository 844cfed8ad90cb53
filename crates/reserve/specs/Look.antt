-- A tenant's entry, as the C door tells it.
use Rattle.std.specs.Prelude.{◌≡◌, not, cond, List, ℕ, ◌<◌, eqb, ltb, length, set}
use Rattle.table.specs.Table.{with_node, node_at}
use Rattle.reserve.specs.declared.entries.Entry.{Entry}

-- a refusal: its number, and no node
abbrev pub no_entry : ℕ → Entry
no_entry number = record { answer = number; node = 0 }

-- the answer for a tenant in a table: 2 if the table has another length, 4 above tenant 4,095, else the tenant's node, 0 for nothing
unfoldable pub entry_for : List ℕ → ℕ → Entry
entry_for T t =
    cond (not (eqb (length T) 4096)) (no_entry 2)
    (cond (ltb 4095 t) (no_entry 4)
    (record { answer = 0; node = node_at T t }))

-- with node n entered for tenant t, that is what is told of t, and of everybody else what was told before
pub record TellsEntry (T : List ℕ) (t n : ℕ) : Type 0 where
  pub its_own : entry_for (set T t (with_node 0 n)) t ≡ record { answer = 0; node = n }
  pub of_others : (u : ℕ) → ¬ (u ≡ t) → entry_for (set T t (with_node 0 n)) u ≡ entry_for T u

-- for every table and tenant
abbrev pub EntryTold : Type 0
EntryTold = (T : List ℕ) (t n : ℕ) → length T ≡ 4096 → t < 4096 → TellsEntry T t n
