-- What a survey of a table says.
use Rattle.std.specs.Prelude.{◌≡◌, Bool, true, cond, List, ℕ, suc, ◌^◌, ◌≤◌, length, replicate}
use Rattle.table.specs.Table.{in_order?}
use Rattle.table.specs.Owners.{nodes_below, owners_of, level_counts}
use Rattle.survey.specs.declared.Finding.{Finding}

-- no node of the table lies past the tree
abbrev pub inside : ℕ → List ℕ → Bool
inside h T = nodes_below (2 ^ suc h) T

-- what a survey finds: whether the table is in order (refusal 7), and how many nodes of each level have an owner, or zeros where a node lies past
-- the tree
abbrev pub finding_of : ℕ → List ℕ → Finding
finding_of h T = record {
  in_order = in_order? h T;
  counts = record { at = cond (inside h T) (level_counts h (owners_of 8192 T)) (replicate 13 0) };
}

-- the owners by node that it leaves: zeros where a node lies past the tree
abbrev pub owners_found : ℕ → List ℕ → List ℕ
owners_found h T = cond (inside h T) (owners_of 8192 T) (replicate 8192 0)

-- what is known of a table whose nodes are all in the tree: o is who holds which node, and cs how many nodes of each level somebody holds
pub record Gathered (h : ℕ) (T cs o : List ℕ) : Type 0 where
  pub low : h ≤ 12
  pub tenants : length T ≡ 4096
  pub below : nodes_below (2 ^ suc h) T ≡ true
  pub owners : o ≡ owners_of 8192 T
  pub counts : cs ≡ level_counts h o
