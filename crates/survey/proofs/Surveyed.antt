-- What a survey tells of a table in order: its counts, and who holds which node.
use mathlib.Core.Path.{◌≡◌, refl, sym, ap, ◌∙◌}
use mathlib.Core.Bool.{Bool, true, false}
use mathlib.Core.List.{List}
use Prim.Native.Nat.{ℕ, suc, ◌^◌, ◌≤◌}
use lib.ListN.{length, replicate}
use Rattle.table.specs.Table.{counts_of, in_order?}
use Rattle.table.specs.Owners.{owners_of, stored_if, level_counts}
use Rattle.table.proofs.Order.{in_order_iff}
use Rattle.table.proofs.Owners.{below_of_nodes}
use Rattle.survey.specs.Survey.{inside, finding_of, owners_found, Gathered}
use Rattle.survey.specs.declared.Finding.{Finding}
use Rattle.survey.proofs.Gathered.{past_tree_not_in_order, counts_if_in_order}

-- r tells whether the table T is in order, and if it is, the number held at each level; o then has the owner of each node
pub record Surveyed (h : ℕ) (T o : List ℕ) (r : Finding) : Type 0 where
  pub order_tested : r.in_order ≡ in_order? h T
  pub counts : r.in_order ≡ true → r.counts.at ≡ counts_of h T
  pub owners : r.in_order ≡ true → o ≡ owners_of 8192 T

-- what is stored over zeros, and what is then known of a table whose nodes are all in the tree
pub stored_over_zeros : (h : ℕ) (T o o' : List ℕ) → o ≡ replicate 8192 0 → o' ≡ stored_if (inside h T) o T → o' ≡ owners_found h T
stored_over_zeros h T o o' zeros stored = stored ∙ ap (λ (os : List ℕ). stored_if (inside h T) os T) zeros

pub gathered_from : (h : ℕ) (T cs o : List ℕ) → h ≤ 12 → length T ≡ 4096 → inside h T ≡ true → o ≡ owners_found h T → cs ≡ level_counts h o
    → Gathered h T cs o
gathered_from h T cs o low entries below stored counted =
    record { low = low; tenants = entries; below = below; owners = stored ∙ rw below; counts = counted }

-- what is found where a node lies past the tree, and where none does
pub found_past : (h : ℕ) (T cs : List ℕ) → h ≤ 12 → inside h T ≡ false → cs ≡ replicate 13 0
    → record { in_order = false; counts = record { at = cs } } ≡ finding_of h T
found_past h T cs low past none =
    let counts : cs ≡ (finding_of h T).counts.at = rw past none in
    λ i. record { in_order = past_tree_not_in_order h T low past i; counts = record { at = counts i } }

pub found_inside : {h : ℕ} {T cs o : List ℕ} → Gathered h T cs o → (b : Bool) → b ≡ in_order? h T
    → record { in_order = b; counts = record { at = cs } } ≡ finding_of h T
found_inside {h} {T} {cs} {o} g b order =
    let counts : cs ≡ (finding_of h T).counts.at = rw g.below (g.counts ∙ ap (level_counts h) g.owners) in
    λ i. record { in_order = order i; counts = record { at = counts i } }

module _ (h : ℕ) (T : List ℕ) (low : h ≤ 12) (entries : length T ≡ 4096) where
  in_order_inside : in_order? h T ≡ true → inside h T ≡ true
  in_order_inside e = below_of_nodes (2 ^ suc h) T (λ t q. ((in_order_iff h T low).0 e).in_tree t)

  pub surveyed : (o : List ℕ) (r : Finding) → r ≡ finding_of h T → o ≡ owners_found h T → Surveyed h T o r
  surveyed o r found stored = record {
    order_tested = order;
    counts = λ e.
        let i = in_order_inside (sym order ∙ e) in
        ap (λ (f : Finding). f.counts.at) found ∙ rw i (counts_if_in_order (gathered i) (sym order ∙ e));
    owners = λ e. stored ∙ rw (in_order_inside (sym order ∙ e));
  }
    where
      order : r.in_order ≡ in_order? h T
      order = ap (λ (f : Finding). f.in_order) found

      gathered : inside h T ≡ true → Gathered h T (level_counts h (owners_of 8192 T)) (owners_of 8192 T)
      gathered i = record { low = low; tenants = entries; below = i; owners = refl; counts = refl }
