-- What drawing the map answers and leaves, case by case.
use mathlib.Core.Path.{◌≡◌, refl, sym, ap, ◌∙◌}
use mathlib.Core.Bool.{true, false, not}
use mathlib.Core.List.{List, [], ◌∷◌, ◌++◌}
use Prim.Native.Nat.{ℕ, zero, suc, ◌≤◌, ◌<◌}
use native.Mathlib.Nat.{le_trans}
use borrow.Author.Tests.{lt-ltb, le-ltb, eq-eqb, not-true, not-false}
use lib.Dec.{eqb}
use lib.ListN.{length, drop}
use Rattle.refusal.specs.declared.Refusal.{Refusal}
use Rattle.refusal.specs.Number.{number_of}
use Rattle.refusal.proofs.Numbers.{not_zero}
use Rattle.tree.specs.Held.{one_if}
use Rattle.tree.specs.Pages.{coveredb}
use Rattle.layout.specs.Layout.{pages}
use Rattle.layout.specs.Rows.{rows_of, rows_hold}
use Rattle.layout.specs.declared.Layout.{Layout}
use Rattle.layout.proofs.Bounds.{power_le_4096}
use Rattle.table.specs.Table.{InOrder, counts_of, in_order?}
use Rattle.table.proofs.Order.{in_order_iff, in_order_fits}
use Rattle.survey.specs.declared.Finding.{Finding}
use Rattle.survey.specs.Survey.{finding_of, owners_found}
use Rattle.survey.proofs.Surveyed.{Surveyed, surveyed}
use Rattle.rules.specs.Step.{check, first, reserve_checks}
use Rattle.rules.proofs.Checks.{first_stands, height_passed}
use Rattle.rules.proofs.Opening.{table_length}
use Rattle.pagemap.specs.Map.{bytes_of, page_map}
use Rattle.pagemap.specs.Draw.{drawing, map_checks, unless_refused, drawn}
use Rattle.pagemap.proofs.Rows.{map_of_rows}

refused : (k : ℕ) (m done : List ℕ) → ¬ (k ≡ 0) → drawing k m ≡ unless_refused k m done
refused zero m done ne = absurd (ne refl)
refused (suc k) m done ne = refl

-- 1 or 2 applies
pub drawn_refused : (h : ℕ) (T m : List ℕ) (e : Refusal) → number_of e ≡ first (reserve_checks h T)
    → drawing (number_of e) m ≡ drawn h T m
unfolding drawn
drawn_refused h T m e is =
    rw (first_stands (reserve_checks h T) (map_checks h T m) (not_zero e (first (reserve_checks h T)) is), ← is)
    (refused (number_of e) m (page_map h T ++ drop 512 m) (not_zero e (number_of e) refl))

-- neither does
module _ (h : ℕ) (T : List ℕ) (passed : first (reserve_checks h T) ≡ 0) where
  pub low : h ≤ 12
  low = height_passed h (check 2 (not (eqb (length T) 4096)) ∷ []) passed

  pub long : length T ≡ 4096
  long = table_length h T passed

  -- what the survey shows
  module _ (o : List ℕ) (f : Finding) (finding : f ≡ finding_of h T) (owners : o ≡ owners_found h T) where
    shown : Surveyed h T o f
    shown = surveyed h T low long o f finding owners

    pub drawn_out_of_order : (m : List ℕ) → not f.in_order ≡ true → drawing 7 m ≡ drawn h T m
    unfolding drawn
    drawn_out_of_order m disordered =
        let out_of_order : in_order? h T ≡ false = sym shown.order_tested ∙ not-true f.in_order disordered in
        rw (le-ltb 12 h low, eq-eqb (length T) 4096 long, out_of_order)

    module _ (ordered : not f.in_order ≡ false) where
      passed_order : in_order? h T ≡ true
      passed_order = sym shown.order_tested ∙ not-false f.in_order ordered

      in_order : InOrder h T
      in_order = (in_order_iff h T low).0 passed_order

      counts : f.counts.at ≡ counts_of h T
      counts = shown.counts (not-false f.in_order ordered)

      pub pages_fit : pages f.counts.at ≤ 4096
      pages_fit = rw counts (le_trans (in_order_fits h T low in_order) (power_le_4096 h low))

      pub drawn_short : (m : List ℕ) → length m < 512 → drawing 15 m ≡ drawn h T m
      unfolding drawn
      drawn_short m q = rw (le-ltb 12 h low, eq-eqb (length T) 4096 long, passed_order, lt-ltb (length m) 512 q)

      pub drawn_done : (m new : List ℕ) (L : Layout) → 512 ≤ length m → L ≡ rows_of f.counts.at
          → new ≡ bytes_of 512 (λ p. one_if (coveredb 12 (rows_hold L) p)) ++ drop 512 m → drawing 0 new ≡ drawn h T m
      unfolding drawn
      drawn_done m new L q rows written =
          rw (le-ltb 12 h low, eq-eqb (length T) 4096 long, passed_order, le-ltb (length m) 512 q)
          (ap (drawing 0) (written ∙ rw (rows, counts, map_of_rows h T low in_order)))
