-- Demand 3 and what document 02, L7, adds to it, for every height and any two histories of it.
use mathlib.Core.Path.{◌≡◌}
use Prim.Native.Nat.{ℕ}
use Rattle.rules.specs.Step.{Outcome as TableOutcome}
use Rattle.rules.specs.Demand.{SameFate}
use Rattle.rules.proofs.Demand.{same_places, same_grant, same_growth}
use Rattle.admission.specs.Call.{State}
use Rattle.boxes.specs.History.{History, state_after, Book, book_after}
use Rattle.boxes.specs.Demand.{Boxes, Demand3}
use Rattle.boxes.proofs.Kept.{Kept}
use Rattle.boxes.proofs.Histories.{history_kept}
use Rattle.boxes.proofs.Box.{of_table, nobody_bars, unbarred_as_table, unlined_as_table, growth_as_table, box}

-- outcomes by other names
same_outcomes : {nothing_legal : Type 0} {most : ℕ} {o₁ o₂ p₁ p₂ : TableOutcome} → o₁ ≡ p₁ → o₂ ≡ p₂ → SameFate nothing_legal most p₁ p₂
    → SameFate nothing_legal most o₁ o₂
same_outcomes e₁ e₂ f = rw (e₁, e₂) f

boxes : (h : ℕ) (S₁ S₂ : State) (B₁ B₂ : Book) → Kept h S₁ B₁ → Kept h S₂ B₂ → Boxes h S₁ S₂ B₁ B₂
boxes h S₁ S₂ B₁ B₂ K₁ K₂ =
    let H₁ = B₁.holdings in
    let H₂ = B₂.holdings in
    let b₁ = of_table h S₁ B₁ K₁ in
    let b₂ = of_table h S₂ B₂ K₂ in
    record {
      one = box h S₁ B₁ K₁;
      two = box h S₂ B₂ K₂;
      same_places = same_places h S₁.table S₂.table H₁ H₂ b₁ b₂;
      same_fate = λ e free₁ free₂ c₁ c₂ l a₁ a₂ v₁ v₂ n₁ n₂ out₁ out₂.
          same_outcomes (unbarred_as_table h S₁ B₁ K₁ c₁ l a₁ out₁ (nobody_bars h S₁ B₁ K₁ free₁))
          (unbarred_as_table h S₂ B₂ K₂ c₂ l a₂ out₂ (nobody_bars h S₂ B₂ K₂ free₂))
          (same_grant h S₁.table S₂.table H₁ H₂ b₁ b₂ e c₁ c₂ l a₁ a₂ v₁ v₂ n₁ n₂);
      same_fate_unlined = λ e empty₁ empty₂ c₁ c₂ l a₁ a₂ v₁ v₂ n₁ n₂.
          same_outcomes (unlined_as_table h S₁ B₁ K₁ c₁ l empty₁ a₁) (unlined_as_table h S₂ B₂ K₂ c₂ l empty₂ a₂)
          (same_grant h S₁.table S₂.table H₁ H₂ b₁ b₂ e c₁ c₂ l a₁ a₂ v₁ v₂ n₁ n₂);
      same_growth = λ e c₁ c₂ l k g₁ g₂ v₁ v₂ k₁ k₂.
          same_outcomes (growth_as_table h S₁ B₁ K₁ c₁ l g₁) (growth_as_table h S₂ B₂ K₂ c₂ l g₂)
          (same_growth h S₁.table S₂.table H₁ H₂ b₁ b₂ e c₁ c₂ l k g₁ g₂ v₁ v₂ k₁ k₂);
    }

pub demand_3 : (h : ℕ) (H₁ H₂ : History h) → Demand3 h H₁ H₂
demand_3 h H₁ H₂ =
    boxes h (state_after h H₁) (state_after h H₂) (book_after h H₁) (book_after h H₂) (history_kept h H₁) (history_kept h H₂)
