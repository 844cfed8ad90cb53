-- Demand 3, with document 01's list under "Histories", for every height and any two histories of it.
use mathlib.Core.Path.{◌≡◌, refl, sym, ap, ◌∙◌}
use mathlib.Core.List.{List, [], ◌∷◌}
use mathlib.Core.Logic.{◌⊎◌, inl, inr, ◌↔◌}
use mathlib.Core.Option.{some, none}
use mathlib.Core.Bool.{not}
use Prim.Native.Nat.{ℕ, zero, suc, ◌+◌, ◌≤◌, ◌<◌}
use native.Mathlib.Omega.{arith}
use lib.Dec.{eqb}
use lib.ListN.{length, replicate, length-replicate}
use Rattle.tree.specs.Held.{one_if}
use Rattle.table.specs.Table.{occupied}
use Rattle.table.proofs.Order.{empty_at, empty_in_order}
use Rattle.rules.specs.Call.{Call, tenant_of}
use Rattle.rules.specs.Step.{Outcome, first, reserve_checks, check, unless, step, open_reserve}
use Rattle.rules.specs.History.{History, table_from, answers_from, table_after, Book, write, enter, book_from, book_after, held}
use Rattle.rules.specs.Demand.{Valid, Asks, Grows, Box, SameFate, no_room, room, Demand3, with_one, NoLegalSet, NoPlacement, NoExchange}
use Rattle.rules.proofs.Checks.{height_passed, valid_tenant}
use Rattle.rules.proofs.Exchanged.{held_exchanged}
use Rattle.rules.proofs.Kept.{Kept}
use Rattle.rules.proofs.Box.{box, kept_by_call}

pub kept_by_calls : (h : ℕ) (T : List ℕ) (B : Book) (cs : List Call) → Kept h T B
    → Kept h (table_from h T cs) (book_from h B cs (answers_from h T cs))
unfolding table_from answers_from book_from
kept_by_calls h T B [] K = K
kept_by_calls h T B (c ∷ cs) K = kept_by_calls h (step h T c).table (enter h c (step h T c).answer B) cs (kept_by_call h T B K c)

-- an accepted opening at height h leaves 4,096 entries of 0, and h is at most 12
record Opened (h : ℕ) (T : List ℕ) : Type 0 where
  height : h ≤ 12
  table : (open_reserve h T).table ≡ replicate 4096 0

opened : (h : ℕ) (T : List ℕ) → (open_reserve h T).answer ≡ 0 → Opened h T
unfolding open_reserve
opened h T e = go (first (reserve_checks h T)) refl
  where
    done : Outcome
    done = record { answer = 0; node = 0; moves = []; table = replicate 4096 0 }

    go : (n : ℕ) → first (reserve_checks h T) ≡ n → Opened h T
    go zero p = record {
      height = height_passed h (check 2 (not (eqb (length T) 4096)) ∷ []) p;
      table = ap (λ (n : ℕ). (unless n T done).table) p;
    }
    go (suc n) p = absurd (omega (arith, e, ap (λ (m : ℕ). (unless m T done).answer) p))

pub kept_at_opening : (h n : ℕ) → h ≤ 12 → n ≡ 4096 → Kept h (replicate n 0) (λ t. none)
kept_at_opening h n q e = record {
  height = q;
  entries = length-replicate n 0 ∙ e;
  in_order = empty_in_order h n;
  agrees = empty_at n;
}

-- every history keeps its table in order and its book in agreement
pub kept_by_history : (h : ℕ) (H : History h) → Kept h (table_after h H) (book_after h H)
kept_by_history h H =
    let o = opened h H.lent H.opened in
    kept_by_calls h (open_reserve h H.lent).table (λ t. none) H.calls
    (rw o.table (kept_at_opening h 4096 o.height refl))

-- ---- two boxes

-- a set that is the one legal and safe set for sizes that both boxes hold
pub same_places : (h : ℕ) (T₁ T₂ : List ℕ) (B₁ B₂ : Book) → Box h T₁ B₁ → Box h T₂ B₂ → ((l : ℕ) → held B₁ l ≡ held B₂ l)
    → (n : ℕ) → occupied T₁ n ≡ occupied T₂ n
same_places h T₁ T₂ B₁ B₂ b₁ b₂ e = b₂.only (occupied T₁) b₁.within b₁.legal b₁.safe (λ l. b₁.sized l ∙ e l)

-- equal sizes leave no legal set on both boxes, or on neither
no_set_on_both : (h : ℕ) (one two : ℕ → ℕ) → ((m : ℕ) → one m ≡ two m) → NoLegalSet h one → NoLegalSet h two
no_set_on_both h one two e none_legal A w s = none_legal A w (λ m. s m ∙ sym (e m))

-- what is known of one box's answer: 10 exactly when no legal set has the sizes, and otherwise 0
abbrev TenOrNone : ℕ → (ℕ → ℕ) → Outcome → Type 0
TenOrNone h sized o = ((o.answer ≡ 10) ↔ NoLegalSet h sized) × ((o.answer ≡ 10) ⊎ (o.answer ≡ 0))

same_fate : (h : ℕ) (one two : ℕ → ℕ) (o₁ o₂ : Outcome) (most : ℕ) → ((m : ℕ) → one m ≡ two m) → TenOrNone h one o₁ → TenOrNone h two o₂
    → (o₁.answer ≡ 0 → length o₁.moves ≤ most) → (o₂.answer ≡ 0 → length o₂.moves ≤ most) → SameFate (NoLegalSet h one) most o₁ o₂
same_fate h one two o₁ o₂ most e first second few₁ few₂ = go first.1 second.1
  where
    none_on_both : NoLegalSet h one → o₂.answer ≡ 10
    none_on_both p = second.0.1 (no_set_on_both h one two e p)

    none_back : o₂.answer ≡ 10 → NoLegalSet h one
    none_back p = no_set_on_both h two one (λ m. sym (e m)) (second.0.0 p)

    go : (o₁.answer ≡ 10) ⊎ (o₁.answer ≡ 0) → (o₂.answer ≡ 10) ⊎ (o₂.answer ≡ 0) → SameFate (NoLegalSet h one) most o₁ o₂
    go (inl p) q = let none_legal = first.0.0 p in no_room p (none_on_both none_legal) none_legal
    go (inr p) (inl q) = absurd (omega (arith, first.0.1 (none_back q)))
    go (inr p) (inr q) = room p q (few₁ p) (few₂ q) (λ none_legal. absurd (omega (arith, first.0.1 none_legal)))

module _ (h : ℕ) (T₁ T₂ : List ℕ) (B₁ B₂ : Book) (b₁ : Box h T₁ B₁) (b₂ : Box h T₂ B₂) (e : (l : ℕ) → held B₁ l ≡ held B₂ l) where
  pub same_grant : (c₁ c₂ : Call) (l : ℕ) → Asks h c₁ l → Asks h c₂ l → Valid h c₁ → Valid h c₂ → B₁ (tenant_of c₁) ≡ none → B₂ (tenant_of c₂) ≡ none
      → SameFate (NoPlacement h B₁ l) 3 (step h T₁ c₁) (step h T₂ c₂)
  same_grant c₁ c₂ l a₁ a₂ v₁ v₂ n₁ n₂ =
      same_fate h (with_one B₁ l) (with_one B₂ l) (step h T₁ c₁) (step h T₂ c₂) 3 (λ m. ap (λ (c : ℕ). c + one_if (eqb m l)) (e m))
      (b₁.other_asks c₁ l a₁ v₁ n₁) (b₂.other_asks c₂ l a₂ v₂ n₂) (b₁.grant_moves c₁ l a₁) (b₂.grant_moves c₂ l a₂)

  -- the same level goes and the same comes
  same_exchange : (t₁ t₂ l k : ℕ) → t₁ < 4096 → t₂ < 4096 → B₁ t₁ ≡ some k → B₂ t₂ ≡ some k
      → (m : ℕ) → held (write t₁ (some l) B₁) m ≡ held (write t₂ (some l) B₂) m
  same_exchange t₁ t₂ l k q₁ q₂ k₁ k₂ m =
      omega (
        arith,
        rw k₁ at (held_exchanged B₁ t₁ (some l) m q₁),
        rw k₂ at (held_exchanged B₂ t₂ (some l) m q₂),
        e m,
      )

  pub same_growth : (c₁ c₂ : Call) (l k : ℕ) → Grows c₁ l → Grows c₂ l → Valid h c₁ → Valid h c₂
      → B₁ (tenant_of c₁) ≡ some k → B₂ (tenant_of c₂) ≡ some k
      → SameFate (NoExchange h B₁ (tenant_of c₁) l) 7 (step h T₁ c₁) (step h T₂ c₂)
  same_growth c₁ c₂ l k g₁ g₂ v₁ v₂ k₁ k₂ =
      same_fate h (held (write (tenant_of c₁) (some l) B₁)) (held (write (tenant_of c₂) (some l) B₂)) (step h T₁ c₁) (step h T₂ c₂) 7
      (same_exchange (tenant_of c₁) (tenant_of c₂) l k (valid_tenant h c₁ v₁) (valid_tenant h c₂ v₂) k₁ k₂)
      (b₁.holder_grows c₁ l k g₁ v₁ k₁) (b₂.holder_grows c₂ l k g₂ v₂ k₂) (b₁.growth_moves c₁ l g₁) (b₂.growth_moves c₂ l g₂)

pub demand_3 : (h : ℕ) (H₁ H₂ : History h) → Demand3 h H₁ H₂
demand_3 h H₁ H₂ =
    let T₁ = table_after h H₁ in
    let T₂ = table_after h H₂ in
    let B₁ = book_after h H₁ in
    let B₂ = book_after h H₂ in
    let b₁ = box h T₁ B₁ (kept_by_history h H₁) in
    let b₂ = box h T₂ B₂ (kept_by_history h H₂) in
    record {
      one = b₁;
      two = b₂;
      same_places = same_places h T₁ T₂ B₁ B₂ b₁ b₂;
      same_fate = same_grant h T₁ T₂ B₁ B₂ b₁ b₂;
      same_growth = same_growth h T₁ T₂ B₁ B₂ b₁ b₂;
    }
