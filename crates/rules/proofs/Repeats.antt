-- When a grant is a repeated one, and when a call gave a block.
use mathlib.Core.Path.{◌≡◌, refl}
use mathlib.Core.Bool.{Bool, true, false, cond, false≢true, and-eq-true_iff}
use mathlib.Core.List.{List}
use mathlib.Core.Logic.{◌↔◌}
use mathlib.Core.Option.{Option, some, none}
use Prim.Native.Nat.{ℕ, ◌<◌}
use native.Mathlib.Omega.{arith}
use borrow.Author.Tests.{ltb-true, lt-ltb, eqb-true}
use lib.Dec.{eqb, ltb}
use Rattle.tree.specs.Node.{level}
use Rattle.layout.specs.Set.{layout_set}
use Rattle.layout.specs.Change.{one_block_more}
use Rattle.table.specs.Table.{node_at, counts_of}
use Rattle.rules.specs.Step.{repeats, granted, repeated, block_for}
use Rattle.rules.specs.History.{gave_block}
use Rattle.rules.specs.Demand.{Agrees}

module _ (h : ℕ) (T : List ℕ) (t l : ℕ) where
  pub repeats_if_holder : 0 < node_at T t → repeats h T t l ≡ eqb (level h (node_at T t)) l
  unfolding repeats
  repeats_if_holder p = rw (lt-ltb 0 (node_at T t) p)

  pub never_repeats : node_at T t ≡ 0 → repeats h T t l ≡ false
  unfolding repeats
  never_repeats z = rw z

  pub repeats_holds : repeats h T t l ≡ true → (0 < node_at T t) × (level h (node_at T t) ≡ l)
  unfolding repeats
  repeats_holds e =
      let both = (and-eq-true_iff (ltb 0 (node_at T t)) (eqb (level h (node_at T t)) l)).0 e in
      (ltb-true 0 (node_at T t) both.0, eqb-true (level h (node_at T t)) l both.1)

  pub block_answer : (block_for h T t l).answer ≡ 0
  block_answer = go (repeats h T t l)
    where
      go : (b : Bool) → (cond b (repeated T (node_at T t)) (granted h T (layout_set h (one_block_more (counts_of h T) l)) t l)).answer ≡ 0
      go true = refl
      go false = refl

-- an entry that stays is no block given
pub gave_none : (e : Option ℕ) → gave_block e e ≡ false
gave_none none = refl
gave_none (some k) = refl

-- entries that agree with nodes say of these whether a block was given
pub gave_by_nodes : (h : ℕ) (before after : Option ℕ) (n m : ℕ) → Agrees h before n → Agrees h after m
    → (gave_block before after ≡ true) ↔ ((n ≡ 0) × (0 < m))
gave_by_nodes h none none n m p q = (λ e. absurd (false≢true e), λ s. absurd (omega (arith, s.1, q)))
gave_by_nodes h none (some l) n m p q = (λ e. (p, q.0.above_zero), λ s. refl)
gave_by_nodes h (some k) after n m p q = (λ e. absurd (false≢true e), λ s. absurd (omega (arith, p.0.above_zero, s.0)))
