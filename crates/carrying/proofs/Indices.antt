-- The movers by index: of two of them the one with the higher index has the lower tenant number; and whom each waits for, by tenant.
use mathlib.Core.Path.{◌≡◌, refl, ap, ap₂, ◌∙◌}
use mathlib.Core.Bool.{Bool, true, ◌&&◌, cond, false≢true}
use mathlib.Core.Logic.{⊎_elim}
use mathlib.Core.List.{List, [], ◌∷◌, map}
use Prim.Native.Nat.{ℕ, ◌^◌, ◌<◌}
use native.Mathlib.Omega.{arith}
use native.Mathlib.Decide.{ℕ_discrete, dec_lt}
use borrow.Author.Tests.{lt-ltb}
use lib.ListN.{length, get_or}
use Rattle.tree.specs.Node.{level}
use Rattle.table.specs.Table.{node_at}
use Rattle.table.specs.Paired.{Mover}
use Rattle.plans.specs.Plan.{no_move}
use Rattle.table.specs.declared.Move.{Move}
use Rattle.carrying.specs.Carrying.{among, Plan}
use Rattle.carrying.specs.Order.{meet?, waiting_of}
use Rattle.carrying.proofs.Moving.{Moving}
use Rattle.carrying.proofs.Lists.{one_or_other, is_first, is_other, among_map}

-- the tenant with an index
abbrev pub tenant_at : List Move → ℕ → ℕ
tenant_at ms k = (get_or ms k no_move).tenant

-- the plan by indices: those who go, in their order, and the staged
abbrev pub plan_by : List Move → List ℕ → List ℕ → Plan
plan_by ms ks ss = record { direct = map (tenant_at ms) ks; staged = map (tenant_at ms) ss }

-- a list of indices of movers
abbrev pub Indices : List Move → List ℕ → Type 0
Indices ms ks = (k : ℕ) → among k ks ≡ true → k < length ms

one_more : (ms : List Move) (k : ℕ) (ks : List ℕ) → k < length ms → Indices ms ks → Indices ms (k ∷ ks)
one_more ms k ks q below j e = ⊎_elim (λ same. omega arith) (λ later. below j later) (one_or_other j k (among j ks) e)

-- the tenants us by their indices
pub record Indexed (ms : List Move) (us : List ℕ) : Type 0 where
  pub indices : List ℕ
  pub of_movers : Indices ms indices
  pub tenants : map (tenant_at ms) indices ≡ us

module _ {h t : ℕ} {T T' : List ℕ} {ms : List Move} (M : Moving h t T T' ms) where
  pub same_index : (j k : ℕ) → j < length ms → k < length ms → tenant_at ms j ≡ tenant_at ms k → j ≡ k
  same_index j k q r e = by_order (dec_lt j k) (dec_lt k j)
    where
      by_order : Dec (j < k) → Dec (k < j) → j ≡ k
      by_order (yes s) d = absurd (omega (arith, e, M.standing j k s r))
      by_order (no s) (yes d) = absurd (omega (arith, e, M.standing k j d q))
      by_order (no s) (no d) = omega arith

  pub higher_index : (j k : ℕ) → j < length ms → k < length ms → tenant_at ms j < tenant_at ms k → k < j
  higher_index j k q r less =
      elim (dec_lt k j) [
        | yes s ↦ s
        | no s ↦ elim (ℕ_discrete j k) [
          | yes e ↦ absurd (omega (arith, less, ap (tenant_at ms) e))
          | no e ↦ absurd (omega (arith, less, M.standing j k (omega arith) r))
        ]
      ]

  pub tenant_among : (k : ℕ) (ks : List ℕ) → k < length ms → Indices ms ks → among (tenant_at ms k) (map (tenant_at ms) ks) ≡ among k ks
  tenant_among k ks q below = among_map (tenant_at ms) k ks (λ j e. same_index j k (below j e) q)

  -- every list of movers is that of some indices
  pub indexed : (us : List ℕ) → ((u : ℕ) → among u us ≡ true → Mover t T T' u) → Indexed ms us
  indexed [] movers = record { indices = []; of_movers = λ k e. absurd (false≢true e); tenants = refl }
  indexed (u ∷ us) movers =
      let first = M.all_listed u (movers u (is_first u (among u us))) in
      let rest = indexed us (λ v e. movers v (is_other v u (among v us) e)) in
      record {
        indices = first.0 ∷ rest.indices;
        of_movers = one_more ms first.0 rest.indices first.1 rest.of_movers;
        tenants = ap₂ ◌∷◌ first.2 rest.tenants;
      }

  -- one waits for another if its new node meets the other's old one
  pub waits_is : (k j : ℕ) → k < length ms → j < length ms
      → (waiting_of h ms).waits k j ≡ meet? h (node_at T' (tenant_at ms k)) (node_at T (tenant_at ms j))
  unfolding waiting_of
  waits_is k j q r =
      ap₂ (λ (a b : Bool). a && (b && meet? h (get_or ms k no_move).to (get_or ms j no_move).from)) (lt-ltb k (length ms) q) (lt-ltb j (length ms) r)
      ∙ ap₂ (meet? h) (M.new k q) (M.old j r)

  pub pages_are : (k : ℕ) → k < length ms → (waiting_of h ms).pages k ≡ 2 ^ level h (node_at T (tenant_at ms k))
  unfolding waiting_of
  pages_are k q =
      ap (λ (b : Bool). cond b (2 ^ level h (get_or ms k no_move).from) 0) (lt-ltb k (length ms) q)
      ∙ ap (λ (a : ℕ). 2 ^ level h a) (M.old k q)
