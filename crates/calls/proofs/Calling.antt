-- From a call's arguments to what its table decides.
use mathlib.Core.Path.{◌≡◌, refl, sym, ap, subst, ◌∙◌}
use mathlib.Core.Bool.{not}
use mathlib.Core.List.{List, ◌∷◌, ◌++◌}
use Prim.Native.Nat.{ℕ, ◌≤◌}
use native.Mathlib.Omega.{arith}
use lib.Dec.{eqb, ltb}
use lib.ListN.{length}
use Rattle.refusal.specs.declared.Refusal.{Refusal}
use Rattle.refusal.specs.Number.{number_of}
use Rattle.refusal.proofs.Numbers.{not_zero}
use Rattle.table.specs.Table.{in_order?}
use Rattle.rules.specs.Call.{Call, tenant_of}
use Rattle.rules.specs.Step.{refused, Check, check, first, reserve_checks, size_checks, validity, holdings, unless, accepted, step}
use Rattle.calls.specs.Changes.{Ready, change_on}
use Rattle.rules.specs.Value.{call_of}
use Rattle.rules.specs.declared.Call.{Call as Arguments}
use Rattle.rules.specs.declared.Call.TheVariants.{GrantLevel, GrantPages, Release, Grow}
use Rattle.rules.proofs.Checks.{Numbered, validity_numbered, first_after_none, first_stands, rest_zero}
use Rattle.rules.proofs.Checks.{height_passed, length_passed, valid_tenant, valid_size}
use Rattle.rules.proofs.Opening.{refused_unless}

-- 1 to 6
abbrev pub arguments : ℕ → List ℕ → Call → List Check
arguments h T c = reserve_checks h T ++ validity h c

pub arguments_numbered : (h : ℕ) (T : List ℕ) (c : Call) → Numbered (arguments h T c)
arguments_numbered h T c = (omega arith, (omega arith, validity_numbered h c))

module _ (h : ℕ) (T : List ℕ) (c : Call) where
  by_table : List Check
  by_table = check 7 (not (in_order? h T)) ∷ holdings h T c

  pub call_refused : (e : Refusal) → number_of e ≡ first (arguments h T c) → refused (number_of e) T ≡ step h T c
  unfolding step by_table
  call_refused e is =
      let ne = not_zero e (number_of e) refl in
      refused_unless (number_of e) T (accepted h T c) ne
      ∙ ap (λ (n : ℕ). unless n T (accepted h T c)) (is ∙ sym (first_stands (arguments h T c) by_table (λ z. ne (is ∙ z))))

  module _ (passed : first (arguments h T c) ≡ 0) where
    decided : unless (first by_table) T (accepted h T c) ≡ step h T c
    unfolding step by_table
    decided =
        ap (λ (n : ℕ). unless n T (accepted h T c)) (sym (first_after_none (arguments h T c) by_table (arguments_numbered h T c) passed))

    height_checked : h ≤ 12
    height_checked = height_passed h (check 2 (not (eqb (length T) 4096)) ∷ validity h c) passed

    length_checked : first (check 2 (not (eqb (length T) 4096)) ∷ validity h c) ≡ 0
    length_checked = rest_zero 1 (ltb 12 h) (check 2 (not (eqb (length T) 4096)) ∷ validity h c) (omega arith) passed

    pub valid : first (validity h c) ≡ 0
    valid = rest_zero 2 (not (eqb (length T) 4096)) (validity h c) (omega arith) length_checked

    pub ready : Ready h T (tenant_of c)
    ready = record {
      height = height_checked;
      entries = length_passed T (validity h c) length_checked;
      tenant = valid_tenant h c valid;
    }

    sized : first (size_checks h c) ≡ 0
    sized = valid_size h c valid

    call_changes : change_on h T c ≡ step h T c
    unfolding change_on by_table
    call_changes = decided

-- ---- the entries lent do not matter for what the table decides

module _ (h : ℕ) (T : List ℕ) (m : ℕ) where
  pub same_tenant : (c : Arguments) → tenant_of (call_of c m) ≡ tenant_of (call_of c 0)
  same_tenant (GrantLevel t l) = refl
  same_tenant (GrantPages t p) = refl
  same_tenant (Release t) = refl
  same_tenant (Grow t l) = refl

  same_size : (c : Arguments) → first (size_checks h (call_of c m)) ≡ first (size_checks h (call_of c 0))
  same_size (GrantLevel t l) = refl
  same_size (GrantPages t p) = refl
  same_size (Release t) = refl
  same_size (Grow t l) = refl

  same_change : (c : Arguments) → change_on h T (call_of c 0) ≡ change_on h T (call_of c m)
  unfolding change_on
  same_change (GrantLevel t l) = refl
  same_change (GrantPages t p) = refl
  same_change (Release t) = refl
  same_change (Grow t l) = refl

-- a call whose arguments have passed, with any number of entries that they take
module _ (h : ℕ) (T : List ℕ) (c : Arguments) (m : ℕ) (passed : first (arguments h T (call_of c m)) ≡ 0) where
  pub ready_to_change : Ready h T (tenant_of (call_of c 0))
  ready_to_change = subst (Ready h T) (same_tenant h T m c) (ready h T (call_of c m) passed)

  pub sized_to_change : first (size_checks h (call_of c 0)) ≡ 0
  sized_to_change = sym (same_size h T m c) ∙ sized h T (call_of c m) passed

  pub changes : change_on h T (call_of c 0) ≡ step h T (call_of c m)
  changes = same_change h T m c ∙ call_changes h T (call_of c m) passed
