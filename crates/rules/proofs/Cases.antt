-- Every call on a sound table goes one of the ways of Ways.antt.
use mathlib.Core.Path.{◌≡◌, refl, sym, ap, ◌∙◌}
use mathlib.Core.Bool.{Bool, true, false, cond}
use mathlib.Core.List.{List, [], ◌∷◌, ◌++◌}
use Prim.Native.Nat.{ℕ, zero, suc, ◌+◌, ◌^◌, ◌≤◌, ◌<◌}
use native.Mathlib.Omega.{arith}
use borrow.Author.Tests.{ltb-false, eqb-false}
use lib.Dec.{eqb, ltb}
use Rattle.layout.specs.Layout.{pages}
use Rattle.layout.specs.Set.{layout_set}
use Rattle.layout.specs.Change.{one_block_more}
use Rattle.table.specs.Table.{node_at, counts_of}
use Rattle.sizes.specs.Level.{level_for}
use Rattle.rules.specs.Call.{Call, grant_level, grant_pages, release, grow, tenant_of}
use Rattle.rules.specs.Step.{Check, check, first, validity, counts_but, repeats, block_checks, grant_holdings, holdings, checks}
use Rattle.rules.specs.Step.{granted, repeated, block_for, accepted, unless, step}
use Rattle.rules.specs.Demand.{Asks, by_level, by_pages, releases, grows, Unchanged}
pub use Rattle.rules.proofs.Ways.{Granted, Repeated, Released, Grown, Case, by_grant, by_repetition, by_release, by_growth, by_refusal}
use Rattle.rules.proofs.Checks.{Sound, first_of_sound, Numbered, validity_numbered, not_applied, rest_zero, valid_tenant, valid_size}
use Rattle.rules.proofs.Checks.{asked_in_height, grown_in_height}
use Rattle.std.proofs.Math.Nat.{pos_of_ne-zero}
use Rattle.rules.proofs.Repeats.{repeats_holds}

pub repeated_unchanged : {h : ℕ} {T : List ℕ} {c : Call} {l : ℕ} → Repeated h T c l → Unchanged (tenant_of c) T (step h T c)
repeated_unchanged r = rw r.outcome (record { answer = refl; node = refl; moves = refl; table = refl })

pub both_zero : (xs ys : List Check) → Numbered xs → first (xs ++ ys) ≡ 0 → (first xs ≡ 0) × (first ys ≡ 0)
both_zero [] ys n e = (refl, e)
both_zero (c ∷ xs) ys n e = go c.applies e (both_zero xs ys n.1)
  where
    go : (b : Bool) → cond b c.number (first (xs ++ ys)) ≡ 0 → (first (xs ++ ys) ≡ 0 → (first xs ≡ 0) × (first ys ≡ 0))
        → (cond b c.number (first xs) ≡ 0) × (first ys ≡ 0)
    go true z rest = absurd (omega (arith, n.0))
    go false z rest = rest z

module _ (h : ℕ) (T : List ℕ) (s : Sound h T) where
  -- what checks 8, 9 and 10 have shown, each where none follows or 10 does
  holds_nothing : (t : ℕ) (cs : List Check) → first (check 8 (ltb 0 (node_at T t)) ∷ cs) ≡ 0 → node_at T t ≡ 0
  holds_nothing t cs e = omega (arith, ltb-false 0 (node_at T t) (not_applied 8 (ltb 0 (node_at T t)) cs (omega arith) e))

  holds_one : (t : ℕ) (cs : List Check) → first (check 9 (eqb (node_at T t) 0) ∷ cs) ≡ 0 → 0 < node_at T t
  holds_one t cs e = pos_of_ne-zero (eqb-false (node_at T t) 0 (not_applied 9 (eqb (node_at T t) 0) cs (omega arith) e))

  pages_fit : (c : Check) (held l : ℕ) → 0 < c.number → first (c ∷ check 10 (ltb (2 ^ h) (held + 2 ^ l)) ∷ []) ≡ 0 → held + 2 ^ l ≤ 2 ^ h
  pages_fit c held l numbered e =
      let r = rest_zero c.number c.applies (check 10 (ltb (2 ^ h) (held + 2 ^ l)) ∷ []) numbered e in
      ltb-false (2 ^ h) (held + 2 ^ l) (not_applied 10 (ltb (2 ^ h) (held + 2 ^ l)) [] (omega arith) r)

  grant_case : (c : Call) (l : ℕ) → Asks h c l → first (validity h c) ≡ 0 → first (grant_holdings h T (tenant_of c) l) ≡ 0
      → step h T c ≡ block_for h T (tenant_of c) l → Case h T c
  grant_case c l a v = go (repeats h T t l) refl
    where
      t : ℕ
      t = tenant_of c

      go : (b : Bool) → repeats h T t l ≡ b → first (cond b [] (block_checks h T t l)) ≡ 0
          → step h T c ≡ cond b (repeated T (node_at T t)) (granted h T (layout_set h (one_block_more (counts_of h T) l)) t l) → Case h T c
      go true r e o =
          let held = repeats_holds h T t l r in
          by_repetition l (record { asks = a; holds = held.0; same = held.1; outcome = o })
      go false r e o =
          by_grant l (record {
            asks = a;
            tenant = valid_tenant h c v;
            nothing = holds_nothing t (check 10 (ltb (2 ^ h) (pages (counts_of h T) + 2 ^ l)) ∷ []) e;
            in_height = asked_in_height h c l a (valid_size h c v);
            fits = pages_fit (check 8 (ltb 0 (node_at T t))) (pages (counts_of h T)) l (omega arith) e;
            outcome = o;
          })

  accepted_case : (c : Call) → first (validity h c) ≡ 0 → first (holdings h T c) ≡ 0 → step h T c ≡ accepted h T c → Case h T c
  accepted_case (grant_level t l m) v e o = grant_case (grant_level t l m) l by_level v e o
  accepted_case (grant_pages t p m) v e o = grant_case (grant_pages t p m) (level_for h p) by_pages v e o
  accepted_case (release t m) v e o =
      by_release (record {
        asks = releases;
        tenant = valid_tenant h (release t m) v;
        holds = holds_one t [] e;
        outcome = o;
      })
  accepted_case (grow t l m) v e o =
      by_growth l (record {
        asks = grows;
        tenant = valid_tenant h (grow t l m) v;
        holds = holds_one t (check 10 (ltb (2 ^ h) (pages (counts_but h T t) + 2 ^ l)) ∷ []) e;
        in_height = grown_in_height h (grow t l m) l grows (valid_size h (grow t l m) v);
        fits = pages_fit (check 9 (eqb (node_at T t) 0)) (pages (counts_but h T t)) l (omega arith) e;
        outcome = o;
      })

  pub case : (c : Call) → Case h T c
  unfolding step
  case c = go (first (checks h T c)) refl
    where
      go : (n : ℕ) → first (checks h T c) ≡ n → Case h T c
      go zero e =
          let z = both_zero (validity h c) (holdings h T c) (validity_numbered h c) (sym (first_of_sound h T c s) ∙ e) in
          accepted_case c z.0 z.1 (ap (λ (n : ℕ). unless n T (accepted h T c)) e)
      go (suc n) e = by_refusal n (ap (λ (m : ℕ). unless m T (accepted h T c)) e)
