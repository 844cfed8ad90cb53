-- How direct calls go behind a line: which of their checks the line adds, and that the table changes as without one.
use mathlib.Core.Path.{◌≡◌, refl, ap, ◌∙◌}
use mathlib.Core.Bool.{true}
use mathlib.Core.List.{List, ◌++◌}
use mathlib.Core.Option.{none}
use Prim.Native.Nat.{ℕ, zero, suc}
use native.Mathlib.Omega.{arith}
use borrow.Author.Tests.{eq-eqb, le-ltb}
use lib.ListN.{length}
use Rattle.line.specs.Order.{line_in_order?}
use Rattle.rules.specs.Call.{Call as Direct, release, grow, tenant_of}
use Rattle.rules.specs.Step.{Outcome as TableOutcome, first, validity, repeats}
use Rattle.rules.specs.Step.{unless as table_unless, checks as table_checks, step as table_step}
use Rattle.rules.specs.Demand.{Asks, by_level, by_pages, Releases, releases, Grows, grows}
use Rattle.rules.proofs.Checks.{Sound, validity_numbered, first_after_none, first_stands}
use Rattle.admission.specs.Call.{State, direct}
use Rattle.admission.specs.Step.{on_table, grant_holdings, grant_checks, checks, with_line, line_behind, line_after}
use Rattle.admission.specs.Step.{unless, step}

pub unless_on_table : (n : ℕ) (S : State) (o : TableOutcome) (L : List ℕ) → on_table (unless n S (with_line o none L)) ≡ table_unless n S.table o
unless_on_table zero S o L = refl
unless_on_table (suc n) S o L = refl

-- what is done with a line beside it: L afterwards, if that is the line where it is done and where it is refused
pub unless_with_line : (n : ℕ) (S : State) (o : TableOutcome) (done L : List ℕ) → (n ≡ 0 → done ≡ L) → (¬ (n ≡ 0) → S.line ≡ L)
    → unless n S (with_line o none done) ≡ with_line (table_unless n S.table o) none L
unless_with_line zero S o done L new same = ap (with_line o none) (new refl)
unless_with_line (suc n) S o done L new same = ap (λ (M : List ℕ). with_line (table_unless (suc n) S.table o) none M) (same (λ z. omega arith))

pub unless_line : (n : ℕ) (S : State) (o : TableOutcome) → unless n S (with_line o none S.line)
    ≡ with_line (table_unless n S.table o) none S.line
unless_line n S o = unless_with_line n S o S.line S.line (λ _. refl) (λ _. refl)

-- ---- releases and growths

pub release_alone : (h : ℕ) (S : State) (c : Direct) → Releases c → step h S (direct c) ≡ with_line (table_step h S.table c) none S.line
unfolding step table_step
release_alone h S c (releases {t = t} {m = m}) = unless_line (first (table_checks h S.table (release t m))) S _

pub growth_alone : (h : ℕ) (S : State) (c : Direct) (l : ℕ) → Grows c l → step h S (direct c) ≡ with_line (table_step h S.table c) none S.line
unfolding step table_step
growth_alone h S c l (grows {t = t} {l = k} {m = m}) = unless_line (first (table_checks h S.table (grow t k m))) S _

-- ---- grants of either kind

pub grant_asks : (h : ℕ) (S : State) (c : Direct) (l : ℕ) → Asks h c l → checks h S (direct c) ≡ grant_checks h S c (tenant_of c) l
grant_asks h S c l (by_level {t = t} {l = k} {m = m}) = refl
grant_asks h S c l (by_pages {t = t} {p = p} {m = m}) = refl

pub grant_line : (h : ℕ) (S : State) (c : Direct) (l : ℕ) → Asks h c l → line_after h S c
    ≡ line_behind (repeats h S.table (tenant_of c) l) S.line
grant_line h S c l (by_level {t = t} {l = k} {m = m}) = refl
grant_line h S c l (by_pages {t = t} {p = p} {m = m}) = refl

-- a state on which 1, 2 and 7 do not apply
pub record SoundState (h : ℕ) (S : State) : Type 0 where
  pub table : Sound h S.table
  pub numbers : length S.line ≡ 193
  pub line : line_in_order? h S.table S.line ≡ true

module _ (h : ℕ) (S : State) (s : SoundState h S) where
  pub first_of_grant : (c : Direct) (l : ℕ) → Asks h c l → first (checks h S (direct c)) ≡ first (validity h c ++ grant_holdings h S (tenant_of c) l)
  first_of_grant c l (by_level {t = t} {l = k} {m = m}) =
      rw (
        le-ltb 12 h s.table.height,
        eq-eqb (length S.table) 4096 s.table.entries,
        eq-eqb (length S.line) 193 s.numbers,
        s.table.in_order,
        s.line,
      )
  first_of_grant c l (by_pages {t = t} {p = p} {m = m}) =
      rw (
        le-ltb 12 h s.table.height,
        eq-eqb (length S.table) 4096 s.table.entries,
        eq-eqb (length S.line) 193 s.numbers,
        s.table.in_order,
        s.line,
      )

  pub grant_not_valid : (c : Direct) (l : ℕ) → Asks h c l → ¬ (first (validity h c) ≡ 0) → first (checks h S (direct c)) ≡ first (validity h c)
  grant_not_valid c l a v = first_of_grant c l a ∙ first_stands (validity h c) (grant_holdings h S (tenant_of c) l) v

  pub grant_valid : (c : Direct) (l : ℕ) → Asks h c l → first (validity h c) ≡ 0
      → first (checks h S (direct c)) ≡ first (grant_holdings h S (tenant_of c) l)
  grant_valid c l a v =
      first_of_grant c l a ∙ first_after_none (validity h c) (grant_holdings h S (tenant_of c) l) (validity_numbered h c) v
