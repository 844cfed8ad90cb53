-- Which number a call answers on a table in order.
use mathlib.Core.Path.{◌≡◌, refl, ◌∙◌}
use mathlib.Core.Bool.{Bool, true, false, not, cond}
use mathlib.Core.List.{List, [], ◌∷◌, ◌++◌}
use Prim.Native.Nat.{ℕ, zero, suc, ◌^◌, ◌≤◌, ◌<◌}
use native.Mathlib.Omega.{arith}
use borrow.Author.Tests.{ltb-false, leb-false, eqb-true, eq-eqb, le-ltb, not-false}
use lib.Dec.{eqb, ltb, leb}
use lib.ListN.{length}
use Rattle.table.specs.Table.{in_order?}
use Rattle.sizes.proofs.Level.{level_for_le}
use Rattle.rules.specs.Call.{Call, grant_level, grant_pages, release, grow, tenant_of, entries_of, least_entries}
use Rattle.rules.specs.Step.{Check, check, first, length_checks, list_checks, size_checks, validity, holdings, checks}
use Rattle.rules.specs.Step.{unless, accepted, step}
use Rattle.rules.specs.Demand.{Asks, by_level, by_pages, Grows, grows}
use Rattle.rules.specs.Value.{call_of}
use Rattle.rules.specs.declared.Call.{Call as Arguments}
use Rattle.rules.specs.declared.Call.TheVariants.{GrantLevel, GrantPages, Release, Grow}
use Rattle.rules.proofs.Given.{accepted_answer}

-- on a table in order of 4,096 entries, at a height up to 12, only 3 to 6 and 8 to 10 can apply
pub record Sound (h : ℕ) (T : List ℕ) : Type 0 where
  pub height : h ≤ 12
  pub entries : length T ≡ 4096
  pub in_order : in_order? h T ≡ true

pub first_of_sound : (h : ℕ) (T : List ℕ) (c : Call) → Sound h T → first (checks h T c) ≡ first (validity h c ++ holdings h T c)
first_of_sound h T (grant_level t l m) s = rw (le-ltb 12 h s.height, eq-eqb (length T) 4096 s.entries, s.in_order)
first_of_sound h T (grant_pages t p m) s = rw (le-ltb 12 h s.height, eq-eqb (length T) 4096 s.entries, s.in_order)
first_of_sound h T (release t m) s = rw (le-ltb 12 h s.height, eq-eqb (length T) 4096 s.entries, s.in_order)
first_of_sound h T (grow t l m) s = rw (le-ltb 12 h s.height, eq-eqb (length T) 4096 s.entries, s.in_order)

-- a refusal's number is not 0
abbrev pub Numbered : List Check → Type 0
Numbered [] = Unit {0}
Numbered (c ∷ cs) = (0 < c.number) × Numbered cs

pub first_after_none : (xs ys : List Check) → Numbered xs → first xs ≡ 0 → first (xs ++ ys) ≡ first ys
first_after_none [] ys n e = refl
first_after_none (c ∷ xs) ys n e = go c.applies e (first_after_none xs ys n.1)
  where
    go : (b : Bool) → cond b c.number (first xs) ≡ 0 → (first xs ≡ 0 → first (xs ++ ys) ≡ first ys)
        → cond b c.number (first (xs ++ ys)) ≡ first ys
    go true z rest = absurd (omega (arith, n.0))
    go false z rest = rest z

pub first_stands : (xs ys : List Check) → ¬ (first xs ≡ 0) → first (xs ++ ys) ≡ first xs
first_stands [] ys ne = absurd (ne refl)
first_stands (c ∷ xs) ys ne = go c.applies ne (first_stands xs ys)
  where
    go : (b : Bool) → ¬ (cond b c.number (first xs) ≡ 0) → (¬ (first xs ≡ 0) → first (xs ++ ys) ≡ first xs)
        → cond b c.number (first (xs ++ ys)) ≡ cond b c.number (first xs)
    go true z rest = refl
    go false z rest = rest z

-- 1 to 4, of a table with n entries and a call that takes k move entries or more
abbrev pub four : ℕ → ℕ → ℕ → ℕ → ℕ → List Check
four h n k t m = length_checks h n ++ list_checks k t m

pub four_numbered : (h n k t m : ℕ) → Numbered (four h n k t m)
four_numbered h n k t m = (omega arith, (omega arith, (omega arith, (omega arith, tt))))

pub validity_numbered : (h : ℕ) (c : Call) → Numbered (validity h c)
validity_numbered h (grant_level t l m) = (omega arith, (omega arith, (omega arith, tt)))
validity_numbered h (grant_pages t p m) = (omega arith, (omega arith, (omega arith, tt)))
validity_numbered h (release t m) = (omega arith, (omega arith, tt))
validity_numbered h (grow t l m) = (omega arith, (omega arith, (omega arith, tt)))

-- a call answers the number of the first check that applies, or 0
pub answer_is_first : (h : ℕ) (T : List ℕ) (c : Call) → (step h T c).answer ≡ first (checks h T c)
unfolding step
answer_is_first h T c = go (first (checks h T c))
  where
    go : (n : ℕ) → (unless n T (accepted h T c)).answer ≡ n
    go zero = accepted_answer h T c
    go (suc n) = refl

module _ (h : ℕ) (T : List ℕ) (s : Sound h T) where
  pub answer_not_valid : (c : Call) → ¬ (first (validity h c) ≡ 0) → (step h T c).answer ≡ first (validity h c)
  answer_not_valid c v = answer_is_first h T c ∙ first_of_sound h T c s ∙ first_stands (validity h c) (holdings h T c) v

  pub answer_valid : (c : Call) → first (validity h c) ≡ 0 → (step h T c).answer ≡ first (holdings h T c)
  answer_valid c v = answer_is_first h T c ∙ first_of_sound h T c s ∙ first_after_none (validity h c) (holdings h T c) (validity_numbered h c) v

-- what a valid call's arguments are
pub not_applied : (n : ℕ) (b : Bool) (cs : List Check) → 0 < n → first (check n b ∷ cs) ≡ 0 → b ≡ false
not_applied n true cs p e = absurd (omega arith)
not_applied n false cs p e = refl

pub rest_zero : (n : ℕ) (b : Bool) (cs : List Check) → 0 < n → first (check n b ∷ cs) ≡ 0 → first cs ≡ 0
rest_zero n true cs p e = absurd (omega arith)
rest_zero n false cs p e = e

pub height_passed : (h : ℕ) (cs : List Check) → first (check 1 (ltb 12 h) ∷ cs) ≡ 0 → h ≤ 12
height_passed h cs e = ltb-false 12 h (not_applied 1 (ltb 12 h) cs (omega arith) e)

pub length_passed : (T : List ℕ) (cs : List Check) → first (check 2 (not (eqb (length T) 4096)) ∷ cs) ≡ 0 → length T ≡ 4096
length_passed T cs e =
    eqb-true (length T) 4096 (not-false (eqb (length T) 4096) (not_applied 2 (not (eqb (length T) 4096)) cs (omega arith) e))

-- a valid call has passed 3, 4, and 5 or 6
pub valid_entries : (h : ℕ) (c : Call) → first (validity h c) ≡ 0 → least_entries c ≤ entries_of c
valid_entries h c e =
    let k = least_entries c in
    let m = entries_of c in
    ltb-false m k (not_applied 3 (ltb m k) (check 4 (ltb 4095 (tenant_of c)) ∷ size_checks h c) (omega arith) e)

past_entries : (h : ℕ) (c : Call) → first (validity h c) ≡ 0 → first (check 4 (ltb 4095 (tenant_of c)) ∷ size_checks h c) ≡ 0
past_entries h c e =
    rest_zero 3 (ltb (entries_of c) (least_entries c)) (check 4 (ltb 4095 (tenant_of c)) ∷ size_checks h c) (omega arith) e

pub valid_tenant : (h : ℕ) (c : Call) → first (validity h c) ≡ 0 → tenant_of c < 4096
valid_tenant h c e =
    let t = tenant_of c in
    omega (arith, ltb-false 4095 t (not_applied 4 (ltb 4095 t) (size_checks h c) (omega arith) (past_entries h c e)))

pub valid_size : (h : ℕ) (c : Call) → first (validity h c) ≡ 0 → first (size_checks h c) ≡ 0
valid_size h c e = rest_zero 4 (ltb 4095 (tenant_of c)) (size_checks h c) (omega arith) (past_entries h c e)

-- what is asked for then lies in the tree
level_in_height : (h l : ℕ) → first (check 5 (ltb h l) ∷ []) ≡ 0 → l ≤ h
level_in_height h l e = ltb-false h l (not_applied 5 (ltb h l) [] (omega arith) e)

pub asked_in_height : (h : ℕ) (c : Call) (l : ℕ) → Asks h c l → first (size_checks h c) ≡ 0 → l ≤ h
asked_in_height h c l (by_level {t = t} {l = k} {m = m}) e = level_in_height h k e
asked_in_height h c l (by_pages {t = t} {p = p} {m = m}) e =
    level_for_le h p (leb-false (2 ^ h) p (not_applied 6 (leb (2 ^ h) p) [] (omega arith) e))

pub grown_in_height : (h : ℕ) (c : Call) (l : ℕ) → Grows c l → first (size_checks h c) ≡ 0 → l ≤ h
grown_in_height h c l (grows {t = t} {l = k} {m = m}) e = level_in_height h k e

-- 3 to 6 are 3 and 4, and then what is asked for
pub validity_parts : (h : ℕ) (c : Arguments) (m : ℕ)
    → validity h (call_of c m) ≡ list_checks (least_entries (call_of c 0)) (tenant_of (call_of c 0)) m ++ size_checks h (call_of c 0)
validity_parts h (GrantLevel t l) m = refl
validity_parts h (GrantPages t p) m = refl
validity_parts h (Release t) m = refl
validity_parts h (Grow t l) m = refl
