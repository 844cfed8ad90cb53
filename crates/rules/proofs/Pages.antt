-- What document 02, L1 and L4, promises of a grant by pages, for every height, table and argument.
use mathlib.Core.Path.{◌≡◌, refl, sym, ap, ◌∙◌}
use mathlib.Core.Bool.{Bool, true, false, not, cond, false≢true}
use mathlib.Core.List.{List, [], ◌∷◌, ◌++◌}
use Prim.Native.Nat.{ℕ, ◌+◌, ◌^◌, ◌≤◌}
use native.Mathlib.Omega.{arith}
use native.Mathlib.Decide.{ℕ_discrete}
use borrow.Author.Tests.{leb-true, le-leb}
use lib.Dec.{eqb, ltb, leb}
use lib.ListN.{length}
use lib.Pow.{pow_pos}
use Rattle.tree.specs.Node.{level}
use Rattle.layout.specs.Layout.{pages}
use Rattle.table.specs.Table.{node_at, counts_of, in_order?}
use Rattle.sizes.specs.Level.{level_for}
use Rattle.sizes.proofs.Level.{level_of_pages}
use Rattle.rules.specs.Call.{grant_pages}
use Rattle.rules.specs.Step.{Check, check, first, pages_check, repeats, grant_holdings, step}
use Rattle.rules.specs.History.{gave_block, in_table}
use Rattle.rules.specs.Demand.{by_pages}
use Rattle.rules.specs.Pages.{PagesPromise}
use Rattle.rules.proofs.Checks.{four, four_numbered, first_after_none, first_stands, answer_is_first}
use Rattle.rules.proofs.Accepted.{demand_2}

-- what comes after 6 does not answer 6
not_6 : (a r b c : Bool) → ¬ (first (check 7 a ∷ cond r [] (check 8 b ∷ check 10 c ∷ [])) ≡ 6)
not_6 true r b c e = omega arith
not_6 false true b c e = omega arith
not_6 false false true c e = omega arith
not_6 false false false true e = omega arith
not_6 false false false false e = omega arith

-- what is checked after 6
later : ℕ → List ℕ → ℕ → ℕ → List Check
later h T t p = check 7 (not (in_order? h T)) ∷ grant_holdings h T t (level_for h p)

answer_by_pages : (h : ℕ) (T : List ℕ) (t p m : ℕ)
    → (step h T (grant_pages t p m)).answer ≡ first (four h (length T) 4 t m ++ pages_check h p ∷ later h T t p)
unfolding later
answer_by_pages h T t p m = answer_is_first h T (grant_pages t p m)

module _ (h : ℕ) (T : List ℕ) (t p m : ℕ) (passed : first (four h (length T) 4 t m) ≡ 0) where
  decided : (step h T (grant_pages t p m)).answer ≡ first (pages_check h p ∷ later h T t p)
  decided =
      answer_by_pages h T t p m
      ∙ first_after_none (four h (length T) 4 t m) (pages_check h p ∷ later h T t p) (four_numbered h (length T) 4 t m) passed

  later_not_6 : ¬ (first (later h T t p) ≡ 6)
  unfolding later
  later_not_6 =
      not_6 (not (in_order? h T)) (repeats h T t (level_for h p)) (ltb 0 (node_at T t)) (ltb (2 ^ h) (pages (counts_of h T) + 2 ^ level_for h p))

  answered_6 : 2 ^ h ≤ p → (step h T (grant_pages t p m)).answer ≡ 6
  answered_6 q = rw (le-leb (2 ^ h) p q) at decided

  only_6 : (step h T (grant_pages t p m)).answer ≡ 6 → 2 ^ h ≤ p
  only_6 e = go (leb (2 ^ h) p) refl
    where
      go : (b : Bool) → leb (2 ^ h) p ≡ b → 2 ^ h ≤ p
      go true q = leb-true (2 ^ h) p q
      go false q = absurd (later_not_6 (sym (rw q at decided) ∙ e))

-- the node is on the level that the pages take
on_level : (h : ℕ) (T : List ℕ) (t p m : ℕ) → (step h T (grant_pages t p m)).answer ≡ 0
    → level h (step h T (grant_pages t p m)).node ≡ level_for h p
on_level h T t p m e = go (gave_block (in_table h T t) (in_table h (step h T (grant_pages t p m)).table t)) refl
  where
    go : (b : Bool) → gave_block (in_table h T t) (in_table h (step h T (grant_pages t p m)).table t) ≡ b
        → level h (step h T (grant_pages t p m)).node ≡ level_for h p
    go true g = ((demand_2 h T (grant_pages t p m)).grant (level_for h p) by_pages g).placed.on_level
    go false g =
        let r = (demand_2 h T (grant_pages t p m)).repetition (level_for h p) by_pages e (λ y. false≢true (sym g ∙ y)) in
        ap (level h) r.unchanged.node ∙ r.on_level

-- 1 to 4 are other numbers than 6
four_not_6 : (a b c d : Bool) → ¬ (first (check 1 a ∷ check 2 b ∷ check 3 c ∷ check 4 d ∷ []) ≡ 6)
four_not_6 true b c d e = omega arith
four_not_6 false true c d e = omega arith
four_not_6 false false true d e = omega arith
four_not_6 false false false true e = omega arith
four_not_6 false false false false e = omega arith

-- no pages are fewer than any reserve has, so 6 never applies to them
never_6 : (h : ℕ) (T : List ℕ) (t p m : ℕ) → p ≡ 0 → ¬ ((step h T (grant_pages t p m)).answer ≡ 6)
never_6 h T t p m z e = go (ℕ_discrete (first (four h (length T) 4 t m)) 0)
  where
    go : Dec (first (four h (length T) 4 t m) ≡ 0) → ⊥
    go (yes passed) = omega (arith, only_6 h T t p m passed e, pow_pos h)
    go (no refused) =
        let stands = first_stands (four h (length T) 4 t m) (pages_check h p ∷ later h T t p) refused in
        four_not_6 (ltb 12 h) (not (eqb (length T) 4096)) (ltb m 4) (ltb 4095 t) (sym stands ∙ sym (answer_by_pages h T t p m) ∙ e)

pub grant_by_pages : PagesPromise
grant_by_pages h T t p m = record {
  guarded = λ q e. rw (on_level h T t p m e) ((level_of_pages h p).with_guard q);
  unnamed = λ z q e. on_level h T t p m e ∙ (level_of_pages h p).no_size z q;
  unnamed_low = λ z q e. on_level h T t p m e ∙ (level_of_pages h p).no_size_low z q;
  unnamed_goes_in = λ z. never_6 h T t p m z;
  refused = λ passed. (only_6 h T t p m passed, answered_6 h T t p m passed);
  no_level = (level_of_pages h p).above_height;
  height_0 = λ passed z q. answered_6 h T t p m passed (rw z (omega arith));
}
