-- What document 02, L1 and L4, promises of a grant by pages, for every height, table, line and argument.
use mathlib.Core.Path.{◌≡◌, refl, sym, ap, ◌∙◌}
use mathlib.Core.Bool.{Bool, true, false, not, cond, ◌&&◌, ◌||◌, false≢true}
use mathlib.Core.List.{List, [], ◌∷◌, ◌++◌}
use Prim.Native.Nat.{ℕ, ◌^◌, ◌≤◌}
use native.Mathlib.Omega.{arith}
use native.Mathlib.Decide.{ℕ_discrete}
use borrow.Author.Tests.{leb-true, le-leb}
use lib.Dec.{eqb, ltb, leb}
use lib.ListN.{length}
use lib.Pow.{pow_pos}
use Rattle.tree.specs.Node.{level}
use Rattle.table.specs.Table.{node_at, in_order?}
use Rattle.line.specs.Line.{waiting_in}
use Rattle.line.specs.Order.{waits, line_in_order?}
use Rattle.line.specs.Changes.{barred}
use Rattle.sizes.specs.Level.{level_for}
use Rattle.sizes.proofs.Level.{level_of_pages}
use Rattle.rules.specs.Call.{grant_pages}
use Rattle.rules.specs.Step.{Check, check, first, list_checks, pages_check, repeats}
use Rattle.rules.specs.History.{gave_block, in_table}
use Rattle.rules.specs.Demand.{by_pages}
use Rattle.rules.proofs.Checks.{Numbered, first_after_none, first_stands}
use Rattle.admission.specs.Call.{State, direct}
use Rattle.admission.specs.Step.{reserve_checks, order_check, no_room, grant_holdings, step}
use Rattle.admission.specs.Pages.{PagesPromise}
use Rattle.admission.proofs.Numbers.{direct_answer}
use Rattle.admission.proofs.Demand.{demand_2}

-- what comes after 6 does not answer 6
not_6 : (a r b w c : Bool) → ¬ (first (check 7 a ∷ cond r [] (check 8 b ∷ check 18 w ∷ check 10 c ∷ [])) ≡ 6)
not_6 true r b w c e = omega arith
not_6 false true b w c e = omega arith
not_6 false false true w c e = omega arith
not_6 false false false true c e = omega arith
not_6 false false false false true e = omega arith
not_6 false false false false false e = omega arith

-- 1 to 4 are other numbers than 6
five_not_6 : (a b k c d : Bool) → ¬ (first (check 1 a ∷ check 2 b ∷ check 2 k ∷ check 3 c ∷ check 4 d ∷ []) ≡ 6)
five_not_6 true b k c d e = omega arith
five_not_6 false true k c d e = omega arith
five_not_6 false false true c d e = omega arith
five_not_6 false false false true d e = omega arith
five_not_6 false false false false true e = omega arith
five_not_6 false false false false false e = omega arith

module _ (h : ℕ) (S : State) (t p m : ℕ) where
  -- 1 to 4
  abbrev sooner : List Check
  sooner = reserve_checks h S ++ list_checks 4 t m

  -- what is checked after 6
  later : List Check
  later = order_check h S ∷ grant_holdings h S t (level_for h p)

  sooner_numbered : Numbered sooner
  sooner_numbered = (omega arith, (omega arith, (omega arith, (omega arith, (omega arith, tt)))))

  answer_by_pages : (step h S (direct (grant_pages t p m))).answer ≡ first (sooner ++ pages_check h p ∷ later)
  unfolding later
  answer_by_pages = direct_answer h S (grant_pages t p m)

  later_not_6 : ¬ (first later ≡ 6)
  unfolding later
  later_not_6 =
      let W = waiting_in S.line in
      not_6 (not (in_order? h S.table && line_in_order? h S.table S.line)) (repeats h S.table t (level_for h p))
      (ltb 0 (node_at S.table t)) (waits t W) (barred W || no_room h S.table (level_for h p))

  module _ (passed : first sooner ≡ 0) where
    decided : (step h S (direct (grant_pages t p m))).answer ≡ first (pages_check h p ∷ later)
    decided = answer_by_pages ∙ first_after_none sooner (pages_check h p ∷ later) sooner_numbered passed

    answered_6 : 2 ^ h ≤ p → (step h S (direct (grant_pages t p m))).answer ≡ 6
    answered_6 q = rw (le-leb (2 ^ h) p q) at decided

    only_6 : (step h S (direct (grant_pages t p m))).answer ≡ 6 → 2 ^ h ≤ p
    only_6 e = go (leb (2 ^ h) p) refl
      where
        go : (b : Bool) → leb (2 ^ h) p ≡ b → 2 ^ h ≤ p
        go true q = leb-true (2 ^ h) p q
        go false q = absurd (later_not_6 (sym (rw q at decided) ∙ e))

  -- no pages are fewer than any reserve has, so 6 never applies to them
  never_6 : p ≡ 0 → ¬ ((step h S (direct (grant_pages t p m))).answer ≡ 6)
  never_6 z e = go (ℕ_discrete (first sooner) 0)
    where
      go : Dec (first sooner ≡ 0) → ⊥
      go (yes passed) = omega (arith, only_6 passed e, pow_pos h)
      go (no refused) =
          five_not_6 (ltb 12 h) (not (eqb (length S.table) 4096)) (not (eqb (length S.line) 193)) (ltb m 4) (ltb 4095 t)
          (sym (first_stands sooner (pages_check h p ∷ later) refused) ∙ sym answer_by_pages ∙ e)

  -- the node is on the level that the pages take
  on_level : (step h S (direct (grant_pages t p m))).answer ≡ 0 → level h (step h S (direct (grant_pages t p m))).node ≡ level_for h p
  on_level e = go (gave_block (in_table h S.table t) (in_table h (step h S (direct (grant_pages t p m))).state.table t)) refl
    where
      go : (b : Bool) → gave_block (in_table h S.table t) (in_table h (step h S (direct (grant_pages t p m))).state.table t) ≡ b
          → level h (step h S (direct (grant_pages t p m))).node ≡ level_for h p
      go true g = ((demand_2 h S).grant (grant_pages t p m) (level_for h p) by_pages g).placed.on_level
      go false g =
          let r = ((demand_2 h S).repetition (grant_pages t p m) (level_for h p) by_pages e (λ y. false≢true (sym g ∙ y))).0 in
          ap (level h) r.unchanged.node ∙ r.on_level

pub grant_by_pages : PagesPromise
grant_by_pages h S t p m = record {
  guarded = λ q e. rw (on_level h S t p m e) ((level_of_pages h p).with_guard q);
  unnamed = λ z q e. on_level h S t p m e ∙ (level_of_pages h p).no_size z q;
  unnamed_low = λ z q e. on_level h S t p m e ∙ (level_of_pages h p).no_size_low z q;
  unnamed_goes_in = never_6 h S t p m;
  refused = λ passed. (only_6 h S t p m passed, answered_6 h S t p m passed);
  no_level = (level_of_pages h p).above_height;
  height_0 = λ passed z q. answered_6 h S t p m passed (rw z (omega arith));
}
