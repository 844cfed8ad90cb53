-- A plan that is carried out brings every block to where the table afterwards has it.
use mathlib.Core.Path.{◌≡◌, refl, sym, ap, ◌∙◌}
use mathlib.Core.Bool.{Bool, true, false, ◌||◌, cond, true≢false}
use mathlib.Core.Logic.{◌⊎◌, inl, inr}
use mathlib.Core.List.{List, [], ◌∷◌, ◌++◌}
use Prim.Native.Nat.{ℕ}
use native.Mathlib.Omega.{arith}
use native.Mathlib.Decide.{ℕ_discrete}
use borrow.Author.Tests.{eq-eqb, eqb-true}
use lib.Dec.{eqb}
use Rattle.table.specs.Table.{node_at}
use Rattle.table.specs.declared.Move.{Move}
use Rattle.carrying.specs.Carrying.{Lying, laid, among, lifted_out, lying_after, Plan, newcomer_in, everybody_in, CarriedOut}
use Rattle.carrying.proofs.Moving.{Moving}
use Rattle.carrying.proofs.Lists.{one_or_other, is_first, is_neither, not_in_parts}
use Rattle.carrying.proofs.ToPages.{lies_as_before}

-- whoever is laid down lies on its new node
lies_on_new : (T' : List ℕ) (L : Lying) (us : List ℕ) (v : ℕ) → among v us ≡ true → lying_after T' L us v ≡ node_at T' v
lies_on_new T' L [] v e = absurd (true≢false (sym e))
lies_on_new T' L (u ∷ us) v e = by_test (among v us) refl (one_or_other v u (among v us) e) (lies_on_new T' (laid L u (node_at T' u)) us v)
  where
    here : v ≡ u → laid L u (node_at T' u) v ≡ node_at T' v
    here same = ap (λ (b : Bool). cond b (node_at T' u) (L v)) (eq-eqb v u same) ∙ ap (node_at T') (sym same)

    by_test : (b : Bool) → among v us ≡ b → (v ≡ u) ⊎ (among v us ≡ true)
        → (among v us ≡ true → lying_after T' (laid L u (node_at T' u)) us v ≡ node_at T' v)
        → lying_after T' (laid L u (node_at T' u)) us v ≡ node_at T' v
    by_test true f c rest = rest f
    by_test false f (inl same) rest = lies_as_before T' (laid L u (node_at T' u)) us v f ∙ here same
    by_test false f (inr there) rest = rest there

-- t has no node afterwards if it is not named as the newcomer
nothing_if_not_named : (T' : List ℕ) (t : ℕ) → among t (newcomer_in T' t) ≡ false → node_at T' t ≡ 0
nothing_if_not_named T' t = by_test (eqb (node_at T' t) 0) refl
  where
    by_test : (b : Bool) → eqb (node_at T' t) 0 ≡ b → among t (cond b [] (t ∷ [])) ≡ false → node_at T' t ≡ 0
    by_test true e f = eqb-true (node_at T' t) 0 e
    by_test false e f = absurd (true≢false (sym (is_first t false) ∙ f))

module _ {h t : ℕ} {T T' : List ℕ} {ms : List Move} (M : Moving h t T T' ms) (p : Plan) (C : CarriedOut h t T T' p) where
  -- whoever does not move has its node, or nothing, as before
  as_before : (u : ℕ) → ¬ (u ≡ t) → among u (p.direct ++ p.staged) ≡ false → node_at T u ≡ node_at T' u
  as_before u ne out =
      elim (ℕ_discrete (node_at T' u) (node_at T u)) [
        | yes same ↦ sym same
        | no differ ↦ elim (ℕ_discrete (node_at T u) 0) [
          | yes nothing ↦ nothing ∙ sym (M.still_nothing u ne nothing)
          | no some ↦ absurd (true≢false (sym ((C.movers u).1 (record { other = ne; had_one = omega arith; differ = differ })) ∙ out))
        ]
      ]

  pub carried_arrives : (u : ℕ) → lying_after T' (lifted_out t T p.staged) (everybody_in p T' t) u ≡ node_at T' u
  carried_arrives u = by_test (among u (everybody_in p T' t)) refl
    where
      not_laid : among u (everybody_in p T' t) ≡ false → Dec (u ≡ t) → lifted_out t T p.staged u ≡ node_at T' u
      not_laid out (yes same) =
          let named = (not_in_parts u (p.direct ++ p.staged) (newcomer_in T' t) out).1 in
          let nothing = nothing_if_not_named T' t (ap (λ (v : ℕ). among v (newcomer_in T' t)) (sym same) ∙ named) in
          ap (λ (b : Bool). cond b 0 (node_at T u)) (by_name same) ∙ sym (ap (node_at T') same ∙ nothing)
        where
          by_name : u ≡ t → (eqb u t || among u p.staged) ≡ true
          by_name e = rw (eq-eqb u t e)
      not_laid out (no ne) =
          let others = (not_in_parts u (p.direct ++ p.staged) (newcomer_in T' t) out).0 in
          let staged = (not_in_parts u p.direct p.staged others).1 in
          ap (λ (b : Bool). cond b 0 (node_at T u)) (is_neither u t (among u p.staged) ne staged) ∙ as_before u ne others

      by_test : (b : Bool) → among u (everybody_in p T' t) ≡ b → lying_after T' (lifted_out t T p.staged) (everybody_in p T' t) u ≡ node_at T' u
      by_test true e = lies_on_new T' (lifted_out t T p.staged) (everybody_in p T' t) u e
      by_test false e = lies_as_before T' (lifted_out t T p.staged) (everybody_in p T' t) u e ∙ not_laid e (ℕ_discrete u t)
