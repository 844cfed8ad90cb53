-- A plan of the graph can be carried out: the direct ones go in its order, then the staged are set down, then the newcomer.
use mathlib.Core.Path.{◌≡◌, refl, sym, ap, ◌∙◌, subst}
use mathlib.Core.Bool.{Bool, true, false, cond, true≢false}
use mathlib.Core.Logic.{◌⊎◌, inl, inr, ⊎_elim}
use mathlib.Core.List.{List, [], ◌∷◌, ◌++◌, map, map-append}
use Prim.Native.Nat.{ℕ, ◌<◌}
use native.Mathlib.Omega.{arith}
use borrow.Author.Tests.{eqb-true, eqb-false}
use lib.Dec.{eqb}
use lib.ListN.{length}
use Rattle.tree.specs.Node.{Covers}
use Rattle.staging.specs.Graph.{Group, joined, away, Run, nobody, next}
use Rattle.staging.proofs.Booleans.{false_if_not_true}
use Rattle.table.specs.Table.{node_at}
use Rattle.table.specs.Paired.{Mover}
use Rattle.table.specs.declared.Move.{Move}
use Rattle.carrying.specs.Carrying.{Lying, FreePages, laid, among, Once, lifted_out, LaidDown, lying_after, newcomer_in, CarriedOut}
use Rattle.carrying.specs.Carrying as Carrying
use Rattle.carrying.specs.Order.{waiting_of}
use Rattle.carrying.proofs.Moving.{Moving}
use Rattle.carrying.proofs.Lists.{neither, is_first, is_other, not_same, among_append, in_parts, away_is, to_map, from_map}
use Rattle.carrying.proofs.Lists.{once_append, once_second, once_apart, once_map}
use Rattle.carrying.proofs.Runs.{run_below, run_there, run_once}
use Rattle.carrying.proofs.Meeting.{new_apart}
use Rattle.carrying.proofs.Indices.{tenant_at, plan_by, Indices, same_index}
use Rattle.carrying.proofs.Standing.{laid_other, StillThere, Standing, at_first, one_gone, has_new, free_if_can_go}

-- ---- laying down, in two parts

laid_append : (h : ℕ) (T' : List ℕ) (L : Lying) (us vs : List ℕ) → LaidDown h T' L us → LaidDown h T' (lying_after T' L us) vs
    → LaidDown h T' L (us ++ vs)
laid_append h T' _ _ vs (Carrying.nobody L) d = d
laid_append h T' _ _ vs (Carrying.next L u us free later) d =
    Carrying.next L u (us ++ vs) free (laid_append h T' (laid L u (node_at T' u)) us vs later d)

lying_append : (T' : List ℕ) (L : Lying) (us vs : List ℕ) → lying_after T' L (us ++ vs) ≡ lying_after T' (lying_after T' L us) vs
lying_append T' L [] vs = refl
lying_append T' L (u ∷ us) vs = lying_append T' (laid L u (node_at T' u)) us vs

-- whoever is not laid down lies where it lay
pub lies_as_before : (T' : List ℕ) (L : Lying) (us : List ℕ) (v : ℕ) → among v us ≡ false → lying_after T' L us v ≡ L v
lies_as_before T' L [] v e = refl
lies_as_before T' L (u ∷ us) v e =
    let r = neither v u (among v us) e in
    lies_as_before T' (laid L u (node_at T' u)) us v r.1 ∙ laid_other L u (node_at T' u) v r.0

-- ---- when all blocks that lie in the reserve lie on their new nodes

abbrev Settled : List ℕ → Lying → Type 0
Settled T' L = (v : ℕ) → 0 < L v → L v ≡ node_at T' v

settled_laid : (T' : List ℕ) (L : Lying) (u : ℕ) → Settled T' L → Settled T' (laid L u (node_at T' u))
settled_laid T' L u settled v = by_test (eqb v u) refl
  where
    by_test : (b : Bool) → eqb v u ≡ b → 0 < cond b (node_at T' u) (L v) → cond b (node_at T' u) (L v) ≡ node_at T' v
    by_test true e q = ap (node_at T') (sym (eqb-true v u e))
    by_test false e q = settled v q

settled_after : (T' : List ℕ) (L : Lying) (us : List ℕ) → Settled T' L → Settled T' (lying_after T' L us)
settled_after T' L [] settled = settled
settled_after T' L (u ∷ us) settled = settled_after T' (laid L u (node_at T' u)) us (settled_laid T' L u settled)

module _ {h t : ℕ} {T T' : List ℕ} {ms : List Move} (M : Moving h t T T' ms) where
  -- movers who go one by one are laid down one by one, on free pages
  laid_of_run : (A : Group) (L : Lying) (ks : List ℕ) → Standing T T' ms A L → Run (waiting_of h ms) A ks → LaidDown h T' L (map (tenant_at ms) ks)
  unfolding waiting_of
  laid_of_run _ L _ S (nobody A) = Carrying.nobody L
  laid_of_run _ L _ S (next A k ks q there can rest) =
      Carrying.next L (tenant_at ms k) (map (tenant_at ms) ks) (free_if_can_go M A L S k q there can)
      (laid_of_run (joined A k) (laid L (tenant_at ms k) (node_at T' (tenant_at ms k))) ks (one_gone M A L k q S) rest)

  -- when they have gone
  all_gone : (A : Group) (L : Lying) (ks : List ℕ) → Standing T T' ms A L → Indices ms ks
      → Standing T T' ms (away A ks) (lying_after T' L (map (tenant_at ms) ks))
  all_gone A L [] S below = S
  all_gone A L (k ∷ ks) S below =
      all_gone (joined A k) (laid L (tenant_at ms k) (node_at T' (tenant_at ms k))) ks (one_gone M A L k (below k (is_first k (among k ks))) S)
      (λ j e. below j (is_other j k (among j ks) e))

  -- a new node is free if all others lie on theirs and its tenant nowhere
  free_if_settled : (L : Lying) → Settled T' L → (u : ℕ) → L u ≡ 0 → 0 < node_at T' u → FreePages h L (node_at T' u)
  free_if_settled L settled u out pos v p lies x y =
      let new : L v ≡ node_at T' v = settled v lies in
      let one : v ≡ u = new_apart M v u p (subst (λ (a : ℕ). 0 < a) new lies) pos (subst (λ (a : ℕ). Covers h a p) new x) y in
      omega (arith, lies, ap L one, out)

  -- then those who lie nowhere are laid down in any order
  set_down : (L : Lying) → Settled T' L → (us : List ℕ) → Once us → ((u : ℕ) → among u us ≡ true → (L u ≡ 0) × (0 < node_at T' u))
      → LaidDown h T' L us
  set_down L settled [] once out = Carrying.nobody L
  set_down L settled (u ∷ us) once out =
      let now = out u (is_first u (among u us)) in
      Carrying.next L u us (free_if_settled L settled u now.0 now.1)
      (set_down (laid L u (node_at T' u)) (settled_laid T' L u settled) us once.1
      (λ v e.
      let r = out v (is_other v u (among v us) e) in
      (laid_other L u (node_at T' u) v (not_same us v u e once.0) ∙ r.0, r.1)))

  -- ---- the plan by indices

  module _ (ks ss : List ℕ) (ss_below : Indices ms ss) (ss_once : Once ss) (goes : Run (waiting_of h ms) (λ k. among k ss) ks)
      (everybody : (k : ℕ) → k < length ms → away (λ j. among j ss) ks k ≡ true) where
    ks_below : Indices ms ks
    unfolding waiting_of
    ks_below = run_below (waiting_of h ms) (λ k. among k ss) ks goes

    both_below : Indices ms (ks ++ ss)
    both_below k e = ⊎_elim (ks_below k) (ss_below k) (in_parts k ks ss e)

    abbrev direct_ones : List ℕ
    direct_ones = map (tenant_at ms) ks

    abbrev staged_ones : List ℕ
    staged_ones = map (tenant_at ms) ss

    are_movers : (u : ℕ) → among u (direct_ones ++ staged_ones) ≡ true → Mover t T T' u
    are_movers u e =
        let r = from_map (tenant_at ms) u (ks ++ ss) (subst (λ (us : List ℕ). among u us ≡ true) (sym (map-append (tenant_at ms) ks ss)) e) in
        subst (Mover t T T') r.2 (M.listed r.0 (both_below r.0 r.1))

    all_movers : (u : ℕ) → Mover t T T' u → among u (direct_ones ++ staged_ones) ≡ true
    all_movers u m =
        let i = M.all_listed u m in
        let listed : among i.0 (ks ++ ss) ≡ true =
        among_append i.0 ks ss ∙ sym (away_is (λ j. among j ss) ks i.0) ∙ everybody i.0 i.1 in
        subst (λ (us : List ℕ). among u us ≡ true) (map-append (tenant_at ms) ks ss)
        (subst (λ (v : ℕ). among v (map (tenant_at ms) (ks ++ ss)) ≡ true) i.2 (to_map (tenant_at ms) i.0 (ks ++ ss) listed))

    each_once : Once (direct_ones ++ staged_ones)
    each_once =
        let A : Group = λ k. among k ss in
        let both : Once (ks ++ ss) = once_append ks ss (run_once (waiting_of h ms) A ks goes) ss_once (run_there (waiting_of h ms) A ks goes) in
        subst Once (map-append (tenant_at ms) ks ss)
        (once_map (tenant_at ms) (ks ++ ss) (λ k e j f. same_index M j k (both_below j f) (both_below k e)) both)

    -- before the first move, and when the direct ones have gone
    abbrev lifted : Lying
    lifted = lifted_out t T staged_ones

    abbrev gone : Lying
    gone = lying_after T' lifted direct_ones

    settled : Settled T' gone
    settled v q = by_case ((all_gone (λ k. among k ss) lifted ks (at_first M ss ss_below) ks_below).on_new v q)
      where
        by_case : (gone v ≡ node_at T' v) ⊎ StillThere ms (away (λ k. among k ss) ks) v → gone v ≡ node_at T' v
        by_case (inl same) = same
        by_case (inr s) = absurd (true≢false (sym (everybody s.index s.a_mover) ∙ s.there))

    staged_out : (u : ℕ) → among u staged_ones ≡ true → (gone u ≡ 0) × (0 < node_at T' u)
    staged_out u e =
        let not_going : among u direct_ones ≡ false =
        false_if_not_true (among u direct_ones) (λ f. true≢false (sym e ∙ once_apart direct_ones staged_ones each_once u f)) in
        let r = from_map (tenant_at ms) u ss e in (
          lies_as_before T' lifted direct_ones u not_going ∙ ap (λ (b : Bool). cond b 0 (node_at T u)) (is_other u t (among u staged_ones) e),
          subst (λ (v : ℕ). 0 < node_at T' v) r.2 (has_new M r.0 (ss_below r.0 r.1)),
        )

    newcomer_laid : LaidDown h T' (lying_after T' lifted (direct_ones ++ staged_ones)) (newcomer_in T' t)
    newcomer_laid = by_test (eqb (node_at T' t) 0) refl
      where
        last : Lying
        last = lying_after T' lifted (direct_ones ++ staged_ones)

        nowhere : last t ≡ 0
        nowhere =
            lies_as_before T' lifted (direct_ones ++ staged_ones) t
            (false_if_not_true (among t (direct_ones ++ staged_ones)) (λ e. (are_movers t e).other refl))
            ∙ ap (λ (b : Bool). cond b 0 (node_at T t)) (is_first t (among t staged_ones))

        by_test : (b : Bool) → eqb (node_at T' t) 0 ≡ b → LaidDown h T' last (cond b [] (t ∷ []))
        by_test true e = Carrying.nobody last
        by_test false e =
            Carrying.next last t []
            (free_if_settled last
            (subst (Settled T') (sym (lying_append T' lifted direct_ones staged_ones)) (settled_after T' gone staged_ones settled))
            t nowhere (omega (arith, eqb-false (node_at T' t) 0 e)))
            (Carrying.nobody (laid last t (node_at T' t)))

    pub carried_out : CarriedOut h t T T' (plan_by ms ks ss)
    carried_out = record {
      movers = λ u. (are_movers u, all_movers u);
      once = each_once;
      works = laid_append h T' lifted (direct_ones ++ staged_ones) (newcomer_in T' t)
          (laid_append h T' lifted direct_ones staged_ones (laid_of_run (λ k. among k ss) lifted ks (at_first M ss ss_below) goes)
          (set_down gone settled staged_ones (once_second direct_ones staged_ones each_once) staged_out))
          newcomer_laid;
    }
