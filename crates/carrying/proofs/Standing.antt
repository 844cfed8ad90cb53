-- Where the blocks lie while the movers go: who is away lies on its new node or nowhere. So a mover's new pages are free exactly if it can go.
use mathlib.Core.Path.{◌≡◌, refl, sym, ap, ◌∙◌, subst}
use mathlib.Core.Bool.{Bool, true, false, ◌||◌, cond, true≢false}
use mathlib.Core.Logic.{◌⊎◌, inl, inr}
use mathlib.Core.List.{List, map}
use Prim.Native.Nat.{ℕ, ◌<◌}
use native.Mathlib.Omega.{arith}
use native.Mathlib.Decide.{ℕ_discrete}
use borrow.Author.Tests.{eqb-true, eqb-false, ne_eqb}
use lib.Dec.{eqb}
use lib.ListN.{length}
use Rattle.tree.specs.Node.{Covers}
use Rattle.staging.specs.Graph.{Group, joined, CanGo}
use Rattle.table.specs.Table.{node_at}
use Rattle.table.specs.Paired.{Mover}
use Rattle.table.specs.declared.Move.{Move}
use Rattle.carrying.specs.Carrying.{Lying, FreePages, laid, among, lifted_out}
use Rattle.carrying.specs.Order.{waiting_of}
use Rattle.carrying.proofs.Moving.{Moving}
use Rattle.carrying.proofs.Lists.{neither, is_neither}
use Rattle.carrying.proofs.Meeting.{common_page, meet_by_page, new_apart}
use Rattle.carrying.proofs.Indices.{tenant_at, Indices, same_index, tenant_among, waits_is}

-- the others lie where they lay
pub laid_other : (L : Lying) (u n v : ℕ) → ¬ (v ≡ u) → laid L u n v ≡ L v
laid_other L u n v ne = ap (λ (b : Bool). cond b n (L v)) (ne_eqb v u ne)

-- v is a mover that is not away
pub record StillThere (ms : List Move) (A : Group) (v : ℕ) : Type 0 where
  pub index : ℕ
  pub a_mover : index < length ms
  pub tenant : tenant_at ms index ≡ v
  pub there : A index ≡ false

-- the movers of A are away: the other movers lie on their old nodes, and all other blocks that lie in the reserve on their new ones
pub record Standing (T T' : List ℕ) (ms : List Move) (A : Group) (L : Lying) : Type 0 where
  pub on_old : (j : ℕ) → j < length ms → A j ≡ false → L (tenant_at ms j) ≡ node_at T (tenant_at ms j)
  pub on_new : (v : ℕ) → 0 < L v → (L v ≡ node_at T' v) ⊎ StillThere ms A v

module _ {h t : ℕ} {T T' : List ℕ} {ms : List Move} (M : Moving h t T T' ms) where
  -- before the first move just the staged are away
  pub at_first : (ss : List ℕ) → Indices ms ss → Standing T T' ms (λ k. among k ss) (lifted_out t T (map (tenant_at ms) ss))
  at_first ss below = record {
    on_old = λ j q there.
        ap (λ (b : Bool). cond b 0 (node_at T (tenant_at ms j)))
        (is_neither (tenant_at ms j) t _ (M.listed j q).other (tenant_among M j ss q below ∙ there));
    on_new = λ v. by_test v (eqb v t || among v (map (tenant_at ms) ss)) refl;
  }
    where
      moving : (v : ℕ) → among v (map (tenant_at ms) ss) ≡ false → Mover t T T' v → StillThere ms (λ k. among k ss) v
      moving v out m =
          let i = M.all_listed v m in
          record {
            index = i.0;
            a_mover = i.1;
            tenant = i.2;
            there = sym (tenant_among M i.0 ss i.1 below) ∙ ap (λ (u : ℕ). among u (map (tenant_at ms) ss)) i.2 ∙ out;
          }

      by_test : (v : ℕ) (b : Bool) → (eqb v t || among v (map (tenant_at ms) ss)) ≡ b → 0 < cond b 0 (node_at T v)
          → (cond b 0 (node_at T v) ≡ node_at T' v) ⊎ StillThere ms (λ k. among k ss) v
      by_test v true e q = absurd (omega (arith, q))
      by_test v false e q =
          let r = neither v t (among v (map (tenant_at ms) ss)) e in
          elim (ℕ_discrete (node_at T' v) (node_at T v)) [
            | yes same ↦ inl (sym same)
            | no ne ↦ inr (moving v r.1 (record { other = r.0; had_one = q; differ = ne }))
          ]

  -- one goes
  pub one_gone : (A : Group) (L : Lying) (k : ℕ) → k < length ms → Standing T T' ms A L
      → Standing T T' ms (joined A k) (laid L (tenant_at ms k) (node_at T' (tenant_at ms k)))
  one_gone A L k k<n S = record {
    on_old = λ j q there.
        let r = neither j k (A j) there in
        laid_other L (tenant_at ms k) (node_at T' (tenant_at ms k)) (tenant_at ms j) (λ e. r.0 (same_index M j k q k<n e))
        ∙ S.on_old j q r.1;
    on_new = λ v. by_test v (eqb v (tenant_at ms k)) refl;
  }
    where
      later : (v : ℕ) → ¬ (v ≡ tenant_at ms k) → (L v ≡ node_at T' v) ⊎ StillThere ms A v → (L v ≡ node_at T' v) ⊎ StillThere ms (joined A k) v
      later v ne (inl same) = inl same
      later v ne (inr s) = inr (record {
        index = s.index;
        a_mover = s.a_mover;
        tenant = s.tenant;
        there = is_neither s.index k (A s.index) (λ e. ne (sym s.tenant ∙ ap (tenant_at ms) e)) s.there;
      })

      by_test : (v : ℕ) (b : Bool) → eqb v (tenant_at ms k) ≡ b → 0 < cond b (node_at T' (tenant_at ms k)) (L v)
          → (cond b (node_at T' (tenant_at ms k)) (L v) ≡ node_at T' v) ⊎ StillThere ms (joined A k) v
      by_test v true e q = inl (ap (node_at T') (sym (eqb-true v (tenant_at ms k) e)))
      by_test v false e q = later v (eqb-false v (tenant_at ms k) e) (S.on_new v q)

  -- a mover has a new node
  pub has_new : (k : ℕ) → k < length ms → 0 < node_at T' (tenant_at ms k)
  has_new k q = let m = M.listed k q in M.still_holds (tenant_at ms k) m.other m.had_one

  module _ (A : Group) (L : Lying) (S : Standing T T' ms A L) (k : ℕ) (k<n : k < length ms) where
    -- if its new pages are free, it can go
    pub can_go_if_free : FreePages h L (node_at T' (tenant_at ms k)) → CanGo (waiting_of h ms) A k
    unfolding waiting_of
    can_go_if_free free j q w = by_test (A j) refl
      where
        meeting : A j ≡ false → ⊥
        meeting there =
            let lies : L (tenant_at ms j) ≡ node_at T (tenant_at ms j) = S.on_old j q there in
            let c = common_page h (node_at T' (tenant_at ms k)) (node_at T (tenant_at ms j)) (sym (waits_is M k j k<n q) ∙ w) in
            free (tenant_at ms j) c.page (subst (λ (a : ℕ). 0 < a) (sym lies) (M.listed j q).had_one)
            (subst (λ (a : ℕ). Covers h a c.page) (sym lies) c.of_other) c.of_one

        by_test : (b : Bool) → A j ≡ b → b ≡ true
        by_test true e = refl
        by_test false e = absurd (meeting e)

    -- if it is still there and can go, its new pages are free
    pub free_if_can_go : A k ≡ false → CanGo (waiting_of h ms) A k → FreePages h L (node_at T' (tenant_at ms k))
    unfolding waiting_of
    free_if_can_go there can v p pos x y = by_case (S.on_new v pos)
      where
        by_case : ¬ ((L v ≡ node_at T' v) ⊎ StillThere ms A v)
        by_case (inl same) =
            let one : v ≡ tenant_at ms k =
            new_apart M v (tenant_at ms k) p (subst (λ (a : ℕ). 0 < a) same pos) (has_new k k<n) (subst (λ (a : ℕ). Covers h a p) same x) y in
            (M.listed k k<n).differ (ap (node_at T') (sym one) ∙ sym same ∙ ap L one ∙ S.on_old k k<n there)
        by_case (inr s) =
            let j = s.index in
            let lies : L v ≡ node_at T (tenant_at ms j) = ap L (sym s.tenant) ∙ S.on_old j s.a_mover s.there in
            let waits = waits_is M k j k<n s.a_mover
            ∙ meet_by_page h (node_at T' (tenant_at ms k)) (node_at T (tenant_at ms j)) p y (subst (λ (a : ℕ). Covers h a p) lies x) in
            true≢false (sym (can j s.a_mover waits) ∙ s.there)
