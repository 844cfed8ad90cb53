-- The ways that a call with valid arguments can go.
use mathlib.Core.Path.{◌≡◌, refl, sym, ap, ◌∙◌}
use mathlib.Core.Bool.{Bool, true, false, cond}
use mathlib.Core.List.{List, [], ◌∷◌}
use Prim.Native.Nat.{ℕ, ◌+◌, ◌^◌, ◌≤◌, ◌<◌}
use borrow.Author.Tests.{lt-ltb, le-ltb, leb-true, leb-false, eq-eqb, ne_eqb}
use lib.Dec.{eqb, ltb, leb}
use lib.ListN.{set}
use lib.Seq.{set-get_or}
use Rattle.tree.specs.Node.{level}
use Rattle.layout.specs.Layout.{pages}
use Rattle.layout.specs.Set.{layout_set}
use Rattle.layout.specs.Change.{one_block_more}
use Rattle.table.specs.Table.{node_at, counts_of, in_order?}
use Rattle.sizes.specs.Level.{level_for}
use Rattle.survey.specs.declared.Finding.{Finding}
use Rattle.survey.proofs.Surveyed.{Surveyed}
use Rattle.layout.specs.declared.Counts.{Counts}
use Rattle.calls.specs.declared.change.Look.{Look}
use Rattle.rules.specs.Call.{Call, grant_level, grant_pages, release, grow}
use Rattle.rules.specs.Step.{check, first, counts_but, refused, granted, repeated, released, unless}
use Rattle.calls.specs.Changes.{Looked, without, others, place_on, to_holder, grant_on, release_on, grow_on, change_on}
use Rattle.rules.proofs.Repeats.{repeats_if_holder, never_repeats}

module _ (h : ℕ) (T : List ℕ) (t : ℕ) where
  -- ---- the others' counts

  pub others_of_holder : ¬ (node_at T t ≡ 0) → others h T t ≡ counts_but h T t
  unfolding without
  others_of_holder holds = rw (ne_eqb (node_at T t) 0 holds)

  module _ (nothing : node_at T t ≡ 0) where
    pub others_are_all : others h T t ≡ counts_of h T
    unfolding without
    others_are_all = rw (eq-eqb (node_at T t) 0 nothing)

    pub nothing_to_strike : set T t 0 ≡ T
    nothing_to_strike = ap (set T t) (sym nothing) ∙ set-get_or T t 0

  -- ---- a block for a newcomer, and for one that grows

  module _ (l : ℕ) where
    pub place_without_room : 2 ^ h < pages (others h T t) + 2 ^ l → refused 10 T ≡ place_on h T t l
    unfolding place_on
    place_without_room p = rw (lt-ltb (2 ^ h) (pages (others h T t) + 2 ^ l) p)

    pub place_with_room : pages (others h T t) + 2 ^ l ≤ 2 ^ h
        → granted h (set T t 0) (layout_set h (one_block_more (others h T t) l)) t l ≡ place_on h T t l
    unfolding place_on
    place_with_room p = rw (le-ltb (2 ^ h) (pages (others h T t) + 2 ^ l) p)

    pub grant_to_holder : 0 < node_at T t → to_holder h T (node_at T t) l ≡ grant_on h T t l
    unfolding to_holder grant_on
    grant_to_holder p = rw (repeats_if_holder h T t l p, lt-ltb 0 (node_at T t) p) (go (eqb (level h (node_at T t)) l))
      where
        go : (b : Bool) → cond b (repeated T (node_at T t)) (refused 8 T)
            ≡ unless (first (cond b [] (check 8 true ∷ check 10 (ltb (2 ^ h) (pages (counts_of h T) + 2 ^ l)) ∷ []))) T
            (cond b (repeated T (node_at T t)) (granted h T (layout_set h (one_block_more (counts_of h T) l)) t l))
        go true = refl
        go false = refl

    pub grant_places : node_at T t ≡ 0 → place_on h T t l ≡ grant_on h T t l
    unfolding place_on grant_on
    grant_places z = rw (others_are_all z, nothing_to_strike z, never_repeats h T t l z, z)

    pub grow_of_nobody : node_at T t ≡ 0 → refused 9 T ≡ grow_on h T t l
    unfolding grow_on
    grow_of_nobody z = rw z

    pub grow_places : ¬ (node_at T t ≡ 0) → place_on h T t l ≡ grow_on h T t l
    unfolding place_on grow_on
    grow_places p = rw (others_of_holder p, ne_eqb (node_at T t) 0 p)

  -- ---- a release

  pub release_by_nobody : node_at T t ≡ 0 → refused 9 T ≡ release_on h T t
  unfolding release_on
  release_by_nobody z = rw z

  pub release_by_holder : ¬ (node_at T t ≡ 0) → released h T (layout_set h (counts_but h T t)) t ≡ release_on h T t
  unfolding release_on
  release_by_holder p = rw (ne_eqb (node_at T t) 0 p)

-- ---- what the table decides, by the kind of call

module _ (h : ℕ) (T : List ℕ) where
  pub change_disordered : (c : Call) → in_order? h T ≡ false → refused 7 T ≡ change_on h T c
  unfolding change_on
  change_disordered c e = rw e

  module _ (e : in_order? h T ≡ true) (t : ℕ) where
    pub change_grants : (l : ℕ) → grant_on h T t l ≡ change_on h T (grant_level t l 0)
    unfolding change_on grant_on
    change_grants l = rw e

    pub change_grants_pages : (p : ℕ) → grant_on h T t (level_for h p) ≡ change_on h T (grant_pages t p 0)
    unfolding change_on grant_on
    change_grants_pages p = rw e

    pub change_releases : release_on h T t ≡ change_on h T (release t 0)
    unfolding change_on release_on
    change_releases = rw e

    pub change_grows : (l : ℕ) → grow_on h T t l ≡ change_on h T (grow t l 0)
    unfolding change_on grow_on
    change_grows l = rw e

-- what a survey shows of a table in order
pub looked : {h : ℕ} {T : List ℕ} {r : Finding} {k : Look} → Surveyed h T k.owners.now r → r.counts ≡ k.counts → r.in_order ≡ true → Looked h T k
looked found same seen = record {
  in_order = sym found.order_tested ∙ seen;
  counts = ap (λ (cs : Counts). cs.at) (sym same) ∙ found.counts seen;
  owners = found.owners seen;
}

-- ---- what a look shows of the others

module _ {h : ℕ} {T : List ℕ} {k : Look} (t : ℕ) (l : Looked h T k) where
  pub others_counted : {cs : List ℕ} → cs ≡ without h k.counts.at (node_at T t) → cs ≡ others h T t
  others_counted is = is ∙ ap (λ (xs : List ℕ). without h xs (node_at T t)) l.counts

pub room_found : (h l : ℕ) {cs ds : List ℕ} {b : Bool} → cs ≡ ds → b ≡ leb (pages cs + 2 ^ l) (2 ^ h) → b ≡ true → pages ds + 2 ^ l ≤ 2 ^ h
room_found h l same tested found = leb-true _ _ (rw same at (sym tested ∙ found))

pub no_room_found : (h l : ℕ) {cs ds : List ℕ} {b : Bool} → cs ≡ ds → b ≡ leb (pages cs + 2 ^ l) (2 ^ h) → b ≡ false → 2 ^ h < pages ds + 2 ^ l
no_room_found h l same tested found = leb-false _ _ (rw same at (sym tested ∙ found))
