-- Each starred set of document 01 is legal and safe with its counts, and is the layout of them.
use mathlib.Core.Path.{◌≡◌, refl, sym, ap, ap₂, ◌∙◌, subst, fun_ext}
use mathlib.Core.Bool.{Bool, true, false, ◌&&◌, ◌||◌, false≢true, or-true}
use mathlib.Core.List.{List, [], ◌∷◌, map}
use Prim.Native.Nat.{ℕ, ◌^◌, ◌≤◌}
use borrow.Author.Tests.{eqb-true, eq-eqb, leb-true}
use lib.Dec.{eqb, leb}
use lib.ListN.{get_or}
use Rattle.tree.specs.Held.{Nodes, Within, Legal, Safe, sizes}
use Rattle.tree.specs.Block.{Block, node, block_of}
use Rattle.tree.proofs.Bridge.{SameSet, held_node, held_block}
use Rattle.tree.proofs.Count.{equal_of_both_ways}
use Rattle.tree.proofs.Coordinates.{node_of_block}
use Rattle.tree.proofs.Sets.{both_left, both_right, set_of_nodes}
use Rattle.layout.specs.Layout.{layout, among, pages}
use Rattle.layout.specs.Set.{layout_set}
use Rattle.layout.specs.Starred.{Sample, starred}
use Rattle.layout.proofs.Members.{Member, here, later, among_member, member_among}
use Rattle.layout.proofs.Within.{layout_within}
use Rattle.layout.proofs.Theorems.{layout_in_tree, layout_is_legal, layout_is_safe, layout_has_counts}

-- the list of nodes as a set
abbrev listed : List ℕ → Nodes
listed [] n = false
listed (m ∷ ms) n = eqb m n || listed ms n

-- what document 01 says of a starred case
pub record Good (s : Sample) : Type 0 where
  pub within : Within s.height (listed s.nodes)
  pub legal : Legal (listed s.nodes)
  pub safe : Safe s.height (listed s.nodes)
  pub counts : (l : ℕ) → sizes s.height (listed s.nodes) l ≡ get_or s.counts l 0
  pub layout : map (node s.height) (layout s.counts) ≡ s.nodes

member_listed : (h : ℕ) {b : Block} {bs : List Block} → Member b bs → listed (map (node h) bs) (node h b) ≡ true
member_listed h {b = b} (here {x = a} {xs = bs} e) =
    ap (λ (t : Bool). t || listed (map (node h) bs) (node h b)) (eq-eqb (node h a) (node h b) (ap (node h) (sym e)))
member_listed h {b = b} (later {x = a} {xs = bs} m) =
    ap (λ (t : Bool). eqb (node h a) (node h b) || t) (member_listed h m) ∙ or-true (eqb (node h a) (node h b))

listed_member : (h : ℕ) (bs : List Block) (n : ℕ) → listed (map (node h) bs) n ≡ true → (b : Block) × Member b bs × (node h b ≡ n)
listed_member h [] n e = absurd (false≢true e)
listed_member h (a ∷ bs) n e = go (eqb (node h a) n) refl e (listed_member h bs n)
  where
    go : (t : Bool) → eqb (node h a) n ≡ t → t || listed (map (node h) bs) n ≡ true
        → (listed (map (node h) bs) n ≡ true → (b : Block) × Member b bs × (node h b ≡ n)) → (b : Block) × Member b (a ∷ bs) × (node h b ≡ n)
    go true p q rest = (a, here refl, eqb-true (node h a) n p)
    go false p q rest = let w = rest q in (w.0, later w.1, w.2)

-- the layout's nodes, as a list and as a set
layout_listed : (h : ℕ) (cs : List ℕ) → pages cs ≤ 2 ^ h → (n : ℕ) → listed (map (node h) (layout cs)) n ≡ layout_set h cs n
layout_listed h cs fits n = equal_of_both_ways (listed (map (node h) (layout cs)) n) (layout_set h cs n) to from
  where
    S : SameSet h (layout_set h cs) (among (layout cs))
    S = set_of_nodes h (among (layout cs)) (layout_within h cs fits)

    to : listed (map (node h) (layout cs)) n ≡ true → layout_set h cs n ≡ true
    to e = let w = listed_member h (layout cs) n e in rw w.2 at (held_node h (layout_set h cs) (among (layout cs)) S w.0 (member_among w.1))

    from : layout_set h cs n ≡ true → listed (map (node h) (layout cs)) n ≡ true
    from e =
        let m = among_member (layout cs) (block_of h n) (held_block h (layout_set h cs) (among (layout cs)) S n e) in
        rw (node_of_block h n (layout_in_tree h cs n e)) at (member_listed h m)

good : (s : Sample) → map (node s.height) (layout s.counts) ≡ s.nodes → pages s.counts ≤ 2 ^ s.height → Good s
good s e fits =
    let h = s.height in
    let cs = s.counts in
    let same : layout_set h cs ≡ listed s.nodes = fun_ext (λ n. sym (layout_listed h cs fits n)) ∙ ap listed e in
    record {
      within = subst (Within h) same (layout_in_tree h cs);
      legal = subst Legal same (layout_is_legal h cs fits);
      safe = subst (Safe h) same (layout_is_safe h cs fits);
      counts = λ l. ap (λ (A : Nodes). sizes h A l) (sym same) ∙ layout_has_counts h cs fits l;
      layout = e;
    }

-- the test that antt computes for each case
abbrev same_list : List ℕ → List ℕ → Bool
same_list [] [] = true
same_list [] (y ∷ ys) = false
same_list (x ∷ xs) [] = false
same_list (x ∷ xs) (y ∷ ys) = eqb x y && same_list xs ys

abbrev passes : Sample → Bool
passes s = same_list (map (node s.height) (layout s.counts)) s.nodes && leb (pages s.counts) (2 ^ s.height)

abbrev all_pass : List Sample → Bool
all_pass [] = true
all_pass (s ∷ ss) = passes s && all_pass ss

same_list_equal : (xs ys : List ℕ) → same_list xs ys ≡ true → xs ≡ ys
same_list_equal [] [] e = refl
same_list_equal [] (y ∷ ys) e = absurd (false≢true e)
same_list_equal (x ∷ xs) [] e = absurd (false≢true e)
same_list_equal (x ∷ xs) (y ∷ ys) e =
    ap₂ ◌∷◌ (eqb-true x y (both_left (eqb x y) (same_list xs ys) e)) (same_list_equal xs ys (both_right (eqb x y) (same_list xs ys) e))

passed_good : (s : Sample) → passes s ≡ true → Good s
passed_good s e =
    let h = s.height in
    let lists = same_list (map (node h) (layout s.counts)) s.nodes in
    let fits = leb (pages s.counts) (2 ^ h) in
    good s (same_list_equal (map (node h) (layout s.counts)) s.nodes (both_left lists fits e))
    (leb-true (pages s.counts) (2 ^ h) (both_right lists fits e))

all_good : (ss : List Sample) → all_pass ss ≡ true → (s : Sample) → Member s ss → Good s
all_good (a ∷ ss) e s (here p) = subst Good (sym p) (passed_good a (both_left (passes a) (all_pass ss) e))
all_good (a ∷ ss) e s (later m) = all_good ss (both_right (passes a) (all_pass ss) e) s m
all_good [] e s x'' = elim x'' [ ]

pub starred_layouts : (s : Sample) → Member s starred → Good s
unfolding layout pages
starred_layouts s m = all_good starred refl s m
