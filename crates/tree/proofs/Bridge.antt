-- Legal and safe sets of nodes, and of blocks, are the same sets.
use mathlib.Core.Path.{◌≡◌, sym, ap, ◌∙◌}
use mathlib.Core.Bool.{true}
use mathlib.Core.Logic.{◌⊎◌, inl, inr}
use Prim.Native.Nat.{ℕ, ◌^◌, ◌≤◌}
use native.Mathlib.Omega.{arith}
use Rattle.tree.specs.Node.{InTree, Under, level, LeftOf}
use Rattle.tree.specs.Held.{Nodes, Held, Within, Legal, Free, Dense, Tail, Meager, Safe}
use Rattle.tree.specs.Block.{Block, first, past, node, block_of, Blocks, BWithin, Meet, Inside, BLegal, BFree, BDense, BTail, BMeager, BSafe}
use Rattle.tree.proofs.Align.{first_lt_past, inside_meet, meet_self, meet_sym, meet_cases}
use Rattle.tree.proofs.Coordinates.{node_level, node_in_tree, node_of_block, block_of_node, block_in_tree}
use Rattle.tree.proofs.Under.{under_inside, inside_under, pages_left_of}

-- A and B are one set, by number and by block
pub record SameSet (h : ℕ) (A : Nodes) (B : Blocks) : Type 0 where
  pub nodes_within : Within h A
  pub blocks_within : BWithin h B
  pub same : (b : Block) → past b ≤ 2 ^ h → A (node h b) ≡ B b

under_blocks : (h u v : ℕ) → InTree h u → InTree h v → Under u v → Inside (block_of h u) (block_of h v)
under_blocks h u v tu tv s =
    under_inside h (block_of h u) (block_of h v) (block_in_tree h u tu) (block_in_tree h v tv)
    (rw (node_of_block h u tu, node_of_block h v tv) s)

left_blocks : (h u v : ℕ) → LeftOf h u v → past (block_of h u) ≤ first (block_of h v)
left_blocks h u v l = omega (arith, l.pages_first)

node_injective : (h : ℕ) (a b : Block) → past a ≤ 2 ^ h → past b ≤ 2 ^ h → node h a ≡ node h b → a ≡ b
node_injective h a b pa pb e = sym (block_of_node h a pa) ∙ ap (block_of h) e ∙ block_of_node h b pb

module _ (h : ℕ) (A : Nodes) (B : Blocks) (S : SameSet h A B) where
  pub held_node : (b : Block) → B b ≡ true → A (node h b) ≡ true
  held_node b p = S.same b (S.blocks_within b p) ∙ p

  pub held_block : (n : ℕ) → A n ≡ true → B (block_of h n) ≡ true
  held_block n p =
      let t = S.nodes_within n p in
      sym (S.same (block_of h n) (block_in_tree h n t)) ∙ ap A (node_of_block h n t) ∙ p

  pub legal_blocks : Legal A → BLegal B
  legal_blocks L a b p q m = go (meet_cases a b m)
    where
      not_inside : (x y : Block) → B x ≡ true → B y ≡ true → ¬ Inside x y
      not_inside x y s t i =
          L (node h x) (node h y) (held_node x s) (held_node y t) (inside_under h x y (S.blocks_within x s) (S.blocks_within y t) i)

      go : (a ≡ b) ⊎ (Inside a b ⊎ Inside b a) → a ≡ b
      go (inl e) = e
      go (inr (inl s)) = absurd (not_inside a b p q s)
      go (inr (inr s)) = absurd (not_inside b a q p s)

  pub legal_nodes : BLegal B → Legal A
  legal_nodes L u v p q s =
      let i = under_blocks h u v (S.nodes_within u p) (S.nodes_within v q) s in
      let e = L (block_of h u) (block_of h v) (held_block u p) (held_block v q) (inside_meet (block_of h u) (block_of h v) i) in
      let l : level h u ≡ level h v = ap (λ (b : Block). b.level) e in
      omega (arith, i.lower)

  free_blocks : (b : Block) → past b ≤ 2 ^ h → Free A (node h b) → BFree B b
  free_blocks b pb F c q m = go (meet_cases c b m)
    where
      pc : past c ≤ 2 ^ h
      pc = S.blocks_within c q

      go : ¬ ((c ≡ b) ⊎ (Inside c b ⊎ Inside b c))
      go (inl e) = F (node h c) (held_node c q) (inl (ap (node h) e))
      go (inr (inl s)) = F (node h c) (held_node c q) (inr (inr (inside_under h c b pc pb s)))
      go (inr (inr s)) = F (node h c) (held_node c q) (inr (inl (inside_under h b c pb pc s)))

  free_nodes : (n : ℕ) → InTree h n → BFree B (block_of h n) → Free A n
  free_nodes n t F m q = go
    where
      tm : InTree h m
      tm = S.nodes_within m q

      meets : ¬ Meet (block_of h m) (block_of h n)
      meets = F (block_of h m) (held_block m q)

      go : ¬ ((m ≡ n) ⊎ (Under n m ⊎ Under m n))
      go (inl e) = meets (rw e (meet_self (block_of h n)))
      go (inr (inl u)) = meets (meet_sym (block_of h n) (block_of h m) (inside_meet (block_of h n) (block_of h m) (under_blocks h n m t tm u)))
      go (inr (inr u)) = meets (inside_meet (block_of h m) (block_of h n) (under_blocks h m n tm t u))

  -- a block left of a held one lies in the tree
  left_past : (x u : Block) → B u ≡ true → past x ≤ first u → past x ≤ 2 ^ h
  left_past x u q l = omega (arith, first_lt_past u, S.blocks_within u q)

  dense_blocks : Dense h A → BDense B
  dense_blocks D u v F q e l =
      let pu = left_past u v q l in
      let pv = S.blocks_within v q in
      D (node h u) (node h v) (node_in_tree h u pu) (free_nodes (node h u) (node_in_tree h u pu) (rw (block_of_node h u pu) F)) (held_node v q)
      (node_level h u pu ∙ e ∙ sym (node_level h v pv)) (pages_left_of h u v pu pv l)

  dense_nodes : BDense B → Dense h A
  dense_nodes D u v t F q e l =
      D (block_of h u) (block_of h v) (free_blocks (block_of h u) (block_in_tree h u t) (rw (node_of_block h u t) F)) (held_block v q) e
      (left_blocks h u v l)

  tail_blocks : (u t : ℕ) → Tail h A u t → BTail B (block_of h u) (block_of h t)
  tail_blocks u t T = record { held = held_block t T.held; lower = T.lower; right = left_blocks h u t T.right }

  tail_nodes : (u t : Block) → B u ≡ true → BTail B u t → Tail h A (node h u) (node h t)
  tail_nodes u t p T =
      let pu = S.blocks_within u p in
      let pt = S.blocks_within t T.held in
      record {
        held = held_node t T.held;
        lower = rw (node_level h u pu, node_level h t pt) T.lower;
        right = pages_left_of h u t pu pt T.right;
      }

  meager_blocks : (l x : ℕ) → Meager h A l x → BMeager B (block_of h x)
  meager_blocks l x M =
      record {
        not_held = λ p. M.not_held (rw (node_of_block h x M.in_tree) at (held_node (block_of h x) p));
        one = block_of h M.one;
        one_held = held_block M.one M.one_held;
        one_below = under_blocks h M.one x (S.nodes_within M.one M.one_held) M.in_tree M.one_below;
        only = λ b p s. sym (block_of_node h b (S.blocks_within b p)) ∙ ap (block_of h) (M.only (node h b) (held_node b p) (below b p s));
      }
    where
      below : (b : Block) → B b ≡ true → Inside b (block_of h x) → Under (node h b) x
      below b p s =
          rw (node_of_block h x M.in_tree) at
          (inside_under h b (block_of h x) (S.blocks_within b p) (block_in_tree h x M.in_tree) s)

  meager_nodes : (l : ℕ) (x : Block) → past x ≤ 2 ^ h → x.level ≡ l → BMeager B x → Meager h A l (node h x)
  meager_nodes l x px e M =
      record {
        in_tree = node_in_tree h x px;
        of_level = node_level h x px ∙ e;
        not_held = λ p. M.not_held (sym (S.same x px) ∙ p);
        one = node h M.one;
        one_held = held_node M.one M.one_held;
        one_below = inside_under h M.one x (S.blocks_within M.one M.one_held) px M.one_below;
        only = λ m p u.
            sym (node_of_block h m (S.nodes_within m p)) ∙ ap (node h) (M.only (block_of h m) (held_block m p) (below m p u));
      }
    where
      below : (m : ℕ) → Held A m → Under m (node h x) → Inside (block_of h m) x
      below m p u =
          rw (block_of_node h x px) at (under_blocks h m (node h x) (S.nodes_within m p) (node_in_tree h x px) u)

  pub safe_blocks : Safe h A → BSafe B
  safe_blocks s =
      record {
        dense = dense_blocks s.dense;
        one_tail = λ u t t' p T T'.
            node_injective h t t' (S.blocks_within t T.held) (S.blocks_within t' T'.held)
            (s.one_tail (node h u) (node h t) (node h t') (held_node u p) (tail_nodes u t p T) (tail_nodes u t' p T'));
        no_meager = λ u x p e M l.
            let px = left_past x u p l in
            let pu = S.blocks_within u p in
            s.no_meager (node h u) (node h x) (held_node u p) (meager_nodes (level h (node h u)) x px (e ∙ sym (node_level h u pu)) M)
            (pages_left_of h x u px pu l);
      }

  pub safe_nodes : BSafe B → Safe h A
  safe_nodes s =
      record {
        dense = dense_nodes s.dense;
        one_tail = λ u t t' p T T'.
            sym (node_of_block h t (S.nodes_within t T.held))
            ∙ ap (node h) (s.one_tail (block_of h u) (block_of h t) (block_of h t') (held_block u p) (tail_blocks u t T) (tail_blocks u t' T'))
            ∙ node_of_block h t' (S.nodes_within t' T'.held);
        no_meager = λ u x p M l.
            s.no_meager (block_of h u) (block_of h x) (held_block u p) M.of_level (meager_blocks (level h u) x M) (left_blocks h x u l);
      }
