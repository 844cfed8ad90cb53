-- A layout has as many blocks of each level as the counts say.
use mathlib.Core.Path.{◌≡◌, refl, sym, ap, ◌∙◌}
use mathlib.Core.Bool.{Bool, true, false, ◌||◌}
use mathlib.Core.List.{List, [], ◌∷◌, ◌++◌}
use Prim.Native.Nat.{ℕ, zero, suc, ◌+◌, ◌*◌, ◌^◌, ◌≤◌, ◌<◌}
use native.Mathlib.Nat.{add-zero, le-mul_of_pos_right}
use native.Mathlib.Decide.{ℕ_discrete}
use native.Mathlib.Omega.{arith}
use lib.Dec.{eqb}
use lib.ListN.{get_or}
use lib.Pow.{pow_pos}
use borrow.Author.Tests.{eq-eqb, ne_eqb}
use Rattle.tree.specs.Held.{one_if, count}
use Rattle.tree.specs.Block.{Block, past, bsizes}
use Rattle.tree.proofs.Align.{first_lt_past}
use Rattle.tree.proofs.Sum.{count_cong}
use Rattle.layout.specs.Layout.{State, full, lone, block, start, running, place, rise, run, layout_from, layout}
use Rattle.layout.specs.Layout.{same_block, among, pages}
use Rattle.layout.proofs.Members.{Member, here, later, among_member, member_among, same_block_eq, same_level, same_index, same_first}
use Rattle.layout.proofs.States.{Rises, full_rises, lone_rises, lone_settles, rises}
use Rattle.layout.proofs.Order.{Chain, nil, cons, chain_first, layout_chain}
use Rattle.layout.proofs.Within.{layout_within}

-- The blocks of level m in the list

of_level : ℕ → List Block → ℕ
of_level m [] = 0
of_level m (b ∷ bs) = one_if (eqb m b.level) + of_level m bs

of_level_append : (m : ℕ) (xs ys : List Block) → of_level m (xs ++ ys) ≡ of_level m xs + of_level m ys
unfolding of_level
of_level_append m [] ys = omega arith
of_level_append m (x ∷ xs) ys = let e = of_level_append m xs ys in omega arith

of_level_run : (m l i n : ℕ) → of_level m (run l i n) ≡ one_if (eqb m l) * n
unfolding of_level
of_level_run m l i zero = omega arith
of_level_run m l i (suc n) = let e = of_level_run m l (suc i) n in omega arith

-- the lone block of the state, if it is of level m
carried : ℕ → State → ℕ
carried m (full u) = 0
carried m (lone v j k) = one_if (eqb m j)

-- the counts of level m among those from level l on
given : ℕ → ℕ → List ℕ → ℕ
given m l [] = 0
given m l (c ∷ cs) = one_if (eqb m l) * c + given m (suc l) cs

-- A level places its count: the run, and the last one more as the lone block if there was none.
carried_place : (m l : ℕ) (s : State) (c : ℕ) → one_if (eqb m l) * running s c + carried m (place l s c) ≡ carried m s + one_if (eqb m l) * c
unfolding carried
carried_place m l (full u) zero = omega arith
carried_place m l (full u) (suc c) = omega arith
carried_place m l (lone v j k) c = omega arith

-- Going up, the lone block is carried on or put into the list.
carried_rise : (m : ℕ) {s t : State} {xs : List Block} → Rises s xs t → of_level m xs + carried m t ≡ carried m s
unfolding carried of_level
carried_rise m (full_rises p q) = omega arith
carried_rise m (lone_rises e) = omega arith
carried_rise m (lone_settles e) = omega arith

layout_from_of_level : (m l : ℕ) (s : State) (cs : List ℕ) → of_level m (layout_from l s cs) ≡ carried m s + given m l cs
unfolding carried given of_level
layout_from_of_level m l (full u) [] = omega arith
layout_from_of_level m l (lone v j k) [] = omega arith
layout_from_of_level m l s (c ∷ cs) =
    let t : State = place l s c in
    let from_run = of_level_run m l (start s) (running s c) in
    let placed = carried_place m l s c in
    let risen = carried_rise m (rises t) in
    let above = layout_from_of_level m (suc l) (rise t) cs in
    rw (of_level_append, of_level_append) (omega arith)

-- The counts from level 0 on are the list.
given_lower : (m l : ℕ) (cs : List ℕ) → m < l → given m l cs ≡ 0
unfolding given
given_lower m l [] h = refl
given_lower m l (c ∷ cs) h = rw (ne_eqb m l (omega arith)) (omega (arith, given_lower m (suc l) cs (omega arith)))

given_getD : (m l : ℕ) (cs : List ℕ) → given (m + l) l cs ≡ get_or cs m 0
unfolding given
given_getD m l [] = refl
given_getD zero l (c ∷ cs) = rw (eq-eqb (0 + l) l (omega arith)) (omega (arith, given_lower (0 + l) (suc l) cs (omega arith)))
given_getD (suc m) l (c ∷ cs) =
    let above : given (suc m + l) (suc l) cs ≡ get_or cs m 0 = rw shift_suc (given_getD m (suc l) cs) in
    rw (ne_eqb (suc m + l) l (omega arith)) (omega arith)
  where
    shift_suc : suc m + l ≡ m + suc l
    shift_suc = omega arith

-- Counting the places of a level

count_none : (n : ℕ) → count n (λ k. false) ≡ 0
unfolding count
count_none zero = refl
count_none (suc n) = omega (arith, count_none n)

-- g is f and i besides
count_one_more : (n i : ℕ) (f g : ℕ → Bool) → i < n → f i ≡ false → g i ≡ true → ((k : ℕ) → ¬ (k ≡ i) → g k ≡ f k)
    → count n g ≡ suc (count n f)
unfolding count
count_one_more zero i f g h p q r = absurd (omega arith)
count_one_more (suc n) i f g h p q r = go (λ h. count_one_more n i f g h p q r) (ℕ_discrete n i)
  where
    go : (i < n → count n g ≡ suc (count n f)) → Dec (n ≡ i) → one_if (g n) + count n g ≡ suc (one_if (f n) + count n f)
    go below (yes e) =
        let same = count_cong n g f (λ k h. r k (omega arith)) in
        rw (ap f e ∙ p, ap g e ∙ q) (omega arith)
    go below (no d) = rw (r n d) (omega (arith, below (omega arith)))

pub false_unless_true : (p : Bool) → ¬ (p ≡ true) → p ≡ false
false_unless_true true h = absurd (h refl)
false_unless_true false h = refl

among_other : (b : Block) (bs : List Block) (x : Block) → ¬ (b ≡ x) → among (b ∷ bs) x ≡ among bs x
among_other b bs x h = ap (λ (p : Bool). p || among bs x) (false_unless_true (same_block b x) (λ e. h (same_block_eq b x e)))

-- In a chain no block stands twice: what follows b does not hold b.
chain_once : (b : Block) (bs : List Block) (x : Block) → Chain (past b) bs → x ≡ b → among bs x ≡ false
chain_once b bs x c e = false_unless_true (among bs x)
    (λ t. let after = chain_first c (among_member bs x t) in omega (arith, same_first e, first_lt_past b))

-- So the places of level m that a chain holds are as many as its blocks of level m.
module _ (n m : ℕ) (b : Block) (bs : List Block) where
  count_cons_same : Chain (past b) bs → b.index < n → m ≡ b.level
      → count n (λ k. among (b ∷ bs) (block m k)) ≡ suc (count n (λ k. among bs (block m k)))
  count_cons_same c h e =
      let at_b : block m b.index ≡ b = λ i. record { level = e i; index = b.index } in
      count_one_more n b.index (λ k. among bs (block m k)) (λ k. among (b ∷ bs) (block m k)) h
      (chain_once b bs (block m b.index) c at_b) (member_among {xs = b ∷ bs} (here at_b))
      (λ k d. among_other b bs (block m k) (λ i. d (sym (same_index i))))

  count_cons_other : ¬ (m ≡ b.level) → count n (λ k. among (b ∷ bs) (block m k)) ≡ count n (λ k. among bs (block m k))
  count_cons_other d =
      count_cong n (λ k. among (b ∷ bs) (block m k)) (λ k. among bs (block m k)) (λ k h. among_other b bs (block m k) (λ i. d (sym (same_level i))))

count_chain : (n m : ℕ) {p : ℕ} {bs : List Block} → Chain p bs → ((b : Block) → Member b bs → b.index < n)
    → count n (λ k. among bs (block m k)) ≡ of_level m bs
unfolding of_level
count_chain n m nil h = count_none n
count_chain n m (cons {b = b} {bs = bs} q c) h = go (count_chain n m c (λ x i. h x (later i))) (ℕ_discrete m b.level)
  where
    go : count n (λ k. among bs (block m k)) ≡ of_level m bs → Dec (m ≡ b.level)
        → count n (λ k. among (b ∷ bs) (block m k)) ≡ one_if (eqb m b.level) + of_level m bs
    go below (yes e) = let one_more = count_cons_same n m b bs c (h b (here refl)) e in rw (eq-eqb m b.level e) (omega arith)
    go below (no d) = let same = count_cons_other n m b bs d in rw (ne_eqb m b.level d) (omega arith)

index_within : (h : ℕ) (b : Block) → past b ≤ 2 ^ h → b.index < 2 ^ h
index_within h b p = let le : suc b.index ≤ past b = le-mul_of_pos_right (suc b.index) (pow_pos b.level) in omega arith

layout_of_level : (m : ℕ) (cs : List ℕ) → of_level m (layout cs) ≡ get_or cs m 0
unfolding layout carried
layout_of_level m cs =
    let e = layout_from_of_level m 0 (full 0) cs in
    let g : given m 0 cs ≡ get_or cs m 0 = rw add-zero at (given_getD m 0 cs) in
    omega arith

pub layout_sizes : (h : ℕ) (cs : List ℕ) → pages cs ≤ 2 ^ h → (l : ℕ) → bsizes h (among (layout cs)) l ≡ get_or cs l 0
unfolding bsizes
layout_sizes h cs f l =
    count_chain (2 ^ h) l (layout_chain cs) (λ b m. index_within h b (layout_within h cs f b (member_among m))) ∙ layout_of_level l cs
