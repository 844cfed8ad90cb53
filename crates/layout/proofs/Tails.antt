-- A block of the layout has at most one tail: right of it only the block that its level carried on can be of a lower level.
use mathlib.Core.Path.{◌≡◌, sym, ◌∙◌}
use mathlib.Core.Bool.{true}
use mathlib.Core.List.Memᴰ.{append_right as member_append_right}
use mathlib.Core.List.{List, [], ◌∷◌, ◌++◌}
use Prim.Native.Nat.{ℕ, zero, suc, ◌≤◌, ◌<◌}
use native.Mathlib.Omega.{arith}
use Rattle.tree.specs.Block.{Block, first, past, BTail}
use Rattle.tree.proofs.Align.{first_lt_past}
use Rattle.layout.specs.Layout.{State, full, lone, place, rise, layout_from, layout, among}
use Rattle.layout.proofs.Members.{Member, here, later, among_member, same_level, same_first}
use Rattle.layout.proofs.Members.{Part, in_run, in_settled, in_rest, member_part, added}
use Rattle.layout.proofs.States.{AtLevel, full_at, lone_at, LoneOf, lone_of, settled_lone, remaining_lone, place_at, next_at}
use Rattle.layout.proofs.States.{Rises, full_rises, lone_rises, lone_settles, rises}
use Rattle.layout.proofs.Order.{Chain, cons, chain_first, layout_from_chain}

lone_unique : {s : State} {a b : Block} → LoneOf s a → LoneOf s b → a ≡ b
lone_unique (lone_of p) (lone_of q) = p ∙ sym q

lone_not_higher : {l : ℕ} {s : State} {b : Block} → AtLevel l s → LoneOf s b → b.level ≤ l
lone_not_higher (lone_at e) (lone_of g) = omega (arith, same_level g)
lone_not_higher {l = l} {b = b} (full_at {u = u}) x4 = elim x4 [ ]

-- The levels of what follows from level l on

-- the lone block, if there is one, is of level n or higher
data AtLeast (n : ℕ) : State → Type 0 where
  full_least : {u : ℕ} → AtLeast n (full u)
  lone_least : {v j k : ℕ} → n ≤ j → AtLeast n (lone v j k)

place_least : {n : ℕ} (l : ℕ) {s : State} (c : ℕ) → n ≤ l → AtLeast n s → AtLeast n (place l s c)
place_least l zero h full_least = full_least
place_least l (suc c) h full_least = lone_least h
place_least l c h (lone_least p) = lone_least p

rise_least : {n : ℕ} {s t : State} {xs : List Block} → Rises s xs t → AtLeast n s → AtLeast n t
rise_least (full_rises p q) full_least = full_least
rise_least (lone_rises p) (lone_least h) = lone_least h
rise_least (lone_settles p) (lone_least h) = full_least

lone_at_least : {n : ℕ} {s : State} {b : Block} → AtLeast n s → LoneOf s b → n ≤ b.level
lone_at_least (lone_least h) (lone_of g) = omega (arith, same_level g)
lone_at_least {n = n} {b = b} (full_least {u = u}) x3 = elim x3 [ ]

levels_at_least : (n l : ℕ) (s : State) (cs : List ℕ) {b : Block} → n ≤ l → AtLeast n s → Member b (layout_from l s cs) → n ≤ b.level
levels_at_least n l s [] h a m = lone_at_least a (remaining_lone s m)
levels_at_least n l s (c ∷ cs) {b} h a m =
    go (levels_at_least n (suc l) (rise (place l s c)) cs (omega arith) (rise_least (rises (place l s c)) placed)) (member_part l s c cs m)
  where
    placed : AtLeast n (place l s c)
    placed = place_least l c h a

    go : (Member b (layout_from (suc l) (rise (place l s c)) cs) → n ≤ b.level) → Part l s c cs b → n ≤ b.level
    go above (in_run r) = omega arith
    go above (in_settled m) = lone_at_least placed (settled_lone (place l s c) m)
    go above (in_rest m) = above m

-- where a lone block settles, nothing is carried on
settled_then_higher : (l : ℕ) (cs : List ℕ) {s t : State} {xs : List Block} {a b : Block}
    → Rises s xs t → Member a xs → Member b (layout_from (suc l) t cs) → l < b.level
settled_then_higher l cs (full_rises p q) ma mb = elim ma [ ]
settled_then_higher l cs (lone_rises p) ma mb = elim ma [ ]
settled_then_higher l cs (lone_settles {w = w} p) ma mb = levels_at_least (suc l) (suc l) (full (suc w)) cs (omega arith) full_least mb

-- at most one block of a lower level follows from level l on
lower_unique : (l : ℕ) (s : State) (cs : List ℕ) {a b : Block}
    → Member a (layout_from l s cs) → Member b (layout_from l s cs) → a.level < l → b.level < l → a ≡ b
lower_unique l s [] ma mb p q = lone_unique (remaining_lone s ma) (remaining_lone s mb)
lower_unique l s (c ∷ cs) {a} {b} ma mb p q =
    go (λ ma mb. lower_unique (suc l) (rise t) cs ma mb (omega arith) (omega arith)) (member_part l s c cs ma) (member_part l s c cs mb)
  where
    t : State
    t = place l s c

    go : (Member a (layout_from (suc l) (rise t) cs) → Member b (layout_from (suc l) (rise t) cs) → a ≡ b)
        → Part l s c cs a → Part l s c cs b → a ≡ b
    go above (in_run r) part = absurd (omega arith)
    go above (in_settled ma) (in_run r) = absurd (omega arith)
    go above (in_settled ma) (in_settled mb) = lone_unique (settled_lone t ma) (settled_lone t mb)
    go above (in_settled ma) (in_rest mb) = let higher = settled_then_higher l cs (rises t) ma mb in absurd (omega arith)
    go above (in_rest ma) (in_run r) = absurd (omega arith)
    go above (in_rest ma) (in_settled mb) = let higher = settled_then_higher l cs (rises t) mb ma in absurd (omega arith)
    go above (in_rest ma) (in_rest mb) = above ma mb

-- Right of a block of the layout

-- what is right of a block in the rest of a chain is in that rest
chain_right : (xs : List Block) {p : ℕ} {ys : List Block} {u t : Block}
    → Chain p (xs ++ ys) → Member u ys → Member t (xs ++ ys) → past u ≤ first t → Member t ys
chain_right [] c mu mt h = mt
chain_right (x ∷ xs) {u = u} (cons q c) mu (here e) h =
    let after : past x ≤ first u = chain_first c (member_append_right xs mu) in
    absurd (omega (arith, same_first e, first_lt_past x, first_lt_past u))
chain_right (x ∷ xs) (cons q c) mu (later mt) h = chain_right xs c mu mt h

-- A block that level l adds is of level l or lower, so its tails are lower than l; a later one has its tails among the later ones.
one_tail_from : (l : ℕ) (s : State) (cs : List ℕ) {u t t' : Block} → AtLevel l s
    → Member u (layout_from l s cs) → Member t (layout_from l s cs) → Member t' (layout_from l s cs)
    → t.level < u.level → t'.level < u.level → past u ≤ first t → past u ≤ first t' → t ≡ t'
one_tail_from l s [] a mu mt mt' p p' q q' = lone_unique (remaining_lone s mt) (remaining_lone s mt')
one_tail_from l s (c ∷ cs) {u} {t} {t'} a mu mt mt' p p' q q' =
    go (λ mu mt mt'. one_tail_from (suc l) (rise (place l s c)) cs (next_at l c a) mu mt mt' p p' q q') (member_part l s c cs mu)
  where
    rest : List Block
    rest = layout_from (suc l) (rise (place l s c)) cs

    not_higher : u.level ≤ l → t ≡ t'
    not_higher h = lower_unique l s (c ∷ cs) mt mt' (omega arith) (omega arith)

    go : (Member u rest → Member t rest → Member t' rest → t ≡ t') → Part l s c cs u → t ≡ t'
    go above (in_run r) = not_higher (omega arith)
    go above (in_settled mu) = not_higher (lone_not_higher (place_at l c a) (settled_lone (place l s c) mu))
    go above (in_rest mu) =
        let chain = layout_from_chain l (c ∷ cs) a in
        above mu (chain_right (added l s c) chain mu mt q) (chain_right (added l s c) chain mu mt' q')

pub layout_one_tail : (cs : List ℕ) (u t t' : Block)
    → among (layout cs) u ≡ true → BTail (among (layout cs)) u t → BTail (among (layout cs)) u t' → t ≡ t'
unfolding layout
layout_one_tail cs u t t' h p p' =
    one_tail_from 0 (full 0) cs full_at
    (among_member (layout cs) u h) (among_member (layout cs) t p.held) (among_member (layout cs) t' p'.held)
    p.lower p'.lower p.right p'.right
