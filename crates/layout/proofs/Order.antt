-- The blocks of a layout stand in the order of their pages and share none; so the layout is legal.
use mathlib.Core.Path.{◌≡◌, refl, sym, ◌∙◌}
use mathlib.Core.List.{List, [], ◌∷◌, ◌++◌, append_assoc}
use Prim.Native.Nat.{ℕ, zero, suc, ◌+◌, ◌*◌, ◌^◌, ◌≤◌}
use native.Mathlib.Nat.{le_trans, le_refl, le_of_eq, add-zero, mul-le-mul_right}
use native.Mathlib.Omega.{arith}
use Rattle.tree.specs.Block.{Block, first, past, Meet, BLegal}
use Rattle.tree.proofs.Align.{first_lt_past}
use Rattle.layout.specs.Layout.{State, start, running, place, rise, run, layout_from, layout, among}
use Rattle.layout.proofs.Members.{Member, here, later, among_member, same_first, same_past}
use Rattle.layout.proofs.States.{AtLevel, full_at, lone_at, lone_pages, place_at, start_place}
use Rattle.layout.proofs.States.{double_pages, Rises, full_rises, lone_rises, lone_settles, rises, next_at}

-- the blocks follow one another from page p on
pub data Chain : ℕ → List Block → Type 0 where
  nil : {p : ℕ} → Chain p []
  cons : {p : ℕ} {b : Block} {bs : List Block} → p ≤ first b → Chain (past b) bs → Chain p (b ∷ bs)

pub chain_earlier : {p q : ℕ} {bs : List Block} → p ≤ q → Chain q bs → Chain p bs
chain_earlier h nil = nil
chain_earlier h (cons q c) = cons (le_trans h q) c

run_chain : (l i n : ℕ) {bs : List Block} → Chain ((i + n) * 2 ^ l) bs → Chain (i * 2 ^ l) (run l i n ++ bs)
run_chain l i zero c = rw add-zero at c
run_chain l i (suc n) c = cons (le_refl (i * 2 ^ l)) (run_chain l (suc i) n (chain_earlier (omega arith) c))

-- what settles on the way up stands between the level's run and the blocks from the next level on
rise_chain : (l : ℕ) {s t : State} {xs bs : List Block}
    → AtLevel l s → Rises s xs t → Chain (start t * 2 ^ suc l) bs → Chain (start s * 2 ^ l) (xs ++ bs)
rise_chain l full_at (full_rises {u = u} {w = w} p q) c = chain_earlier (rw (← double_pages w l refl) (mul-le-mul_right (2 ^ l) p)) c
rise_chain l (lone_at e) (lone_rises {v = v} {w = w} h) c = chain_earlier (le_of_eq (double_pages w l h)) c
rise_chain l (lone_at e) (lone_settles {v = v} {j = j} {k = k} {w = w} h) c =
    let at = lone_pages l v j k e in
    let up : suc v * 2 ^ l ≡ suc w * 2 ^ suc l = double_pages (suc w) l (omega arith) in
    cons (le_of_eq (sym at.begins)) (chain_earlier (omega arith) c)

pub layout_from_chain : (l : ℕ) {s : State} (cs : List ℕ) → AtLevel l s → Chain (start s * 2 ^ l) (layout_from l s cs)
layout_from_chain l [] full_at = nil
layout_from_chain l [] (lone_at {v = v} {j = j} {k = k} e) = cons (le_of_eq (sym (lone_pages l v j k e).begins)) nil
layout_from_chain l {s} (c ∷ cs) a =
    let t : State = place l s c in
    let above : Chain (start (rise t) * 2 ^ suc l) (layout_from (suc l) (rise t) cs) = layout_from_chain (suc l) cs (next_at l c a) in
    rw append_assoc (run_chain l (start s) (running s c) (rw start_place at (rise_chain l (place_at l c a) (rises t) above)))

pub layout_chain : (cs : List ℕ) → Chain 0 (layout cs)
unfolding layout
layout_chain cs = layout_from_chain 0 cs (full_at {u = 0})

pub chain_first : {p : ℕ} {bs : List Block} {b : Block} → Chain p bs → Member b bs → p ≤ first b
chain_first (cons q c) (here e) = let f = same_first e in omega arith
chain_first (cons {b = x} q c) (later m) = let r = chain_first c m in let z = first_lt_past x in omega arith
chain_first {b = b} (nil {p = p}) x4 = elim x4 [ ]

-- of two blocks of a chain one ends before the other begins, or they are the same
pub chain_meet : {p : ℕ} {bs : List Block} {a b : Block} → Chain p bs → Member a bs → Member b bs → Meet a b → a ≡ b
chain_meet (cons q c) (here e) (here f) h = e ∙ sym f
chain_meet (cons q c) (here e) (later n) h = let r = chain_first c n in let f = same_past e in absurd (omega arith)
chain_meet (cons q c) (later m) (here e) h = let r = chain_first c m in let f = same_past e in absurd (omega arith)
chain_meet (cons q c) (later m) (later n) h = chain_meet c m n h
chain_meet {a = a} {b = b} (nil {p = p}) x10 _ h = elim x10 [ ]

pub layout_legal : (cs : List ℕ) → BLegal (among (layout cs))
layout_legal cs a b p q h = chain_meet (layout_chain cs) (among_member (layout cs) a p) (among_member (layout cs) b q) h
