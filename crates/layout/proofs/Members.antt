-- Membership in a list of blocks: what `among` tests, and which blocks the parts of a layout's list hold.
use mathlib.Core.Path.{◌≡◌, refl, sym, ap₂, ap, ◌∙◌}
use mathlib.Core.Bool.{Bool, true, false, false≢true, ◌&&◌, ◌||◌, or-true, and-eq-true_iff}
use mathlib.Core.Logic.{◌⊎◌, inl, inr}
use mathlib.Core.List.{List, [], ◌∷◌, ◌++◌}
pub use mathlib.Core.List.Memᴰ.{head as here}
pub use mathlib.Core.List.Memᴰ.{tail as later}
pub use mathlib.Core.List.{Memᴰ as Member}
use mathlib.Core.List.Memᴰ.{append_cases as member_append_cases}
use mathlib.Core.List.Memᴰ.{append_left as member_append_left}
use mathlib.Core.List.Memᴰ.{append_right as member_append_right}
use Prim.Native.Nat.{ℕ, zero, suc, ◌+◌, ◌≤◌, ◌<◌}
use native.Mathlib.Omega.{arith}
use native.Mathlib.Decide.{ℕ_discrete}
use lib.Dec.{eqb}
use borrow.Author.Tests.{eqb-true, eq-eqb}
use Rattle.tree.specs.Block.{Block, first, past}
use Rattle.layout.specs.Layout.{State, block, start, running, place, rise, settled, run, layout_from, same_block, among}

-- Equal blocks

pub same_level : {a b : Block} → a ≡ b → a.level ≡ b.level
same_level e = ap (λ (x : Block). x.level) e

pub same_index : {a b : Block} → a ≡ b → a.index ≡ b.index
same_index e = ap (λ (x : Block). x.index) e

pub same_first : {a b : Block} → a ≡ b → first a ≡ first b
same_first e = ap first e

pub same_past : {a b : Block} → a ≡ b → past a ≡ past b
same_past e = ap past e

-- Tests

pub same_block_eq : (a b : Block) → same_block a b ≡ true → a ≡ b
same_block_eq a b e =
    let parts = (and-eq-true_iff (eqb a.level b.level) (eqb a.index b.index)).0 e in
    let p : a.level ≡ b.level = eqb-true a.level b.level parts.0 in
    let q : a.index ≡ b.index = eqb-true a.index b.index parts.1 in
    λ i. record { level = p i; index = q i }

pub eq_same_block : (a b : Block) → a ≡ b → same_block a b ≡ true
eq_same_block a b e = ap₂ ◌&&◌ (eq-eqb a.level b.level (same_level e)) (eq-eqb a.index b.index (same_index e))

pub among_member : (xs : List Block) (b : Block) → among xs b ≡ true → Member b xs
among_member [] b e = absurd (false≢true e)
among_member (a ∷ xs) b e = go (among_member xs b) (same_block a b) refl e
  where
    go : (among xs b ≡ true → Member b xs) → (p : Bool) → same_block a b ≡ p → (p || among xs b) ≡ true → Member b (a ∷ xs)
    go in_Tail true p e = here (sym (same_block_eq a b p))
    go in_Tail false p e = later (in_Tail e)

pub member_among : {b : Block} {xs : List Block} → Member b xs → among xs b ≡ true
member_among {b} (here {x = a} {xs = xs} e) = ap (λ (p : Bool). p || among xs b) (eq_same_block a b (sym e))
member_among {b} (later {x = a} {xs = xs} m) = ap (λ (q : Bool). same_block a b || q) (member_among m) ∙ or-true (same_block a b)

-- Parts of a layout

-- a block of a run: it has the run's level, and an index of the run
pub record InRun (l i n : ℕ) (b : Block) : Type 0 where
  pub of_level : b.level ≡ l
  pub from : i ≤ b.index
  pub to : b.index < i + n

pub run_holds : (l i n : ℕ) {b : Block} → Member b (run l i n) → InRun l i n b
run_holds l i zero m = elim m [ ]
run_holds l i (suc n) (here e) = let p = same_level e in let q = same_index e in omega arith
run_holds l i (suc n) (later m) = let r = run_holds l (suc i) n m in omega arith

pub holds_run : (l i n x : ℕ) → i ≤ x → x < i + n → Member (block l x) (run l i n)
holds_run l i zero x p q = absurd (omega arith)
holds_run l i (suc n) x p q = go (holds_run l (suc i) n x) (ℕ_discrete i x)
  where
    go : (suc i ≤ x → x < suc i + n → Member (block l x) (run l (suc i) n)) → Dec (i ≡ x) → Member (block l x) (run l i (suc n))
    go in_Tail (yes e) = here (ap (block l) (sym e))
    go in_Tail (no h) = later (in_Tail (omega arith) (omega arith))

-- A block that follows from level l on, with the count c of that level, is in the level's run, or is the lone block that settles there,
-- or follows from the next level on.
pub data Part (l : ℕ) (s : State) (c : ℕ) (cs : List ℕ) (b : Block) : Type 0 where
  in_run : InRun l (start s) (running s c) b → Part l s c cs b
  in_settled : Member b (settled (place l s c)) → Part l s c cs b
  in_rest : Member b (layout_from (suc l) (rise (place l s c)) cs) → Part l s c cs b

-- what level l adds to the list
abbrev pub added : ℕ → State → ℕ → List Block
added l s c = run l (start s) (running s c) ++ settled (place l s c)

pub member_part : (l : ℕ) (s : State) (c : ℕ) (cs : List ℕ) {b : Block} → Member b (layout_from l s (c ∷ cs)) → Part l s c cs b
member_part l s c cs {b} m = part (member_append_cases (added l s c) m)
  where
    part_added : Member b (run l (start s) (running s c)) ⊎ Member b (settled (place l s c)) → Part l s c cs b
    part_added (inl m) = in_run (run_holds l (start s) (running s c) m)
    part_added (inr m) = in_settled m

    part : Member b (added l s c) ⊎ Member b (layout_from (suc l) (rise (place l s c)) cs) → Part l s c cs b
    part (inl m) = part_added (member_append_cases (run l (start s) (running s c)) m)
    part (inr m) = in_rest m

-- and each of the three is a block that follows from level l on
module _ (l : ℕ) (s : State) (c : ℕ) (cs : List ℕ) where
  pub run_member : (x : ℕ) → start s ≤ x → x < start s + running s c → Member (block l x) (layout_from l s (c ∷ cs))
  run_member x p q =
      member_append_left (layout_from (suc l) (rise (place l s c)) cs)
      (member_append_left (settled (place l s c)) (holds_run l (start s) (running s c) x p q))

  pub settled_member : {b : Block} → Member b (settled (place l s c)) → Member b (layout_from l s (c ∷ cs))
  settled_member m = member_append_left (layout_from (suc l) (rise (place l s c)) cs) (member_append_right (run l (start s) (running s c)) m)

  pub rest_member : {b : Block} → Member b (layout_from (suc l) (rise (place l s c)) cs) → Member b (layout_from l s (c ∷ cs))
  rest_member m = member_append_right (added l s c) m
