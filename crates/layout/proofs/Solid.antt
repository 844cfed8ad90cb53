-- What a place of the tree can have of a set of blocks, so that it is neither free nor meager. A place is a level l and an index x there.
use mathlib.Core.Path.{◌≡◌, refl, sym, ◌∙◌}
use mathlib.Core.Bool.{true}
use Prim.Native.Nat.{ℕ, suc, ◌+◌, ◌*◌, ◌/◌, ◌^◌, ◌≤◌, ◌<◌}
use native.Mathlib.Nat.{le_refl, mul-le-mul_right, div-mul-le_self, lt-div-mul-add}
use native.Mathlib.Omega.{arith}
use lib.Pow.{pow_pos, pow-lt}
use Rattle.tree.specs.Block.{Block, Blocks, first, past, Inside, BLegal, BFree, BMeager}
use Rattle.tree.proofs.Align.{first_lt_past}
use Rattle.layout.specs.Layout.{block}
use Rattle.layout.proofs.Members.{same_first, same_past}
use Rattle.layout.proofs.States.{lone_pages, double_pages}

-- a block of the set is the place or lies below it
pub record Occupied (A : Blocks) (l x : ℕ) : Type 0 where
  pub occupant : Block
  pub held : A occupant ≡ true
  pub not_higher : occupant.level ≤ l
  pub from : x * 2 ^ l ≤ first occupant
  pub to : past occupant ≤ suc x * 2 ^ l

-- two different blocks of the set lie below the place
pub record TwoInside (A : Blocks) (l x : ℕ) : Type 0 where
  pub one : Block
  pub two : Block
  pub one_held : A one ≡ true
  pub two_held : A two ≡ true
  pub one_inside : Inside one (block l x)
  pub two_inside : Inside two (block l x)
  pub different : ¬ (one ≡ two)

-- a block of the set is the place or contains it
pub record Covered (A : Blocks) (l x : ℕ) : Type 0 where
  pub cover : Block
  pub held : A cover ≡ true
  pub from : first cover ≤ x * 2 ^ l
  pub to : suc x * 2 ^ l ≤ past cover

pub data Solid (A : Blocks) (l x : ℕ) : Type 0 where
  two_inside : TwoInside A l x → Solid A l x
  covered : Covered A l x → Solid A l x

-- What solid places are not

-- a solid place is not free
pub solid_not_free : (A : Blocks) (u : Block) → Solid A u.level u.index → ¬ BFree A u
solid_not_free A u (two_inside t) f = let pages = first_lt_past t.one in f t.one t.one_held (omega arith)
solid_not_free A u (covered c) f = let pages = first_lt_past u in f c.cover c.held (omega arith)

-- and not meager: of two blocks below it neither is the only one, and below a held block there is none
pub solid_not_meager : (A : Blocks) (x : Block) → BLegal A → Solid A x.level x.index → ¬ BMeager A x
solid_not_meager A x legal (two_inside t) m =
    t.different (m.only t.one t.one_held t.one_inside ∙ sym (m.only t.two t.two_held t.two_inside))
solid_not_meager A x legal (covered c) m =
    let pages = first_lt_past m.one in
    let same : c.cover ≡ m.one = legal c.cover m.one c.held m.one_held (omega arith) in
    let smaller : 2 ^ m.one.level < 2 ^ x.level = pow-lt m.one_below.lower in
    omega (arith, same_first same, same_past same)

-- How places come to have it

pub two_occupy : {A : Blocks} {l x : ℕ} → TwoInside A l x → Occupied A l x
two_occupy t = record {
  occupant = t.one;
  held = t.one_held;
  not_higher = omega (arith, t.one_inside.lower);
  from = t.one_inside.from;
  to = t.one_inside.to;
}

pub itself_occupies : (A : Blocks) (l x : ℕ) → A (block l x) ≡ true → Occupied A l x
itself_occupies A l x h = record { occupant = block l x; held = h; not_higher = le_refl l; from = omega arith; to = omega arith }

pub itself_covers : (A : Blocks) (l x : ℕ) → A (block l x) ≡ true → Covered A l x
itself_covers A l x h = record { cover = block l x; held = h; from = omega arith; to = omega arith }

-- the place x of level j lies below the place x / 2^k of the level k higher
pub subtree_covers : (A : Blocks) (l j k x : ℕ) → l ≡ j + k → A (block l (x / 2 ^ k)) ≡ true → Covered A j x
subtree_covers A l j k x e h =
    let i : ℕ = x / 2 ^ k in
    let begins = (lone_pages l i j k e).begins in
    let ends = (lone_pages l (suc i) j k e).begins in
    let from : i * 2 ^ k * 2 ^ j ≤ x * 2 ^ j = mul-le-mul_right (2 ^ j) (div-mul-le_self x (2 ^ k)) in
    let below : x < i * 2 ^ k + 2 ^ k = lt-div-mul-add (pow_pos k) in
    let to : suc x * 2 ^ j ≤ suc i * 2 ^ k * 2 ^ j = mul-le-mul_right (2 ^ j) (omega arith) in
    record { cover = block l i; held = h; from = omega arith; to = omega arith }

-- the lone block of a subtree occupies it
pub lone_occupies : (A : Blocks) (l v j k : ℕ) → l ≡ j + k → A (block j (v * 2 ^ k)) ≡ true → Occupied A l v
lone_occupies A l v j k e h =
    let at = lone_pages l v j k e in
    record { occupant = block j (v * 2 ^ k); held = h; not_higher = omega arith; from = omega arith; to = omega arith }

-- the pages of a place are those of its two halves
record Halves (l x : ℕ) : Type 0 where
  begins : (x + x) * 2 ^ l ≡ x * 2 ^ suc l
  ends : suc (suc (x + x)) * 2 ^ l ≡ suc x * 2 ^ suc l

halves : (l x : ℕ) → Halves l x
halves l x = record { begins = double_pages x l refl; ends = double_pages (suc x) l (omega arith) }

-- one in each half
pub halves_two : {A : Blocks} {l : ℕ} (x : ℕ) → Occupied A l (x + x) → Occupied A l (suc (x + x)) → TwoInside A (suc l) x
halves_two {l = l} x p q =
    let at = halves l x in
    let p_pages = first_lt_past p.occupant in
    let q_pages = first_lt_past q.occupant in
    record {
      one = p.occupant;
      two = q.occupant;
      one_held = p.held;
      two_held = q.held;
      one_inside = omega arith;
      two_inside = omega arith;
      different = λ e. omega (arith, same_first e);
    }

-- two in the left half
pub left_two : {A : Blocks} {l : ℕ} (x : ℕ) → TwoInside A l (x + x) → TwoInside A (suc l) x
left_two {l = l} x t =
    let at = halves l x in
    record {
      one = t.one;
      two = t.two;
      one_held = t.one_held;
      two_held = t.two_held;
      one_inside = omega arith;
      two_inside = omega arith;
      different = t.different;
    }
