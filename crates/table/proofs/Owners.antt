-- Laws of the owners by node: which nodes have an owner, and who that is.
use mathlib.Core.Path.{◌≡◌, refl, sym, ap₂, ◌∙◌}
use mathlib.Core.Bool.{Bool, true, false, ◌&&◌, ◌||◌, false≢true, and-eq-true_iff, and-true, and_assoc}
use mathlib.Core.List.{List, [], ◌∷◌}
use Prim.Native.Nat.{ℕ, zero, suc, ◌+◌, ◌^◌, ◌≤◌, ◌<◌}
use native.Mathlib.Omega.{arith}
use native.Mathlib.Decide.{dec_lt}
use borrow.Author.Tests.{lt-ltb, ltb-true, eqb-true, eqb-false}
use lib.Dec.{ltb, eqb}
use lib.Bits.{bit_or, or_lt, or_add_and, and_le_l, and_le_r}
use lib.ListN.{length, get_or, set, drop, replicate, drop_of_length-le, length-set, length-replicate, get_or-replicate, get_or-eq_default}
use lib.Pow.{pow_pos}
use lib.Seq.{drop-cons, get_or-set_same, get_or-set_other}
use Rattle.std.specs.List.{fold}
use Rattle.tree.proofs.Count.{equal_of_both_ways}
use Rattle.table.specs.Table.{node_of, node_at, stands, occupied}
use Rattle.table.specs.Pairing.{owner_of}
use Rattle.table.specs.Owners.{nodes_below, owners_from, owners_of}
use Rattle.table.proofs.Occupied.{occupied_above_zero, owner_has}
use Rattle.table.proofs.Tally.{Once}

-- ---- one tenant after another

pub owners_step : (o : List ℕ) (T : List ℕ) (i : ℕ) → i < length T
    → owners_from o i (drop i T) ≡ owners_from (set o (node_at T i) (suc i)) (suc i) (drop (suc i) T)
unfolding owners_from
owners_step o T i q = rw (drop-cons T i 0 q)

pub owners_end : (o : List ℕ) (T : List ℕ) (i : ℕ) → length T ≤ i → owners_from o i (drop i T) ≡ o
unfolding owners_from
owners_end o T i q = rw (drop_of_length-le T q)

-- ---- every node is below the limit

pub node_below : (m : ℕ) (T : List ℕ) → nodes_below m T ≡ true → (t : ℕ) → t < length T → node_at T t < m
unfolding nodes_below
node_below m [] e t q = absurd (omega arith)
node_below m (x ∷ T) e zero q = ltb-true (node_of x) m ((and-eq-true_iff (ltb (node_of x) m) (nodes_below m T)).0 e).0
node_below m (x ∷ T) e (suc t) q = node_below m T ((and-eq-true_iff (ltb (node_of x) m) (nodes_below m T)).0 e).1 t (omega arith)

-- past the end of the table there is only 0
pub nodes_are_below : (m : ℕ) (T : List ℕ) → 0 < m → nodes_below m T ≡ true → (t : ℕ) → node_at T t < m
nodes_are_below m T p e t =
    elim (dec_lt t (length T)) [
      | yes q ↦ node_below m T e t q
      | no q ↦ rw (get_or-eq_default T 0 {n = t} (omega arith)) p
    ]

pub below_of_nodes : (m : ℕ) (T : List ℕ) → ((t : ℕ) → t < length T → node_at T t < m) → nodes_below m T ≡ true
unfolding nodes_below
below_of_nodes m [] q = refl
below_of_nodes m (x ∷ T) q = rw (lt-ltb (node_of x) m (q 0 (omega arith))) (below_of_nodes m T (λ t r. q (suc t) (omega arith)))

pub below_mono : (m n : ℕ) (T : List ℕ) → m ≤ n → nodes_below m T ≡ true → nodes_below n T ≡ true
below_mono m n T q e = below_of_nodes n T (λ t r. omega (arith, node_below m T e t r))

-- ---- all at once, by the bits that any entry has

-- a number with the bits of two is below a power of two exactly if both are
or_below : (k a b : ℕ) → ltb (bit_or a b) (2 ^ k) ≡ (ltb a (2 ^ k) && ltb b (2 ^ k))
or_below k a b = equal_of_both_ways (ltb (bit_or a b) (2 ^ k)) (ltb a (2 ^ k) && ltb b (2 ^ k)) to from
  where
    to : ltb (bit_or a b) (2 ^ k) ≡ true → (ltb a (2 ^ k) && ltb b (2 ^ k)) ≡ true
    to e =
        let q = ltb-true (bit_or a b) (2 ^ k) e in
        let sum = or_add_and a b in
        ap₂ ◌&&◌ (lt-ltb a (2 ^ k) (omega (arith, and_le_r a b))) (lt-ltb b (2 ^ k) (omega (arith, and_le_l a b)))

    from : (ltb a (2 ^ k) && ltb b (2 ^ k)) ≡ true → ltb (bit_or a b) (2 ^ k) ≡ true
    from e =
        let both = (and-eq-true_iff (ltb a (2 ^ k)) (ltb b (2 ^ k))).0 e in
        lt-ltb (bit_or a b) (2 ^ k) (or_lt k a b (ltb-true a (2 ^ k) both.0) (ltb-true b (2 ^ k) both.1))

-- the bits of a number and of all entries after it
pub bits_below : (k a : ℕ) (T : List ℕ) → ltb (fold bit_or a T) (2 ^ k) ≡ (ltb a (2 ^ k) && nodes_below (2 ^ k) T)
unfolding nodes_below
bits_below k a [] = rw and-true
bits_below k a (x ∷ T) = bits_below k (bit_or a (node_of x)) T ∙ rw (or_below k a (node_of x), and_assoc)

pub bits_of_all : (k : ℕ) (T : List ℕ) → ltb (fold bit_or 0 T) (2 ^ k) ≡ nodes_below (2 ^ k) T
bits_of_all k T = bits_below k 0 T ∙ rw (lt-ltb 0 (2 ^ k) (pow_pos k))

-- ---- who owns a node

-- a node that stands in no entry keeps the owner that it had
owner_kept : (o : List ℕ) (i : ℕ) (T : List ℕ) (n : ℕ) → stands T n ≡ false → get_or (owners_from o i T) n 0 ≡ get_or o n 0
unfolding owners_from stands
owner_kept o i [] n s = refl
owner_kept o i (x ∷ T) n s = by_first (eqb (node_of x) n) refl s (owner_kept (set o (node_of x) (suc i)) (suc i) T n)
  where
    o' : List ℕ
    o' = set o (node_of x) (suc i)

    by_first : (b : Bool) → eqb (node_of x) n ≡ b → (b || stands T n) ≡ false
        → (stands T n ≡ false → get_or (owners_from o' (suc i) T) n 0 ≡ get_or o' n 0)
        → get_or (owners_from o' (suc i) T) n 0 ≡ get_or o n 0
    by_first true p s later = absurd (false≢true (sym s))
    by_first false p s later = later s ∙ get_or-set_other o (node_of x) n (suc i) 0 (λ e. eqb-false (node_of x) n p (sym e))

-- the owner stored for a node: a tenant whose node it is
record Stored (o : List ℕ) (i : ℕ) (T : List ℕ) (n : ℕ) : Type 0 where
  tenant : ℕ
  inside_table : tenant < length T
  node : node_at T tenant ≡ n
  owner : get_or (owners_from o i T) n 0 ≡ suc (i + tenant)

owner_stored : (o : List ℕ) (i : ℕ) (T : List ℕ) (n : ℕ) → n < length o → stands T n ≡ true → Stored o i T n
unfolding owners_from stands
owner_stored o i [] n q s = absurd (false≢true s)
owner_stored o i (x ∷ T) n q s = by_later (stands T n) refl (owner_stored o' (suc i) T n (rw (length-set o (node_of x) (suc i)) q))
  where
    o' : List ℕ
    o' = set o (node_of x) (suc i)

    first_stands : (a b : Bool) → (a || b) ≡ true → b ≡ false → a ≡ true
    first_stands true b e f = refl
    first_stands false b e f = sym f ∙ e

    by_later : (b : Bool) → stands T n ≡ b → (stands T n ≡ true → Stored o' (suc i) T n) → Stored o i (x ∷ T) n
    by_later true p later =
        let r = later p in
        record { tenant = suc r.tenant; inside_table = omega arith; node = r.node; owner = r.owner ∙ omega arith }
    by_later false p later =
        let x_is_n : node_of x ≡ n = eqb-true (node_of x) n (first_stands (eqb (node_of x) n) (stands T n) s p) in
        let stored : get_or o' n 0 ≡ suc i = rw x_is_n (get_or-set_same o n (suc i) 0 q) in
        record { tenant = 0; inside_table = omega arith; node = x_is_n; owner = owner_kept o' (suc i) T n p ∙ stored ∙ omega arith }

-- the owner stored over none
owner_stored_first : (m : ℕ) (T : List ℕ) (n : ℕ) → n < m → stands T n ≡ true → Stored (replicate m 0) 0 T n
owner_stored_first m T n q s = owner_stored (replicate m 0) 0 T n (rw (length-replicate {A = ℕ} m 0) q) s

-- the nodes that have an owner are those of the table
pub owned_is_occupied : (m : ℕ) (T : List ℕ) (n : ℕ) → 0 < n → n < m → ltb 0 (get_or (owners_of m T) n 0) ≡ occupied T n
unfolding occupied
owned_is_occupied m T n p q = by_value (stands T n) refl
  where
    by_value : (b : Bool) → stands T n ≡ b → ltb 0 (get_or (owners_of m T) n 0) ≡ (ltb 0 n && stands T n)
    by_value true s =
        let r = owner_stored_first m T n q s in
        rw (r.owner, s, lt-ltb 0 n p) (lt-ltb 0 (suc (0 + r.tenant)) (omega arith))
    by_value false s = rw (owner_kept (replicate m 0) 0 T n s, get_or-replicate {A = ℕ} m n 0 0 q, s, lt-ltb 0 n p)

module _ (T : List ℕ) (n : ℕ) (held : occupied T n ≡ true) where
  held_stands : stands T n ≡ true
  unfolding occupied
  held_stands = ((and-eq-true_iff (ltb 0 n) (stands T n)).0 held).1

  -- where no node stands twice, the owner stored is the tenant whose node it is
  pub owner_is_tenant : (m : ℕ) → n < m → Once T → get_or (owners_of m T) n 0 ≡ suc (owner_of T n)
  owner_is_tenant m q once =
      let r = owner_stored_first m T n q held_stands in
      let same : r.tenant ≡ owner_of T n =
      once r.tenant (owner_of T n) (omega (arith, occupied_above_zero T n held, r.node)) (r.node ∙ sym (owner_has T n held).node_is) in
      r.owner ∙ omega arith
