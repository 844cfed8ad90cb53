-- A node is occupied exactly when it is above 0 and some tenant has it; `owner_of` finds that tenant.
use mathlib.Core.Path.{◌≡◌, refl}
use mathlib.Core.Bool.{Bool, true, false, ◌||◌, cond, false≢true}
use mathlib.Core.List.{List, [], ◌∷◌}
use Prim.Native.Nat.{ℕ, zero, suc, ◌^◌, ◌<◌}
use native.Mathlib.Omega.{arith}
use native.Mathlib.Decide.{dec_lt}
use borrow.Author.Tests.{eqb-true, eq-eqb, ltb-true, lt-ltb}
use lib.Dec.{eqb, ltb}
use lib.ListN.{length, get_or-eq_default}
use lib.Pow.{pow_pos}
use Rattle.tree.specs.Held.{Within}
use Rattle.tree.proofs.Sets.{both_left, both_right}
use Rattle.table.specs.Table.{node_of, node_at, stands, occupied}
use Rattle.table.specs.Pairing.{owner_of}

-- past the end of the table nobody has a node
pub tenant_below : (T : List ℕ) (t : ℕ) → 0 < node_at T t → t < length T
tenant_below T t p = go (dec_lt t (length T))
  where
    go : Dec (t < length T) → t < length T
    go (yes q) = q
    go (no q) = absurd (omega (arith, get_or-eq_default T 0 {n = t} (omega arith)))

pub stands_at : (T : List ℕ) (t : ℕ) → t < length T → stands T (node_at T t) ≡ true
unfolding stands
stands_at [] t q = absurd (omega arith)
stands_at (e ∷ T) zero q = rw (eq-eqb (node_of e) (node_of e) refl)
stands_at (e ∷ T) (suc t) q = either (eqb (node_of e) (node_at T t)) (stands_at T t (omega arith))
  where
    either : (b : Bool) → stands T (node_at T t) ≡ true → (b || stands T (node_at T t)) ≡ true
    either true r = refl
    either false r = r

-- t is a tenant, and its node is n
pub record Has (T : List ℕ) (n t : ℕ) : Type 0 where
  pub inside_table : t < length T
  pub node_is : node_at T t ≡ n

-- `owner_of` finds a tenant on the node
pub owner_stands : (T : List ℕ) (n : ℕ) → stands T n ≡ true → Has T n (owner_of T n)
unfolding stands
owner_stands [] n p = absurd (false≢true p)
owner_stands (e ∷ T) n p = by_test (eqb (node_of e) n) refl p (owner_stands T n)
  where
    by_test : (b : Bool) → eqb (node_of e) n ≡ b → (b || stands T n) ≡ true → (stands T n ≡ true → Has T n (owner_of T n))
        → Has (e ∷ T) n (cond b 0 (suc (owner_of T n)))
    by_test true r p' rest = record { inside_table = omega arith; node_is = eqb-true (node_of e) n r }
    by_test false r p' rest = let v = rest p' in record { inside_table = omega (arith, v.inside_table); node_is = v.node_is }

pub occupied_above_zero : (T : List ℕ) (n : ℕ) → occupied T n ≡ true → 0 < n
unfolding occupied
occupied_above_zero T n p = ltb-true 0 n (both_left (ltb 0 n) (stands T n) p)

pub owner_has : (T : List ℕ) (n : ℕ) → occupied T n ≡ true → Has T n (owner_of T n)
unfolding occupied
owner_has T n p = owner_stands T n (both_right (ltb 0 n) (stands T n) p)

-- an occupied node is some tenant's
pub tenant_of : (T : List ℕ) (n : ℕ) → occupied T n ≡ true → (t : ℕ) × (t < length T) × (node_at T t ≡ n)
tenant_of T n p = let v = owner_has T n p in (owner_of T n, v.inside_table, v.node_is)

-- and a tenant's node is occupied
pub occupied_by : (T : List ℕ) (t : ℕ) → 0 < node_at T t → occupied T (node_at T t) ≡ true
unfolding occupied
occupied_by T t p = rw (lt-ltb 0 (node_at T t) p) (stands_at T t (tenant_below T t p))

-- the tenants' nodes are in the tree exactly when the occupied ones are
pub occupied_within : (h : ℕ) (T : List ℕ) → ((t : ℕ) → node_at T t < 2 ^ suc h) → Within h (occupied T)
occupied_within h T in_tree n p =
    let v = tenant_of T n p in
    record { above_zero = occupied_above_zero T n p; in_height = rw v.2 at (in_tree v.0) }

pub nodes_in_tree : (h : ℕ) (T : List ℕ) → Within h (occupied T) → (t : ℕ) → node_at T t < 2 ^ suc h
nodes_in_tree h T within t = go (dec_lt 0 (node_at T t))
  where
    go : Dec (0 < node_at T t) → node_at T t < 2 ^ suc h
    go (yes p) = (within (node_at T t) (occupied_by T t p)).in_height
    go (no q) = omega (arith, pow_pos (suc h))
