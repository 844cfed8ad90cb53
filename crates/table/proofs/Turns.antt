-- The shifts keep the order of a level, and the newcomer's node comes after all to which they lead.
use mathlib.Core.Path.{◌≡◌, refl}
use mathlib.Core.Bool.{true, not, ◌&&◌}
use Prim.Native.Nat.{ℕ, suc, ◌-◌, ◌^◌, ◌≤◌, ◌<◌}
use native.Mathlib.Omega.{arith}
use lib.ListN.{length, get_or}
use Rattle.tree.specs.Node.{level}
use Rattle.tree.specs.Held.{Nodes, sizes}
use Rattle.table.specs.Pairing.{keep, level_nodes, leavers, places, shifts, goes, newcomer}
use Rattle.table.proofs.Distinct.{place_of}
use Rattle.table.proofs.Keep.{in_leavers, places_and_leavers}
use Rattle.table.proofs.Shifts.{Room, enough_places, goes_in_turn}
use Rattle.table.proofs.Sorted.{sorted_places, Ascending, ascending_up_from, ascending_keep, earlier_of_less}

-- those nodes of a level that pass a test
level_left_to_right : (p : Nodes) (h l : ℕ) → Ascending (keep p (level_nodes h l))
level_left_to_right p h l = ascending_keep p (level_nodes h l) (ascending_up_from (2 ^ (h - l)) (2 ^ (h - l)))

pub leavers_left_to_right : (h : ℕ) (S N : Nodes) (l : ℕ) → Ascending (leavers h S N l)
unfolding leavers
leavers_left_to_right h S N l = level_left_to_right (λ n. S n && not (N n)) h l

pub places_left_to_right : (h : ℕ) (S N : Nodes) (l : ℕ) → Ascending (places h S N l)
unfolding places
places_left_to_right h S N l = level_left_to_right (λ n. N n && not (S n)) h l

-- n is the j-th leaver of level l, and goes to the j-th place
record Turn (h : ℕ) (S N : Nodes) (l n : ℕ) : Type 0 where
  at : ℕ
  is_leaver : at < length (leavers h S N l)
  leaves : get_or (leavers h S N l) at 0 ≡ n
  arrives : goes (shifts h S N) n ≡ get_or (places h S N l) at 0

module _ {h : ℕ} {S N : Nodes} (R : Room h S N) where
  turn_of : (n l : ℕ) → l ≤ h → level h n ≡ l → S n ≡ true → ¬ (N n ≡ true) → Turn h S N l n
  turn_of n l q at_l held gone =
      let v = in_leavers h S N l n (record { of_level = record { in_tree = R.old n held; level_is = at_l }; held = held; not_held = gone }) in
      let p = place_of 0 v in
      record { at = p.0; is_leaver = p.1; leaves = p.2; arrives = rw p.2 at (goes_in_turn R l p.0 q p.1) }

  -- of two leavers of a level the one further left goes further left
  pub goes_left_to_right : (n m : ℕ) → S n ≡ true → ¬ (N n ≡ true) → S m ≡ true → ¬ (N m ≡ true) → level h n ≡ level h m → n < m
      → goes (shifts h S N) n < goes (shifts h S N) m
  goes_left_to_right n m held_n gone_n held_m gone_m same less =
      let l : ℕ = level h m in
      let q : l ≤ h = omega arith in
      let a = turn_of n l q same held_n gone_n in
      let b = turn_of m l q refl held_m gone_m in
      let earlier = earlier_of_less (leavers h S N l) (leavers_left_to_right h S N l) a.at b.at a.is_leaver
      (rw (a.leaves, b.leaves) less) in
      rw (a.arrives, b.arrives)
      (sorted_places (λ x y. x < y) 0 (places h S N l) (places_left_to_right h S N l) a.at b.at earlier
      (omega (arith, b.is_leaver, enough_places R l q)))

  -- and every leaver of the newcomer's level goes further left than the newcomer
  pub goes_left_of_newcomer : (x : ℕ) → x ≤ h → sizes h N x ≡ suc (sizes h S x) → (n : ℕ) → S n ≡ true → ¬ (N n ≡ true) → level h n ≡ x
      → goes (shifts h S N) n < newcomer h S N x
  unfolding newcomer
  goes_left_of_newcomer x q grown n held gone at_x =
      let a = turn_of n x q at_x held gone in
      rw a.arrives
      (sorted_places (λ x y. x < y) 0 (places h S N x) (places_left_to_right h S N x) a.at (length (leavers h S N x)) a.is_leaver
      (omega (arith, places_and_leavers h S N R.old R.new x q, grown)))
