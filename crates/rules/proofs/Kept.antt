-- What every history keeps up: the table is in order, and the book agrees with it tenant by tenant. And what follows for one box from that.
use mathlib.Core.Path.{◌≡◌, sym, ◌∙◌}
use mathlib.Core.Bool.{◌&&◌}
use mathlib.Core.List.{List}
use mathlib.Core.Option.{Option, some, none}
use Prim.Native.Nat.{ℕ, ◌^◌, ◌≤◌, ◌<◌}
use native.Mathlib.Omega.{arith}
use borrow.Author.Tests.{lt-ltb}
use lib.Dec.{eqb, ltb}
use lib.ListN.{length, get_or}
use Rattle.tree.specs.Node.{level}
use Rattle.tree.specs.Held.{Nodes, Within, Legal, Safe, sizes}
use Rattle.tree.proofs.Sum.{count_cong}
use Rattle.layout.specs.Layout.{pages}
use Rattle.layout.specs.Set.{layout_set}
use Rattle.layout.proofs.Theorems.{layout_in_tree, layout_is_legal, layout_has_counts, legal_set_fits, safe_set_is_layout}
use Rattle.table.specs.Table.{node_at, occupied, InOrder, tenants_at, counts_of}
use Rattle.table.proofs.Tally.{tally_by_tenants}
use Rattle.table.proofs.Occupied.{occupied_within}
use Rattle.table.proofs.Order.{counts_length, tenants_are_sizes, in_order_counts, in_order_is_layout, in_order_iff}
use Rattle.rules.specs.History.{Book, at_level, held}
use Rattle.rules.specs.Demand.{Agrees, NoLegalSet}
use Rattle.rules.proofs.Checks.{Sound}

pub record Kept (h : ℕ) (T : List ℕ) (B : Book) : Type 0 where
  pub height : h ≤ 12
  pub entries : length T ≡ 4096
  pub in_order : InOrder h T
  pub agrees : (t : ℕ) → Agrees h (B t) (node_at T t)

-- the book and the table count the same tenant at a level
agrees_at_level : (h l : ℕ) (e : Option ℕ) (n : ℕ) → Agrees h e n → at_level e l ≡ (ltb 0 n && eqb (level h n) l)
agrees_at_level h l none n a = rw a
agrees_at_level h l (some k) n a = rw (lt-ltb 0 n a.0.above_zero, a.1)

module _ (h : ℕ) (T : List ℕ) (B : Book) (K : Kept h T B) where
  pub sound : Sound h T
  sound = record { height = K.height; entries = K.entries; in_order = (in_order_iff h T K.height).1 K.in_order }

  pub within : Within h (occupied T)
  within = occupied_within h T K.in_order.in_tree

  pub held_is_size : (l : ℕ) → sizes h (occupied T) l ≡ held B l
  unfolding tenants_at held
  held_is_size l =
      sym (tenants_are_sizes h T K.in_order.in_tree K.in_order.once l)
      ∙ tally_by_tenants _ T
      ∙ rw K.entries (count_cong 4096 _ _ (λ t q. sym (agrees_at_level h l (B t) (node_at T t) (K.agrees t))))

  pub held_is_count : (l : ℕ) → held B l ≡ get_or (counts_of h T) l 0
  held_is_count l = sym (held_is_size l) ∙ in_order_counts h T K.height K.in_order l

  -- the places are the one legal and safe set for the held sizes
  pub only_safe_set : (A : Nodes) → Within h A → Legal A → Safe h A → ((l : ℕ) → sizes h A l ≡ held B l) → (n : ℕ) → A n ≡ occupied T n
  only_safe_set A w l s e n =
      safe_set_is_layout h (counts_of h T) A w l s (λ m. e m ∙ held_is_count m) n
      ∙ sym (in_order_is_layout h T K.height K.in_order n)

  pub level_in_counts : (l : ℕ) → l ≤ h → l < length (counts_of h T)
  level_in_counts l l≤h = rw (counts_length h T) (omega (arith, K.height))

-- ---- sets with given sizes

-- sizes with more pages than the reserve has no legal set has, and all others the layout has
module _ (h : ℕ) (cs : List ℕ) (sized : ℕ → ℕ) (same : (m : ℕ) → sized m ≡ get_or cs m 0) where
  pub no_room_no_set : 2 ^ h < pages cs → NoLegalSet h sized
  no_room_no_set over A w e legal = omega (arith, legal_set_fits h cs A w legal (λ m. e m ∙ same m))

  pub room_some_set : pages cs ≤ 2 ^ h → ¬ NoLegalSet h sized
  room_some_set fits none_legal =
      none_legal (layout_set h cs) (layout_in_tree h cs) (λ m. layout_has_counts h cs fits m ∙ sym (same m)) (layout_is_legal h cs fits)
