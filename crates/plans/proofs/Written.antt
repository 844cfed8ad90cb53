-- To carry out the list of moves, entry by entry, is to bring everybody into the new set.
use mathlib.Core.Path.{◌≡◌, refl, sym, ap, ◌∙◌}
use mathlib.Core.List.{List, [], ◌∷◌, map}
use mathlib.Core.List.Memᴰ.{head as at_head}
use mathlib.Core.List.Memᴰ.{tail as in_Tail}
use mathlib.Core.List.{Memᴰ as In}
use mathlib.Core.List.Memᴰ.{cases_cons as head_or_tail}
use mathlib.Core.List.Memᴰ.{not-nil}
use mathlib.Core.List.Memᴰ.{map as in_map}
use mathlib.Core.List.Memᴰ.{of_map}
use mathlib.Core.Logic.{◌⊎◌, inl, inr}
use Prim.Native.Nat.{ℕ, ◌<◌}
use native.Mathlib.Nat.{eq-zero-or-pos}
use native.Mathlib.Decide.{ℕ_discrete}
use lib.ListN.{length, get_or, set, length-set}
use lib.Seq.{get_or-set_same, get_or-set_other, ext_get_or}
use Rattle.tree.specs.Held.{Nodes}
use Rattle.table.specs.Table.{node_at}
use Rattle.table.specs.Pairing.{moved, moves_of, written}
use Rattle.plans.specs.Plan.{no_move}
use Rattle.table.specs.declared.Move.{Move}
use Rattle.table.proofs.Distinct.{Distinct, at_place}
use Rattle.table.proofs.Moved.{Movable, moved_length, moved_nothing}
use Rattle.table.proofs.Moves.{of_moves, move_of, distinct_tenants}

pub written_length : (T : List ℕ) (ms : List Move) → length (written T ms) ≡ length T
unfolding written
written_length T [] = refl
written_length T (m ∷ ms) = written_length (set T m.tenant m.to) ms ∙ length-set T m.tenant m.to

abbrev tenants : List Move → List ℕ
tenants ms = map (λ m. m.tenant) ms

written_beside : (T : List ℕ) (ms : List Move) (t : ℕ) → ¬ In t (tenants ms) → get_or (written T ms) t 0 ≡ get_or T t 0
unfolding written
written_beside T [] t out = refl
written_beside T (m ∷ ms) t out =
    written_beside (set T m.tenant m.to) ms t (λ k. out (in_Tail k)) ∙ get_or-set_other T m.tenant t m.to 0 (λ e. out (at_head e))

written_at : (T : List ℕ) (ms : List Move) → Distinct (tenants ms) → (m : Move) → In m ms → m.tenant < length T
    → get_or (written T ms) m.tenant 0 ≡ m.to
unfolding written
written_at T (x ∷ ms) d m (at_head e) q =
    written_beside (set T x.tenant x.to) ms m.tenant (λ k. d.0 (rw (ap (λ (y : Move). y.tenant) e) at k))
    ∙ rw (← e) (get_or-set_same T m.tenant m.to 0 q)
written_at T (x ∷ ms) d m (in_Tail k) q = written_at (set T x.tenant x.to) ms d.1 m k (rw (length-set T x.tenant x.to) q)
written_at T [] d m x3 q = elim x3 [ ]

in_list? : (t : ℕ) (ts : List ℕ) → Dec (In t ts)
in_list? t [] = no not-nil
in_list? t (x ∷ ts) = go (ℕ_discrete t x) (in_list? t ts)
  where
    either_way : ¬ (t ≡ x) → ¬ In t ts → (t ≡ x) ⊎ In t ts → ⊥
    either_way ne out (inl e) = ne e
    either_way ne out (inr k) = out k

    go : Dec (t ≡ x) → Dec (In t ts) → Dec (In t (x ∷ ts))
    go (yes e) d = yes (at_head e)
    go (no ne) (yes k) = yes (in_Tail k)
    go (no ne) (no out) = no (λ k. either_way ne out (head_or_tail k))

module _ {h : ℕ} {N : Nodes} {T : List ℕ} (M : Movable h N T) where
  -- a tenant of no move stays where it is
  stays_put : (t : ℕ) → ¬ In t (tenants (moves_of h N T)) → node_at (moved h N T) t ≡ node_at T t
  stays_put t out = go (ℕ_discrete (node_at (moved h N T) t) (node_at T t)) (eq-zero-or-pos (node_at T t))
    where
      listed : (i : ℕ) × (i < length (moves_of h N T)) × ((get_or (moves_of h N T) i no_move).tenant ≡ t) → In t (tenants (moves_of h N T))
      listed (i, q, e) = rw e at (in_map (λ (m : Move). m.tenant) (at_place no_move (moves_of h N T) i q))

      go : Dec (node_at (moved h N T) t ≡ node_at T t) → (node_at T t ≡ 0) ⊎ (0 < node_at T t) → node_at (moved h N T) t ≡ node_at T t
      go (yes e) d = e
      go (no ne) (inl z) = moved_nothing M t z ∙ sym z
      go (no ne) (inr p) = absurd (out (listed (move_of M no_move t p ne)))

  pub written_is_moved : written T (moves_of h N T) ≡ moved h N T
  written_is_moved =
      ext_get_or 0 (written T (moves_of h N T)) (moved h N T) (written_length T (moves_of h N T) ∙ sym (moved_length h N T))
      (λ t q. go t (in_list? t (tenants (moves_of h N T))))
    where
      go : (t : ℕ) → Dec (In t (tenants (moves_of h N T))) → get_or (written T (moves_of h N T)) t 0 ≡ get_or (moved h N T) t 0
      go t (no out) = written_beside T (moves_of h N T) t out ∙ sym (stays_put t out)
      go t (yes k) =
          let r = of_map (λ (m : Move). m.tenant) (moves_of h N T) k in
          let v = of_moves M r.0 r.1 in
          rw r.2 at (written_at T (moves_of h N T) (distinct_tenants M) r.0 r.1 v.inside_table ∙ v.to_is)
