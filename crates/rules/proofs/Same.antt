-- A growth to the level that the tenant has changes nothing.
use mathlib.Core.Path.{◌≡◌, refl, sym, ap, ◌∙◌}
use mathlib.Core.Bool.{not, ◌&&◌, and-true}
use mathlib.Core.List.{List}
use Prim.Native.Nat.{ℕ, suc, ◌^◌, ◌<◌}
use native.Mathlib.Decide.{ℕ_discrete}
use borrow.Author.Tests.{ne_eqb}
use lib.ListN.{length, set, length-map}
use lib.Seq.{set-set, set-get_or}
use Rattle.tree.specs.Node.{level}
use Rattle.tree.specs.Held.{Nodes}
use Rattle.tree.proofs.Count.{passes_first, fails_second}
use Rattle.tree.proofs.Sum.{count_of_none}
use Rattle.layout.specs.Set.{layout_set}
use Rattle.layout.specs.Change.{one_block_more}
use Rattle.table.specs.Table.{node_at, occupied}
use Rattle.table.specs.Pairing.{shifts, newcomer, moved, moves_of}
use Rattle.table.proofs.Order.{in_order_is_layout}
use Rattle.plans.proofs.PlanLaws.{struck_occupied}
use Rattle.table.proofs.Moved.{room_of}
use Rattle.table.proofs.Moves.{moves_counted}
use Rattle.table.proofs.Shifts.{newcomer_place}
use Rattle.carrying.specs.Order.{moves_in_order}
use Rattle.carrying.proofs.Ordered.{in_order_length}
use Rattle.rules.specs.Step.{counts_but, granted}
use Rattle.rules.specs.History.{Book}
use Rattle.rules.specs.Demand.{Unchanged}
use Rattle.rules.proofs.Kept.{Kept}
use Rattle.std.proofs.lemmas.List.{nil_from_length, map-id}
use Rattle.rules.proofs.Placing.{Coming, coming_movable, coming_one_more}
use Rattle.rules.proofs.Releasing.{counts_before}
use Rattle.rules.proofs.Reported.{struck_was_occupied}

-- where nobody has to move, the table stays
unmoved : (h : ℕ) (N : Nodes) (S : List ℕ) → length (moves_of h N S) ≡ 0 → moved h N S ≡ S
unfolding moves_of moved
unmoved h N S none =
    let still = nil_from_length (shifts h (occupied S) N) (sym (length-map (shifts h (occupied S) N) _) ∙ none) in
    rw still (map-id S)

module _ (h : ℕ) (T : List ℕ) (B : Book) (K : Kept h T B) (t : ℕ) (t<4096 : t < 4096) (holds : 0 < node_at T t) (l : ℕ)
    (same : level h (node_at T t) ≡ l) (C : Coming h T t l (set T t 0) (counts_but h T t)) where
  abbrev new_set : Nodes
  new_set = layout_set h (one_block_more (counts_but h T t) l)

  abbrev struck : List ℕ
  struck = set T t 0

  -- the new set is the one that is held
  as_before : (n : ℕ) → new_set n ≡ occupied T n
  as_before n =
      ap (λ (x : ℕ). layout_set h (one_block_more (counts_but h T t) x) n) (sym same)
      ∙ ap (λ (cs : List ℕ). layout_set h cs n) (counts_before h T B K t t<4096 holds)
      ∙ sym (in_order_is_layout h T K.height K.in_order n)

  nobody_moves : length (moves_of h new_set struck) ≡ 0
  nobody_moves =
      moves_counted (coming_movable C)
      ∙ count_of_none (2 ^ suc h) (λ n. occupied struck n && not (new_set n)) (λ n q e.
      fails_second (occupied struck n) (new_set n) e
      (as_before n ∙ struck_was_occupied T t n (passes_first (occupied struck n) (new_set n) e)))

  -- the one node that nobody else has
  its_own : newcomer h (occupied struck) new_set l ≡ node_at T t
  its_own = go (ℕ_discrete n (node_at T t))
    where
      n : ℕ
      n = newcomer h (occupied struck) new_set l

      go : Dec (n ≡ node_at T t) → n ≡ node_at T t
      go (yes e) = e
      go (no ne) =
          let G = coming_one_more C in
          let place = newcomer_place (room_of (coming_movable C)) l G.in_height G.grown in
          let inside_table : t < length T = rw K.entries t<4096 in
          absurd (place.not_held
          (struck_occupied T t K.in_order.once inside_table n ∙ rw (ne_eqb n (node_at T t) ne, and-true) (sym (as_before n) ∙ place.held)))

  pub same_level_unchanged : Unchanged t T (granted h struck new_set t l)
  same_level_unchanged = record {
    answer = refl;
    node = its_own;
    moves = nil_from_length (moves_in_order h (moves_of h new_set struck)) (in_order_length h (moves_of h new_set struck) ∙ nobody_moves);
    table = ap (λ (S : List ℕ). set S t (newcomer h (occupied struck) new_set l)) (unmoved h new_set struck nobody_moves)
        ∙ set-set T t 0 (newcomer h (occupied struck) new_set l)
        ∙ ap (set T t) its_own
        ∙ set-get_or T t 0;
  }
