-- One call keeps what histories keep, and one box has everything that document 01 lists under "Histories".
use mathlib.Core.Path.{◌≡◌, refl, sym, ap, ◌∙◌}
use mathlib.Core.Bool.{true}
use mathlib.Core.List.{List, []}
use mathlib.Core.Logic.{◌↔◌}
use mathlib.Core.Option.{some}
use Prim.Native.Nat.{ℕ, suc, ◌≤◌, ◌<◌, zero-le}
use native.Mathlib.Omega.{arith}
use native.Mathlib.Decide.{ℕ_discrete}
use borrow.Author.Tests.{eq-eqb, ne_eqb}
use lib.ListN.{length, set, length-set}
use Rattle.tree.specs.Node.{level}
use Rattle.layout.specs.Set.{layout_set}
use Rattle.layout.specs.Change.{one_block_more, most_by_grant, most_by_release, most_by_growth}
use Rattle.table.specs.Table.{node_at, counts_of}
use Rattle.table.specs.Pairing.{moves_of}
use Rattle.carrying.specs.Order.{moves_in_order}
use Rattle.rules.specs.Call.{Call, tenant_of, least_entries}
use Rattle.rules.specs.Step.{Outcome, refused, counts_but, granted, repeated, step}
use Rattle.rules.specs.History.{Book, write, enter, gave_block}
use Rattle.rules.specs.Demand.{Agrees, Asks, Releases, Box, changed}
use Rattle.rules.proofs.Checks.{answer_not_valid}
use Rattle.rules.proofs.OneKind.{grants_do_not_release, grants_do_not_grow, releases_do_not_grow}
use Rattle.rules.proofs.OneKind.{grant_takes_4, release_takes_4, growth_takes_7, entered_grant, entered_release, entered_growth}
use Rattle.rules.proofs.Repeats.{gave_by_nodes}
use Rattle.rules.proofs.Kept.{Kept, sound, within, held_is_size, only_safe_set, level_in_counts}
use Rattle.rules.proofs.Answers.{holder_repeats, holder_asks, book_stays, other_asks, holder_releases, other_releases}
use Rattle.rules.proofs.Answers.{other_grows, same_level, holder_grows}
use Rattle.rules.proofs.Struck.{node_after_set, node_beside_set}
use Rattle.rules.proofs.Placing.{Coming, level_in_cs, coming_movable, coming_others, coming_kept, grant_coming}
use Rattle.rules.proofs.Releasing.{release_kept, release_movable, counts_before, level_in_fewer, growth_coming}
use Rattle.rules.proofs.Reported.{moves_are_changes, nothing_changes, listed_few, grant_moves_few, release_moves_few, growth_moves_few}
use Rattle.rules.proofs.Cases.{Granted, Repeated, Released, Grown, Case, by_grant, by_repetition, by_release, by_growth, by_refusal, case}

-- what each way reports of moves
pub record Report (h : ℕ) (T : List ℕ) (c : Call) (o : Outcome) : Type 0 where
  pub counted : length o.moves ≡ changed (tenant_of c) T o.table
  pub few_if_grant : (l : ℕ) → Asks h c l → length o.moves ≤ most_by_grant
  pub few_if_release : Releases c → length o.moves ≤ most_by_release
  pub few : length o.moves ≤ least_entries c

module _ (h : ℕ) (T : List ℕ) (B : Book) (K : Kept h T B) where
  pub of_grant : (c : Call) (l : ℕ) → Granted h T c l → Coming h T (tenant_of c) l T (counts_of h T)
  of_grant c l g = grant_coming K (tenant_of c) l g.tenant g.nothing g.in_height g.fits

  pub of_growth : (c : Call) (l : ℕ) → Grown h T c l → Coming h T (tenant_of c) l (set T (tenant_of c) 0) (counts_but h T (tenant_of c))
  of_growth c l g = growth_coming h T B K (tenant_of c) g.tenant g.holds l g.in_height g.fits

  -- a repeated grant writes down the level of the node that its tenant has
  written_again : (c : Call) (l : ℕ) → Repeated h T c l → Kept h T (write (tenant_of c) (some l) B)
  written_again c l r = record { height = K.height; entries = K.entries; in_order = K.in_order; agrees = λ u. go u (ℕ_discrete u (tenant_of c)) }
    where
      go : (u : ℕ) → Dec (u ≡ tenant_of c) → Agrees h (write (tenant_of c) (some l) B u) (node_at T u)
      go u (yes is) =
          rw (is, eq-eqb (tenant_of c) (tenant_of c) refl)
          (record { above_zero = r.holds; in_height = K.in_order.in_tree (tenant_of c) }, r.same)
      go u (no is_not) = rw (ne_eqb u (tenant_of c) is_not) (K.agrees u)

  pub kept_by_call : (c : Call) → Kept h (step h T c).table (enter h c (step h T c).answer B)
  kept_by_call c = go (case h T (sound h T B K) c)
    where
      go : Case h T c → Kept h (step h T c).table (enter h c (step h T c).answer B)
      go (by_grant l g) = rw (g.outcome, entered_grant h c l g.asks B) (coming_kept (of_grant c l g) B (λ u ne. K.agrees u))
      go (by_repetition l r) = rw (r.outcome, entered_grant h c l r.asks B) (written_again c l r)
      go (by_release r) = rw (r.outcome, entered_release h c r.asks B) (release_kept h T B K (tenant_of c) r.tenant r.holds)
      go (by_growth l g) = rw (g.outcome, entered_growth h c l g.asks B) (coming_kept (of_growth c l g) B (λ u ne. K.agrees u))
      go (by_refusal n e) = rw e K

  -- who comes counts nobody else, and so does its list
  coming_counted : {t l : ℕ} {S cs : List ℕ} (C : Coming h T t l S cs)
      → length (moves_in_order h (moves_of h (layout_set h (one_block_more cs l)) S))
      ≡ changed t T (granted h S (layout_set h (one_block_more cs l)) t l).table
  coming_counted {t} C =
      moves_are_changes (coming_movable C) T _ t C.standing.entries C.out C.beside (coming_others C)

  grant_report : (c : Call) (l : ℕ) → Granted h T c l → Report h T c (step h T c)
  grant_report c l g =
      let C = of_grant c l g in
      let few = listed_few h most_by_grant (moves_of h (layout_set h (one_block_more (counts_of h T) l)) T)
      (grant_moves_few h T l K.height K.in_order (level_in_counts h T B K l g.in_height) (coming_movable C)) in
      rw g.outcome (record {
        counted = coming_counted C;
        few_if_grant = λ k a. few;
        few_if_release = λ r. absurd (grants_do_not_release h c l g.asks r);
        few = omega (arith, few, grant_takes_4 h c l g.asks);
      })

  release_report : (c : Call) → Released h T c → Report h T c (step h T c)
  release_report c r =
      let t = tenant_of c in
      let M = release_movable h T B K t r.tenant r.holds in
      let q : t < length T = rw K.entries r.tenant in
      let few = listed_few h most_by_release (moves_of h (layout_set h (counts_but h T t)) (set T t 0))
      (release_moves_few h T t (level h (node_at T t)) (counts_but h T t) K.height K.in_order (level_in_fewer h T B K t r.tenant r.holds)
      (counts_before h T B K t r.tenant r.holds) M) in
      rw r.outcome (record {
        counted = moves_are_changes M T _ t (length-set T t 0 ∙ K.entries) (node_after_set T t 0 q) (node_beside_set T t 0) (λ u ne. refl);
        few_if_grant = λ l a. absurd (grants_do_not_release h c l a r.asks);
        few_if_release = λ _. few;
        few = omega (arith, few, release_takes_4 c r.asks);
      })

  growth_report : (c : Call) (l : ℕ) → Grown h T c l → Report h T c (step h T c)
  growth_report c l g =
      let t = tenant_of c in
      let C = of_growth c l g in
      let few = listed_few h most_by_growth (moves_of h (layout_set h (one_block_more (counts_but h T t) l)) (set T t 0))
      (growth_moves_few h T t (level h (node_at T t)) (counts_but h T t) K.height K.in_order (level_in_fewer h T B K t g.tenant g.holds)
      (counts_before h T B K t g.tenant g.holds) l (level_in_cs C) (coming_movable C)) in
      rw g.outcome (record {
        counted = coming_counted C;
        few_if_grant = λ k a. absurd (grants_do_not_grow h c k l a g.asks);
        few_if_release = λ r. absurd (releases_do_not_grow h c l r g.asks);
        few = omega (arith, few, growth_takes_7 c l g.asks);
      })

  -- without moves and with the same table
  still_report : (c : Call) (o : Outcome) → o.moves ≡ [] → o.table ≡ T → Report h T c o
  still_report c o still same = record {
    counted = ap length still ∙ sym (ap (changed (tenant_of c) T) same ∙ nothing_changes (tenant_of c) T);
    few_if_grant = λ l a. rw still zero-le;
    few_if_release = λ r. rw still zero-le;
    few = rw still zero-le;
  }

  pub report : (c : Call) → Report h T c (step h T c)
  report c = go (case h T (sound h T B K) c)
    where
      go : Case h T c → Report h T c (step h T c)
      go (by_grant l g) = grant_report c l g
      go (by_repetition l r) = rw r.outcome (still_report c (repeated T (node_at T (tenant_of c))) refl refl)
      go (by_release r) = release_report c r
      go (by_growth l g) = growth_report c l g
      go (by_refusal n e) = rw e (still_report c (refused (suc n) T) refl refl)

  gave_by_tables : (c : Call) → (gave_block (B (tenant_of c)) (enter h c (step h T c).answer B (tenant_of c)) ≡ true)
      ↔ ((node_at T (tenant_of c) ≡ 0) × (0 < node_at (step h T c).table (tenant_of c)))
  gave_by_tables c =
      let t = tenant_of c in
      let o = step h T c in
      gave_by_nodes h (B t) (enter h c o.answer B t) (node_at T t) (node_at o.table t) (K.agrees t) ((kept_by_call c).agrees t)

  pub box : Box h T B
  box = record {
    agrees = λ t q. K.agrees t;
    within = within h T B K;
    legal = K.in_order.legal;
    safe = K.in_order.safe;
    sized = held_is_size h T B K;
    only = only_safe_set h T B K;
    not_valid = answer_not_valid h T (sound h T B K);
    holder_repeats = holder_repeats h T B K;
    holder_asks = holder_asks h T B K;
    book_stays = book_stays h T B K;
    other_asks = other_asks h T B K;
    holder_releases = holder_releases h T B K;
    other_releases = other_releases h T B K;
    other_grows = other_grows h T B K;
    same_level = same_level h T B K;
    holder_grows = holder_grows h T B K;
    gave = gave_by_tables;
    moves = λ c. (report c).counted;
    grant_moves = λ c l a e. (report c).few_if_grant l a;
    release_moves = λ c r e. (report c).few_if_release r;
    growth_moves = λ c l g e. omega (arith, (report c).few, growth_takes_7 c l g);
  }
