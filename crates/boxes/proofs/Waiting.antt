-- What is promised to those who wait.
use mathlib.Core.Path.{◌≡◌, refl, sym, ap, subst, ◌∙◌}
use mathlib.Core.Bool.{Bool, true, false}
use mathlib.Core.List.{List}
use mathlib.Core.Option.{Option, some, none}
use Prim.Native.Nat.{ℕ, zero, suc, ◌+◌, ◌^◌, ◌≤◌, ◌<◌, zero-le}
use native.Mathlib.Nat.{zero-add, le_antisymm}
use native.Mathlib.Omega.{arith}
use native.Mathlib.Decide.{dec_lt, dec_le}
use borrow.Author.Tests.{le-ltb, lt-ltb, lt-leb, le-leb, leb-true}
use lib.Dec.{leb}
use lib.ListN.{length}
use lib.Seq.{ext_get_or}
use Rattle.layout.specs.Layout.{pages}
use Rattle.table.specs.Table.{node_at, counts_of, tabulate}
use Rattle.table.proofs.Order.{counts_length}
use Rattle.table.proofs.Tabulate.{get_d_tabulate, tabulate_length}
use Rattle.line.specs.Line.{Waiting, waiting_in, at_place}
use Rattle.line.specs.Order.{waits, Orderly}
use Rattle.line.specs.Changes.{once_more, leave, place_chosen}
use Rattle.line.proofs.Numbers.{read_of_line}
use Rattle.line.proofs.Ordered.{orderly_at}
use Rattle.line.proofs.Places.{waits_at, chosen_fits, seldom_before_chosen}
use Rattle.rules.specs.Call.{Call as Direct}
use Rattle.rules.specs.Step.{Outcome as TableOutcome, step as table_step}
use Rattle.rules.specs.History.{held}
use Rattle.rules.proofs.Accepted.{after_grant}
use Rattle.rules.proofs.Cases.{Granted}
use Rattle.rules.proofs.Kept.{held_is_count}
use Rattle.rules.proofs.Answers.{has_node, has_nothing}
use Rattle.admission.specs.Call.{State, join, admit, withdraw}
use Rattle.admission.specs.Step.{Outcome, on_table, fits, step}
use Rattle.boxes.specs.History.{Book, reply, enter, state_from}
use Rattle.boxes.specs.Demand.{line_by, pages_held, Lacks, MayEnter, Idle, Admits, admits, Line}
use Rattle.admission.proofs.Direct.{SoundState}
use Rattle.admission.proofs.Demand.{demand_2}
use Rattle.admission.proofs.Numbers.{join_answer, withdraw_answer, admit_refused}
use Rattle.boxes.proofs.Choosing.{chosen_by}
use Rattle.boxes.proofs.Leaving.{length_left}
use Rattle.admission.proofs.Standing.{waiting_holds_none}
use Rattle.boxes.proofs.Kept.{Kept, sound_state}
use Rattle.admission.proofs.Admits.{place_in, chosen_in, grant_to, is_granted, admits_somebody, admits_nobody}
use Rattle.boxes.proofs.Admitting.{admit_kept}

-- a block that is given has a node
given_node : (h : ℕ) (T : List ℕ) (c : Direct) (l : ℕ) → Granted h T c l → 0 < (table_step h T c).node
given_node h T c l g = (after_grant h T c (ap (λ (o : TableOutcome). o.answer) g.outcome) l g).placed.a_node

module _ (h : ℕ) (S : State) (B : Book) (K : Kept h S B) where
  pub orderly : Orderly h S.table (line_by B)
  orderly = subst (Orderly h S.table) K.says K.line.orderly

  -- the book and the line say alike who waits
  pub in_line : (t : ℕ) (b : Bool) → waits t (line_by B) ≡ b → waits t (waiting_in S.line) ≡ b
  in_line t b e = ap (waits t) K.says ∙ e

  pub none_held : (t : ℕ) → waits t (line_by B) ≡ true → node_at S.table t ≡ 0
  none_held t e = waiting_holds_none h S.table (line_by B) orderly t e

  -- ---- joins and withdrawals

  holder_joins : (t l k : ℕ) → t < 4096 → l ≤ h → B.holdings t ≡ some k → (step h S (join t l)).answer ≡ 8
  holder_joins t l k p q e =
      join_answer h S (sound_state h S B K) t l
      ∙ rw (le-ltb 4095 t (omega arith), le-ltb h l q, lt-ltb 0 (node_at S.table t) (has_node h S.table B.holdings K.table t k e))

  waiting_joins : (t l : ℕ) → t < 4096 → l ≤ h → waits t (line_by B) ≡ true → (step h S (join t l)).answer ≡ 18
  waiting_joins t l p q e =
      join_answer h S (sound_state h S B K) t l
      ∙ rw (le-ltb 4095 t (omega arith), le-ltb h l q, none_held t e, in_line t true e)

  full_line : (t l : ℕ) → t < 4096 → l ≤ h → B.holdings t ≡ none → waits t (line_by B) ≡ false → length (line_by B) ≡ 64
      → (step h S (join t l)).answer ≡ 17
  full_line t l p q n e full =
      let long : 64 ≤ length (waiting_in S.line) = rw K.says (omega (arith, full)) in
      join_answer h S (sound_state h S B K) t l
      ∙ rw (
        le-ltb 4095 t (omega arith),
        le-ltb h l q,
        has_nothing h S.table B.holdings K.table t n,
        in_line t false e,
        le-leb 64 (length (waiting_in S.line)) long,
      )

  other_joins : (t l : ℕ) → t < 4096 → l ≤ h → B.holdings t ≡ none → waits t (line_by B) ≡ false → length (line_by B) < 64
      → (step h S (join t l)).answer ≡ 0
  other_joins t l p q n e room =
      let short : length (waiting_in S.line) < 64 = rw K.says room in
      join_answer h S (sound_state h S B K) t l
      ∙ rw (
        le-ltb 4095 t (omega arith),
        le-ltb h l q,
        has_nothing h S.table B.holdings K.table t n,
        in_line t false e,
        lt-leb 64 (length (waiting_in S.line)) short,
      )

  waiting_withdraws : (t : ℕ) → t < 4096 → waits t (line_by B) ≡ true → (step h S (withdraw t)).answer ≡ 0
  waiting_withdraws t p e = withdraw_answer h S (sound_state h S B K) t ∙ rw (le-ltb 4095 t (omega arith), in_line t true e)

  other_withdraws : (t : ℕ) → t < 4096 → waits t (line_by B) ≡ false → (step h S (withdraw t)).answer ≡ 9
  other_withdraws t p e = withdraw_answer h S (sound_state h S B K) t ∙ rw (le-ltb 4095 t (omega arith), in_line t false e)

  -- ---- who may enter

  -- the pages held by the book are those of the table
  pages_are_held : pages_held B.holdings ≡ pages (counts_of h S.table)
  pages_are_held =
      ap pages (ext_get_or 0 (tabulate 0 13 (held B.holdings)) (counts_of h S.table)
      (tabulate_length 0 13 (held B.holdings) ∙ sym (counts_length h S.table))
      (λ i p. get_d_tabulate 0 13 (held B.holdings) i (rw (tabulate_length 0 13 (held B.holdings)) at p)
      ∙ ap (held B.holdings) (zero-add i)
      ∙ held_is_count h S.table B.holdings K.table i))

  fits_by_book : (l : ℕ) → fits h S.table l ≡ leb (pages_held B.holdings + 2 ^ l) (2 ^ h)
  fits_by_book l = rw pages_are_held

  same_place : place_in h S ≡ place_chosen (fits h S.table) (line_by B)
  same_place = ap (place_chosen (fits h S.table)) K.says

  -- the one that is chosen may enter
  chosen_may : place_chosen (fits h S.table) (line_by B) < length (line_by B) → MayEnter h B (place_chosen (fits h S.table) (line_by B))
  chosen_may p =
      let l = (at_place (line_by B) (place_chosen (fits h S.table) (line_by B))).level in
      record {
        in_line = p;
        fits = leb-true (pages_held B.holdings + 2 ^ l) (2 ^ h) (sym (fits_by_book l) ∙ chosen_fits (fits h S.table) (line_by B) p _);
        not_barred = λ i q. seldom_before_chosen (fits h S.table) (line_by B) p i _ q;
      }

  -- and nobody in front of one that may enter is passed over
  chosen_first : (k : ℕ) → MayEnter h B k → place_chosen (fits h S.table) (line_by B) ≤ k
  chosen_first k e =
      let l = (at_place (line_by B) k).level in
      chosen_by (fits h S.table) (line_by B) k _ e.in_line (fits_by_book l ∙ le-leb (pages_held B.holdings + 2 ^ l) (2 ^ h) e.fits)
      e.not_barred

  -- ---- admits

  inside_table : (p : place_chosen (fits h S.table) (line_by B) < length (line_by B)) → place_in h S < length (waiting_in S.line)
  inside_table p = rw K.says p

  module _ (m : ℕ) (enough : 4 ≤ m) where
    admits_chosen : (k : ℕ) → place_chosen (fits h S.table) (line_by B) ≡ k → k < length (line_by B)
        → Admits h S m (at_place (line_by B) k) (step h S (admit m))
    admits_chosen k e p =
        let there : place_in h S < length (waiting_in S.line) = inside_table (rw e p) in
        let o = admits_somebody h S (sound_state h S B K) m enough there in
        let w : chosen_in h S ≡ at_place (line_by B) k =
        ap (λ (W : List Waiting). at_place W (place_chosen (fits h S.table) W)) K.says ∙ ap (at_place (line_by B)) e in
        let g = is_granted h S (sound_state h S B K) m enough there in
        subst (λ (v : Waiting). Admits h S m v (step h S (admit m))) w (record {
          answer = ap (λ (x : Outcome). x.answer) o ∙ ap (λ (x : TableOutcome). x.answer) g.outcome;
          named = ap (λ (x : Outcome). x.named) o;
          a_node = rw o (given_node h S.table (grant_to (chosen_in h S) m) (chosen_in h S).level g);
          as_direct = ap on_table o;
        })

    admits_first : (k : ℕ) → MayEnter h B k → ((i : ℕ) → i < k → ¬ MayEnter h B i) → Admits h S m (at_place (line_by B) k) (step h S (admit m))
    admits_first k e none_before =
        let first = chosen_first k e in
        let not_before : ¬ (place_chosen (fits h S.table) (line_by B) < k) =
        λ p. none_before (place_chosen (fits h S.table) (line_by B)) p (chosen_may (omega (arith, e.in_line))) in
        admits_chosen k (le_antisymm first (omega (arith, not_before))) e.in_line

    idle : ¬ (place_chosen (fits h S.table) (line_by B) < length (line_by B)) → Idle S (step h S (admit m))
    idle out =
        rw (admits_nobody h S (sound_state h S B K) m enough (λ p. out (rw (sym K.says) p)))
        (record { answer = refl; node = refl; named = refl; moves = refl; state = refl })

    nobody_enters : ((k : ℕ) → ¬ MayEnter h B k) → Idle S (step h S (admit m))
    nobody_enters none_may = idle (λ p. none_may (place_chosen (fits h S.table) (line_by B)) (chosen_may p))

  -- an admit that is not refused has move entries enough
  not_refused : (m : ℕ) → (step h S (admit m)).answer ≡ 0 → 4 ≤ m
  not_refused m e = go (dec_lt m 4)
    where
      go : Dec (m < 4) → 4 ≤ m
      go (yes few) = absurd (omega (arith, e, ap (λ (x : Outcome). x.answer) (admit_refused h S (sound_state h S B K) m few)))
      go (no enough) = omega arith

  node_0 : (m : ℕ) → (step h S (admit m)).answer ≡ 0 → (step h S (admit m)).node ≡ 0 → (k : ℕ) → ¬ MayEnter h B k
  node_0 m e z k may =
      let enough = not_refused m e in
      let p : place_chosen (fits h S.table) (line_by B) < length (line_by B) = omega (arith, chosen_first k may, may.in_line) in
      omega (arith, z, (admits_chosen m enough (place_chosen (fits h S.table) (line_by B)) refl p).a_node)

  oldest_lacks : (m k : ℕ) → (step h S (admit m)).answer ≡ 0 → (step h S (admit m)).node ≡ 0 → k < length (line_by B)
      → (at_place (line_by B) k).passed ≡ 8 → ((i : ℕ) → i < k → (at_place (line_by B) i).passed < 8)
      → Lacks h B.holdings (at_place (line_by B) k).level
  oldest_lacks m k e z p eight before = go (dec_le (pages_held B.holdings + 2 ^ (at_place (line_by B) k).level) (2 ^ h))
    where
      go : Dec (pages_held B.holdings + 2 ^ (at_place (line_by B) k).level ≤ 2 ^ h) → Lacks h B.holdings (at_place (line_by B) k).level
      go (yes fit) = absurd (node_0 m e z k (record { in_line = p; fits = fit; not_barred = before }))
      go (no full) = omega arith

-- ---- whom an admit names, and what a refusal leaves

-- a number for whom an admit named: 0 for nobody
abbrev pub name : Option ℕ → ℕ
name none = 0
name (some t) = suc t

module _ (h : ℕ) (S : State) (B : Book) (K : Kept h S B) where
  names_waiting : (m t : ℕ) → (step h S (admit m)).named ≡ some t → (t < 4096) × (waits t (line_by B) ≡ true)
  names_waiting m t named = by_entries (dec_lt m 4)
    where
      nobody_named : (o : Outcome) → step h S (admit m) ≡ o → o.named ≡ none → ⊥
      nobody_named o e n = omega (arith, ap name (sym n ∙ sym (ap (λ (x : Outcome). x.named) e) ∙ named))

      by_place : 4 ≤ m → Dec (place_in h S < length (waiting_in S.line)) → (t < 4096) × (waits t (line_by B) ≡ true)
      by_place enough (yes there) =
          let is : (chosen_in h S).tenant ≡ t =
          omega (arith, ap name (sym (ap (λ (x : Outcome). x.named) (admits_somebody h S (sound_state h S B K) m enough there)) ∙ named)) in
          let may = orderly_at h S.table K.line.orderly (place_in h S) (record { tenant = 0; level = 0; passed = 0 }) there in (
            omega (arith, may.tenant),
            ap (waits t) (sym K.says) ∙ ap (λ (u : ℕ). waits u (waiting_in S.line)) (sym is)
                ∙ waits_at (waiting_in S.line) (place_in h S) _ there,
          )
      by_place enough (no out) = absurd (nobody_named _ (admits_nobody h S (sound_state h S B K) m enough out) refl)

      by_entries : Dec (m < 4) → (t < 4096) × (waits t (line_by B) ≡ true)
      by_entries (yes few) = absurd (nobody_named _ (admit_refused h S (sound_state h S B K) m few) refl)
      by_entries (no enough) = by_place (omega arith) (dec_lt (place_in h S) (length (waiting_in S.line)))

-- ---- admits in a row

-- an admit that grants somebody leaves one fewer in line
one_fewer : (h : ℕ) (S : State) (B : Book) (K : Kept h S B) (m : ℕ) → 4 ≤ m → place_chosen (fits h S.table) (line_by B) < length (line_by B)
    → suc (length (line_by (enter h (admit m) (reply (step h S (admit m))) B))) ≡ length (line_by B)
one_fewer h S B K m enough p =
    let t = (chosen_in h S).tenant in
    let W = waiting_in S.line in
    let there = inside_table h S B K p in
    let K' = admit_kept h S B K m in
    let left : waiting_in (step h S (admit m)).state.line ≡ leave once_more t W =
    ap (λ (x : Outcome). waiting_in x.state.line) (admits_somebody h S (sound_state h S B K) m enough there)
    ∙ read_of_line (leave once_more t W) in
    ap (λ (U : List Waiting). suc (length U)) (sym K'.says ∙ left)
    ∙ length_left once_more t W (waits_at W (place_in h S) _ there)
    ∙ ap length K.says

ends : (N h : ℕ) (S : State) (B : Book) → Kept h S B → (m : ℕ) → 4 ≤ m → length (line_by B) ≤ N
    → (n : ℕ) × (n ≤ N) × Idle (state_from h S (admits n m)) (step h (state_from h S (admits n m)) (admit m))
unfolding state_from
ends zero h S B K m enough few = (0, zero-le, idle h S B K m enough (λ p. absurd (omega arith)))
ends (suc N) h S B K m enough few =
    go (dec_lt (place_chosen (fits h S.table) (line_by B)) (length (line_by B)))
    (λ p. ends N h (step h S (admit m)).state (enter h (admit m) (reply (step h S (admit m))) B) (admit_kept h S B K m) m enough
    (omega (arith, one_fewer h S B K m enough p)))
  where
    go : Dec (place_chosen (fits h S.table) (line_by B) < length (line_by B))
        → (place_chosen (fits h S.table) (line_by B) < length (line_by B)
        → (n : ℕ) × (n ≤ N) × Idle (state_from h (step h S (admit m)).state (admits n m))
        (step h (state_from h (step h S (admit m)).state (admits n m)) (admit m)))
        → (n : ℕ) × (n ≤ suc N) × Idle (state_from h S (admits n m)) (step h (state_from h S (admits n m)) (admit m))
    go (yes p) rest = let r = rest p in (suc r.0, omega (arith, r.1), r.2)
    go (no out) rest = (0, zero-le, idle h S B K m enough out)

-- ---- calls that are not valid

module _ (h : ℕ) (S : State) (s : SoundState h S) where
  join_tenant : (t l : ℕ) → 4095 < t → (step h S (join t l)).answer ≡ 4
  join_tenant t l p = join_answer h S s t l ∙ rw (lt-ltb 4095 t p)

  join_level : (t l : ℕ) → t ≤ 4095 → h < l → (step h S (join t l)).answer ≡ 5
  join_level t l p q = join_answer h S s t l ∙ rw (le-ltb 4095 t p, lt-ltb h l q)

  admit_entries : (m : ℕ) → m < 4 → (step h S (admit m)).answer ≡ 3
  admit_entries m p = ap (λ (o : Outcome). o.answer) (admit_refused h S s m p)

  withdraw_tenant : (t : ℕ) → 4095 < t → (step h S (withdraw t)).answer ≡ 4
  withdraw_tenant t p = withdraw_answer h S s t ∙ rw (lt-ltb 4095 t p)

pub waiting : (h : ℕ) (S : State) (B : Book) → Kept h S B → Line h S B
waiting h S B K = record {
  in_order = K.line;
  true_line = K.says;
  seldom = λ k p. (orderly_at h S.table (orderly h S B K) k _ p).passed;
  join_tenant = join_tenant h S (sound_state h S B K);
  join_level = join_level h S (sound_state h S B K);
  admit_entries = admit_entries h S (sound_state h S B K);
  withdraw_tenant = withdraw_tenant h S (sound_state h S B K);
  holder_joins = holder_joins h S B K;
  waiting_joins = waiting_joins h S B K;
  full_line = full_line h S B K;
  other_joins = other_joins h S B K;
  waiting_withdraws = waiting_withdraws h S B K;
  other_withdraws = other_withdraws h S B K;
  admits_first = λ m k enough. admits_first h S B K m enough k;
  names_waiting = names_waiting h S B K;
  admits_nobody = nobody_enters h S B K;
  node_0 = node_0 h S B K;
  oldest_lacks = oldest_lacks h S B K;
  refused_keeps = λ c ne. ((demand_2 h S).refuses c ne).state;
  end = λ m enough. ends 64 h S B K m enough (rw (sym K.says) K.line.few);
}
