-- A call on a table whose later tenants hold nothing does what it does on the nodes of the first tenants alone. So worked examples are computed on
-- short lists.
use mathlib.Core.Path.{◌≡◌, refl, ap, ap₂, fun_ext, ◌∙◌}
use mathlib.Core.Bool.{Bool, true, false, cond, ◌&&◌, ◌||◌, false≢true, Bool-set}
use mathlib.Core.Logic.{∥∥₁_elim}
use mathlib.Core.List.{List, [], ◌∷◌, ◌++◌, map, map_congr_left, Mem, Memᴰ as In}
use mathlib.Core.Option
use mathlib.Core.Option.{Option, some, none, get_or}
use Prim.Native.Nat.{ℕ, zero, suc, ◌+◌, ◌*◌, ◌-◌, ◌^◌, ◌≤◌, ◌<◌}
use native.Mathlib.Nat.{add-zero, add-suc}
use native.Mathlib.Omega.{arith}
use borrow.Author.Tests.{eqb-true, ne_eqb, lt-ltb, leb-true}
use lib.Dec.{eqb, ltb, leb, eqb-zero-suc, eqb-suc-suc}
use lib.ListN.{length, set, replicate, length-append, length-replicate, length-set}
use lib.Pow.{pow_pos}
use lib.Seq.{set-append_left}
use Rattle.tree.specs.Node.{level}
use Rattle.tree.specs.Held.{Nodes, one_if}
use Rattle.tree.proofs.Sets.{both_left, both_right}
use Rattle.layout.specs.Set.{layout_set}
use Rattle.layout.specs.Change.{one_block_more}
use Rattle.table.specs.Table.{node_at, stands, occupied, tally, tabulate, counts_of, in_order?}
use Rattle.table.specs.Pairing.{leavers, places, Shift, shifts, goes, owner_of, newcomer, moved, moves_of}
use Rattle.table.proofs.Keep.{of_leavers}
use Rattle.table.proofs.Pair.{pair_from_in, Goes, stays, moves, goes_by}
use Rattle.table.proofs.Shifts.{of_shifts_from}
use Rattle.table.proofs.Occupied.{occupied_above_zero}
use Rattle.table.proofs.Moved.{moved_length}
use Rattle.sizes.specs.Level.{level_for}
use Rattle.line.specs.Line.{Waiting, line_of, waiting_in}
use Rattle.line.specs.Order.{orderly?, line_in_order?}
use Rattle.line.specs.Changes.{choose}
use Rattle.rules.specs.Call.{Call as Direct, grant_level, grant_pages, release, grow, tenant_of}
use Rattle.rules.specs.Step.{Outcome as TableOutcome, Check, check, first, repeats, granted, repeated, block_for, counts_but}
use Rattle.rules.specs.Step.{checks as table_checks, accepted as table_accepted, unless as table_unless, step as table_step}
use Rattle.rules.proofs.Given.{accepted_answer}
use Rattle.admission.specs.Call.{State, Call, direct, join, admit, withdraw}
use Rattle.admission.specs.Step.{Outcome, checks, with_line, line_after, fits, admission, accepted, unless, step}
use Rattle.admission.specs.Examples.{Row, state_with, outcome_of, AsWritten}

-- the nodes of the first tenants, and k more tenants that hold nothing
abbrev padded : ℕ → List ℕ → List ℕ
padded k ns = ns ++ replicate k 0

-- ---- lists

node_padded : (k : ℕ) (ns : List ℕ) (t : ℕ) → node_at (padded k ns) t ≡ node_at ns t
node_padded zero [] t = refl
node_padded (suc k) [] zero = refl
node_padded (suc k) [] (suc t) = node_padded k [] t
node_padded k (n ∷ ns) zero = refl
node_padded k (n ∷ ns) (suc t) = node_padded k ns t

stands_padded : (k : ℕ) (ns : List ℕ) (n : ℕ) → stands (padded k ns) (suc n) ≡ stands ns (suc n)
unfolding stands
stands_padded zero [] n = refl
stands_padded (suc k) [] n = rw (eqb-zero-suc n) (stands_padded k [] n)
stands_padded k (e ∷ ns) n = rw (stands_padded k ns n)

owner_padded : (k : ℕ) (ns : List ℕ) (n : ℕ) → stands ns n ≡ true → owner_of (padded k ns) n ≡ owner_of ns n
unfolding stands
owner_padded k [] n there = absurd (false≢true there)
owner_padded k (e ∷ ns) n there = by_test (eqb e n) there (owner_padded k ns n)
  where
    by_test : (b : Bool) → (b || stands ns n) ≡ true → (stands ns n ≡ true → owner_of (padded k ns) n ≡ owner_of ns n)
        → cond b 0 (suc (owner_of (padded k ns) n)) ≡ cond b 0 (suc (owner_of ns n))
    by_test true s rest = refl
    by_test false s rest = ap suc (rest s)

tally_padded : (k : ℕ) (ns : List ℕ) (p : ℕ → Bool) (v : Bool) → p 0 ≡ v → tally p (padded k ns) ≡ tally p ns + k * one_if v
unfolding tally
tally_padded zero [] p v e = omega arith
tally_padded (suc k) [] p v e = rw e (omega (arith, tally_padded k [] p v e))
tally_padded k (n ∷ ns) p v e = omega (arith, tally_padded k ns p v e)

map_padded : (k : ℕ) (ns : List ℕ) (f : ℕ → ℕ) → f 0 ≡ 0 → map f (padded k ns) ≡ padded k (map f ns)
map_padded zero [] f e = refl
map_padded (suc k) [] f e = rw (e, map_padded k [] f e)
map_padded k (n ∷ ns) f e = rw (map_padded k ns f e)

orderly_padded : (h k : ℕ) (ns : List ℕ) (W : List Waiting) → orderly? h (padded k ns) W ≡ orderly? h ns W
unfolding orderly?
orderly_padded h k ns [] = refl
orderly_padded h k ns (w ∷ W) = rw (node_padded k ns w.tenant, orderly_padded h k ns W)

-- ---- what the table says

eqb_add_right : (a b k : ℕ) → eqb (a + k) (b + k) ≡ eqb a b
eqb_add_right a b zero = rw (add-zero a, add-zero b)
eqb_add_right a b (suc k) = rw (add-suc a k, add-suc b k, eqb-suc-suc (a + k) (b + k)) (eqb_add_right a b k)

-- shifts are from nodes of the old set
from_old : (h : ℕ) (S N : Nodes) (s : Shift) → In s (shifts h S N) → S s.from ≡ true
unfolding shifts
from_old h S N s m =
    let r = of_shifts_from h S N 0 (suc h) s m in
    (of_leavers h S N r.0 (omega (arith, r.2)) s.from (pair_from_in (leavers h S N r.0) (places h S N r.0) s r.3)).held

module _ (h k : ℕ) (ns : List ℕ) where
  same_tally : (p : ℕ → Bool) → p 0 ≡ false → tally p (padded k ns) ≡ tally p ns
  same_tally p fails = omega (arith, tally_padded k ns p false fails)

  same_counts : counts_of h (padded k ns) ≡ counts_of h ns
  unfolding counts_of
  same_counts = ap (tabulate 0 13) (fun_ext (λ l. same_tally (λ n. ltb 0 n && eqb (level h n) l) refl))

  same_order : in_order? h (padded k ns) ≡ in_order? h ns
  unfolding in_order?
  same_order = simp (same_counts, all_in_tree, at_node)
    where
      all_in_tree : eqb (tally (λ n. ltb n (2 ^ suc h)) (padded k ns)) (tally (λ n. true) (padded k ns))
          ≡ eqb (tally (λ n. ltb n (2 ^ suc h)) ns) (tally (λ n. true) ns)
      all_in_tree =
          rw (tally_padded k ns (λ n. ltb n (2 ^ suc h)) true (lt-ltb 0 (2 ^ suc h) (pow_pos (suc h))), tally_padded k ns (λ n. true) true refl)
          (eqb_add_right (tally (λ n. ltb n (2 ^ suc h)) ns) (tally (λ n. true) ns) (k * 1))

      at_node : (n m : ℕ) → (eqb n 0 || eqb (tally (eqb n) (padded k ns)) m) ≡ (eqb n 0 || eqb (tally (eqb n) ns) m)
      at_node zero m = refl
      at_node (suc n) m = rw (same_tally (eqb (suc n)) (ne_eqb (suc n) 0 (omega arith)))

  same_line : (L : List ℕ) → line_in_order? h (padded k ns) L ≡ line_in_order? h ns L
  unfolding line_in_order?
  same_line L = rw (orderly_padded h k ns (waiting_in L))

  same_repeats : (t l : ℕ) → repeats h (padded k ns) t l ≡ repeats h ns t l
  unfolding repeats
  same_repeats t l = rw (node_padded k ns t)

same_occupied : (k : ℕ) (ns : List ℕ) → occupied (padded k ns) ≡ occupied ns
unfolding occupied
same_occupied k ns = fun_ext at_node
  where
    at_node : (n : ℕ) → (ltb 0 n && stands (padded k ns) n) ≡ (ltb 0 n && stands ns n)
    at_node zero = refl
    at_node (suc n) = rw (stands_padded k ns n)

-- ---- who goes where

module _ (h k : ℕ) (N : Nodes) (ns : List ℕ) where
  abbrev old_shifts : List Shift
  old_shifts = shifts h (occupied ns) N

  moved_padded : moved h N (padded k ns) ≡ padded k (moved h N ns)
  unfolding moved
  moved_padded = rw (same_occupied k ns) (map_padded k ns (goes old_shifts) (none_from_zero (goes_by old_shifts 0)))
    where
      none_from_zero : Goes old_shifts 0 → goes old_shifts 0 ≡ 0
      none_from_zero (stays _ same) = same
      none_from_zero (moves s m from_zero there) = absurd (omega (arith, occupied_above_zero ns s.from (from_old h (occupied ns) N s m)))

  same_moves : moves_of h N (padded k ns) ≡ moves_of h N ns
  unfolding moves_of occupied
  same_moves =
      rw (same_occupied k ns) (map_congr_left (λ s m. ap (λ t. record { tenant = t; from = s.from; to = s.to; staged = 0 }) (same_owner s m)))
    where
      same_owner : (s : Shift) → Mem s old_shifts → owner_of (padded k ns) s.from ≡ owner_of ns s.from
      same_owner s m =
          let held = ∥∥₁_elim m (Bool-set (occupied ns s.from) true) (from_old h (occupied ns) N s) in
          owner_padded k ns s.from (both_right (ltb 0 s.from) (stands ns s.from) held)

-- what calls read of a table
ruleset same_table = (node_padded, same_repeats, same_counts, same_order, same_line, same_occupied, moved_padded, same_moves)

-- ---- calls on the table alone

-- the checks on a table of 4,096 entries: the second one, 2 of the table, does not apply
abbrev at_full_length : List Check → List Check
at_full_length cs = set cs 1 (check 2 false)

-- a call on the nodes of the first tenants
abbrev short_table_step : ℕ → List ℕ → Direct → TableOutcome
short_table_step h ns c = table_unless (first (at_full_length (table_checks h ns c))) ns (table_accepted h ns c)

-- an outcome with k more tenants in the table
abbrev longer_table : ℕ → TableOutcome → TableOutcome
longer_table k o = record { answer = o.answer; node = o.node; moves = o.moves; table = padded k o.table }

table_unless_padded : (k n : ℕ) (ns : List ℕ) (o : TableOutcome)
    → table_unless n (padded k ns) (longer_table k o) ≡ longer_table k (table_unless n ns o)
table_unless_padded k zero ns o = refl
table_unless_padded k (suc n) ns o = refl

granted_padded : (h k : ℕ) (ns : List ℕ) (N : Nodes) (t l : ℕ) → t < length ns
    → granted h (padded k ns) N t l ≡ longer_table k (granted h ns N t l)
granted_padded h k ns N t l p =
    let n : ℕ = newcomer h (occupied ns) N l in
    simp (same_table, set-append_left (moved h N ns) (replicate k 0) t n (rw (moved_length h N ns) p))

module _ (h k : ℕ) (ns : List ℕ) where
  block_padded : (t l : ℕ) → t < length ns → block_for h (padded k ns) t l ≡ longer_table k (block_for h ns t l)
  block_padded t l p = rw (same_repeats h k ns t l, same_counts h k ns, node_padded k ns t) (by_test (repeats h ns t l))
    where
      N : Nodes
      N = layout_set h (one_block_more (counts_of h ns) l)

      by_test : (b : Bool) → cond b (repeated (padded k ns) (node_at ns t)) (granted h (padded k ns) N t l)
          ≡ longer_table k (cond b (repeated ns (node_at ns t)) (granted h ns N t l))
      by_test true = refl
      by_test false = granted_padded h k ns N t l p

  table_accepted_padded : (c : Direct) → tenant_of c < length ns → table_accepted h (padded k ns) c ≡ longer_table k (table_accepted h ns c)
  table_accepted_padded (grant_level t l m) p = block_padded t l p
  table_accepted_padded (grant_pages t p m) q = block_padded t (level_for h p) q
  table_accepted_padded (release t m) p = simp (set-append_left ns (replicate k 0) t 0 p, same_table)
  table_accepted_padded (grow t l m) p =
      rw (set-append_left ns (replicate k 0) t 0 p, same_counts h k ns, node_padded k ns t)
      (granted_padded h k (set ns t 0) (layout_set h (one_block_more (counts_but h ns t) l)) t l (rw (length-set ns t 0) p))

-- ---- calls on table and line

-- an admit grants as a call on the nodes of the first tenants does
abbrev short_admission : ℕ → State → ℕ → Option Waiting → Outcome
short_admission h S m none = admission h S m none
short_admission h S m (some w) =
    with_line (short_table_step h S.table (grant_level w.tenant w.level m)) (some w.tenant) (admission h S m (some w)).state.line

abbrev short_accepted : ℕ → State → Call → Outcome
short_accepted h S (direct c) = accepted h S (direct c)
short_accepted h S (join t l) = accepted h S (join t l)
short_accepted h S (admit m) = short_admission h S m (choose (fits h S.table) (waiting_in S.line))
short_accepted h S (withdraw t) = accepted h S (withdraw t)

-- a call on a state whose table is the nodes of the first tenants
abbrev short_step : ℕ → State → Call → Outcome
short_step h S c = unless (first (at_full_length (checks h S c))) S (short_accepted h S c)

-- how many of the first tenants a call takes that reported this: up to the one whose entry it may have changed
abbrev reach : Call → Outcome → ℕ
reach (direct c) o = cond (eqb o.answer 0) (suc (tenant_of c)) 0
reach (join t l) o = 0
reach (admit m) o = get_or (Option.map suc o.named) 0
reach (withdraw t) o = 0

-- a state and an outcome with k more tenants
abbrev longer_state : ℕ → State → State
longer_state k S = record { table = padded k S.table; line = S.line }

abbrev longer : ℕ → Outcome → Outcome
longer k o = record { answer = o.answer; node = o.node; named = o.named; moves = o.moves; state = longer_state k o.state }

module _ (h k : ℕ) (ns L : List ℕ) (long : length ns + k ≡ 4096) where
  abbrev S : State
  S = record { table = ns; line = L }

  entries : length (padded k ns) ≡ 4096
  entries = length-append ns (replicate k 0) ∙ omega (arith, length-replicate {A = ℕ} k 0)

  checks_padded : (c : Call) → checks h (longer_state k S) c ≡ at_full_length (checks h S c)
  checks_padded (direct (grant_level t l m)) = simp (entries, same_table)
  checks_padded (direct (grant_pages t p m)) = simp (entries, same_table)
  checks_padded (direct (release t m)) = simp (entries, same_table)
  checks_padded (direct (grow t l m)) = simp (entries, same_table)
  checks_padded (join t l) = simp (entries, same_table)
  checks_padded (admit m) = simp (entries, same_table)
  checks_padded (withdraw t) = simp (entries, same_table)

  line_padded : (c : Direct) → line_after h (longer_state k S) c ≡ line_after h S c
  line_padded (grant_level t l m) = simp same_table
  line_padded (grant_pages t p m) = simp same_table
  line_padded (release t m) = refl
  line_padded (grow t l m) = refl

  admission_padded : (m : ℕ) (w : Option Waiting) → reach (admit m) (short_admission h S m w) ≤ length ns
      → admission h (longer_state k S) m w ≡ longer k (short_admission h S m w)
  unfolding table_step
  admission_padded m none p = refl
  admission_padded m (some w) p =
      let c = grant_level w.tenant w.level m in
      let same_checks : table_checks h (padded k ns) c ≡ at_full_length (table_checks h ns c) = simp (entries, same_table) in
      ap (λ o. with_line o (some w.tenant) (admission h S m (some w)).state.line)
      (ap₂ (λ cs o. table_unless (first cs) (padded k ns) o) same_checks (table_accepted_padded h k ns c p)
      ∙ table_unless_padded k (first (at_full_length (table_checks h ns c))) ns (table_accepted h ns c))

  accepted_padded : (c : Call) → reach c (short_accepted h S c) ≤ length ns → accepted h (longer_state k S) c ≡ longer k (short_accepted h S c)
  accepted_padded (direct c) p =
      ap₂ (λ o M. with_line o none M) (table_accepted_padded h k ns c (rw (accepted_answer h ns c) at p)) (line_padded c)
  accepted_padded (join t l) p = refl
  accepted_padded (admit m) p =
      let same_fits : fits h (padded k ns) ≡ fits h ns = fun_ext (λ l. rw (same_counts h k ns)) in
      ap (λ f. admission h (longer_state k S) m (choose f (waiting_in L))) same_fits ∙ admission_padded m (choose (fits h ns) (waiting_in L)) p
  accepted_padded (withdraw t) p = refl

  step_padded : (c : Call) → reach c (short_step h S c) ≤ length ns → step h (longer_state k S) c ≡ longer k (short_step h S c)
  unfolding step
  step_padded c p = rw (checks_padded c) (by_number (first (at_full_length (checks h S c))) p)
    where
      by_number : (n : ℕ) → reach c (unless n S (short_accepted h S c)) ≤ length ns
          → unless n (longer_state k S) (accepted h (longer_state k S) c) ≡ longer k (unless n S (short_accepted h S c))
      by_number zero p = accepted_padded c p
      by_number (suc n) p = refl

-- ---- rows

-- a state and an outcome in which the table is the nodes of the first tenants
abbrev short_state : List ℕ → List Waiting → State
short_state ns W = record { table = ns; line = line_of W }

abbrev short_outcome : Row → Outcome
short_outcome r = record { answer = r.answer; node = r.node; named = r.named; moves = r.moves; state = short_state r.nodes r.waiting }

-- the tenants of the nodes ns are enough for the row, and it says what they have afterwards
abbrev covered : List ℕ → Row → Bool
covered ns r = leb (reach r.call (short_outcome r)) (length ns) && leb (length ns) 4096 && eqb (length r.nodes) (length ns)

-- whether a row is covered, and what its call does
pub record Tried : Type 0 where
  pub covers : Bool
  pub outcome : Outcome

abbrev tried : ℕ → List ℕ → List Waiting → Row → Tried
tried h ns W r = record { covers = covered ns r; outcome = short_step h (short_state ns W) r.call }

-- each row is what `short_step` does on what the row before it left
unfoldable pub ShortRows : ℕ → List ℕ → List Waiting → List Row → Type 0
ShortRows h ns W [] = Unit {0}
ShortRows h ns W (r ∷ rs) = (tried h ns W r ≡ record { covers = true; outcome = short_outcome r }) × ShortRows h r.nodes r.waiting rs

row_as_written : (h : ℕ) (ns : List ℕ) (W : List Waiting) (r : Row) → tried h ns W r ≡ record { covers = true; outcome = short_outcome r }
    → step h (state_with ns W) r.call ≡ outcome_of r
row_as_written h ns W r as_tried =
    let c = ap (λ (t : Tried). t.covers) as_tried in
    let e = ap (λ (t : Tried). t.outcome) as_tried in
    let enough = leb (reach r.call (short_outcome r)) (length ns) in
    let few = leb (length ns) 4096 in
    let as_many = eqb (length r.nodes) (length ns) in
    let first_two = both_left (enough && few) as_many c in
    let long : length ns + (4096 - length ns) ≡ 4096 = omega (arith, leb-true (length ns) 4096 (both_right enough few first_two)) in
    step_padded h (4096 - length ns) ns (line_of W) long r.call (rw e (leb-true _ (length ns) (both_left enough few first_two)))
    ∙ rw (e, eqb-true (length r.nodes) (length ns) (both_right (enough && few) as_many c))

pub as_written : (h : ℕ) (ns : List ℕ) (W : List Waiting) (rs : List Row) → ShortRows h ns W rs → AsWritten h ns W rs
unfolding ShortRows AsWritten
as_written h ns W [] s = tt
as_written h ns W (r ∷ rs) s = (row_as_written h ns W r s.0, as_written h r.nodes r.waiting rs s.1)
