-- From what a call does to a table to what the door reports and leaves in the bytes.
use mathlib.Core.Path.{◌≡◌, sym, ap, ◌∙◌}
use mathlib.Core.List.{List, [], ◌++◌, append-nil}
use Prim.Native.Nat.{ℕ, ◌*◌, ◌≤◌, ◌<◌}
use native.Mathlib.Omega.{arith}
use native.Mathlib.Decide.{ℕ_discrete}
use borrow.Author.Tests.{ne_eqb}
use lib.ListN.{length, take, drop, drop_of_length-le}
use lib.Seq.{length-take-le, length_front}
use Rattle.std.specs.Prelude.{Result}
use Rattle.refusal.specs.declared.Refusal.{Refusal}
use Rattle.refusal.specs.Number.{number_in}
use Rattle.rules.specs.Call.{Call}
use Rattle.rules.specs.Step.{Outcome as TableOutcome, step}
use Rattle.rules.specs.Value.{call_of, plan_in, Gives, value_of}
use Rattle.rules.specs.declared.Call.{Call as Arguments}
use Rattle.plans.proofs.PlanOf.{count_in_plan_of}
use Rattle.rules.proofs.Few as Few
use Rattle.rules.proofs.OneKind.{at_most_7}
use Rattle.rules.specs.declared.Done.{Done}
use Rattle.rules.proofs.Given.{value_given}
use Rattle.calls.proofs.Entries.{entries_of_call, moves_within, done_table}
use Rattle.image.specs.Image.{lent_as, table_of, Decoded}
use Rattle.reserve.specs.Door.{image_after, Reported, entries_in}
use Rattle.reserve.specs.declared.Outcome.{Outcome}
use Rattle.image.proofs.Images.{lent_as_none}

-- bytes that stand for n numbers are 2n
pub whole_bytes : (n : ℕ) (image : List ℕ) → 0 < n → length (lent_as n image) ≡ n → length image ≡ 2 * n
whole_bytes n image p e = go (ℕ_discrete (length image) (2 * n))
  where
    go : Dec (length image ≡ 2 * n) → length image ≡ 2 * n
    go (yes q) = q
    go (no ne) = absurd (omega (arith, sym (ap length (lent_as_none n image ne)) ∙ e))

-- ---- a call on the front of an array

-- The first k of the n numbers of an array are those that the image stands for. A call has put others in their place; if it is done, there were n.
pub record Through (n : ℕ) (image numbers after : List ℕ) (k : ℕ) (done : Type 0) : Type 0 where
  pub long : length numbers ≡ n
  pub some_numbers : 0 < n
  pub before : Decoded image numbers k
  pub kept : length after ≡ length (take k numbers)
  pub whole : done → length (lent_as n image) ≡ n

module _ {n k : ℕ} {image numbers after : List ℕ} {done : Type 0} (t : Through n image numbers after k done) where
  pub array_length : length (after ++ drop k numbers) ≡ n
  array_length = length_front numbers after k t.kept ∙ t.long

  pub image_length_done : done → length image ≡ 2 * n
  image_length_done z = whole_bytes n image t.some_numbers (t.whole z)

  -- a call that is done has changed the whole array
  pub array_done : done → after ++ drop k numbers ≡ after
  array_done z =
      let front : take k numbers ≡ lent_as n image = t.before.front ∙ ap (λ (m : ℕ). lent_as m image) t.long in
      let all : k ≡ n = omega (arith, length-take-le k numbers t.before.few, ap length front, t.whole z) in
      let none : drop k numbers ≡ [] = drop_of_length-le numbers {i = k} (omega (arith, t.long)) in
      ap (λ (l : List ℕ). after ++ l) none ∙ append-nil after

-- ---- the report

-- the table of a refused call does not matter
pub same_report : (o o' : TableOutcome) {image list : List ℕ} {r : Outcome} {image' list' : List ℕ}
    → o.answer ≡ o'.answer → o.node ≡ o'.node → o.moves ≡ o'.moves → (o.answer ≡ 0 → o.table ≡ o'.table)
    → Reported o image list r image' list' → Reported o' image list r image' list'
same_report o o' {image} {list} a n m t p = record {
  answer = p.answer ∙ a;
  node = p.node ∙ n;
  count = p.count ∙ ap length m;
  table = p.table ∙ go (ℕ_discrete o.answer 0);
  moves = p.moves ∙ rw (a, m);
}
  where
    go : Dec (o.answer ≡ 0) → image_after o image ≡ image_after o' image
    go (yes z) = rw (t z, a)
    go (no ne) = rw (← a, ne_eqb o.answer 0 ne)

-- the table that an array of 4,096 entries was read into
pub front_table : {image nodes : List ℕ} {k : ℕ} → length nodes ≡ 4096 → Decoded image nodes k → take k nodes ≡ table_of image
front_table {image} long d = d.front ∙ ap (λ (m : ℕ). lent_as m image) long

-- the moves of a call go into a plan, and into the list that it was given
pub call_room : (h : ℕ) (c : Arguments) (T list : List ℕ) {r : Result Done Refusal} {T' : List ℕ}
    → Gives (step h T (call_of c (entries_in list))) r T' → ((plan_in r).n ≤ 7) × (8 * (plan_in r).n ≤ length list)
call_room h c T list {r} met =
    let call = call_of c (entries_in list) in
    let counted = count_in_plan_of (plan_in r) (step h T call).moves met.plan in
    let few = Few.moves_few h T call in
    (omega (arith, counted, few, at_most_7 call), omega (arith, counted, entries_of_call c (entries_in list), moves_within h T call few))

-- a call that was asked of the front of the array
module _ (h : ℕ) (c : Call) {called : Result Done Refusal} {image nodes after : List ℕ} {k : ℕ}
    (long : length nodes ≡ 4096) (d : Decoded image nodes k) (kept : length after ≡ length (take k nodes))
    (given : Gives (step h (take k nodes) c) called after) where
  met_on_table : value_of called after ≡ step h (table_of image) c
  met_on_table = value_given given ∙ ap (λ (T : List ℕ). step h T c) (front_table long d)

  answer_met : number_in called ≡ (step h (table_of image) c).answer
  answer_met = ap (λ (o : TableOutcome). o.answer) met_on_table

  through : Through 4096 image nodes after k ((step h (table_of image) c).answer ≡ 0)
  through = record { long = long; some_numbers = omega arith; before = d; kept = kept; whole = done_table h (table_of image) c }

  pub call_finishes : number_in called ≡ 0 → length image ≡ 2 * length (after ++ drop k nodes)
  call_finishes z = omega (arith, array_length through, image_length_done through (sym answer_met ∙ z))

  -- what is reported of the array is what is reported of the outcome
  pub call_reported : {list : List ℕ} {r : Outcome} {image' list' : List ℕ}
      → Reported (value_of called (after ++ drop k nodes)) image list r image' list'
      → Reported (step h (table_of image) c) image list r image' list'
  call_reported p =
      same_report (value_of called (after ++ drop k nodes)) (step h (table_of image) c) answer_met (ap (λ (o : TableOutcome). o.node) met_on_table)
      (ap (λ (o : TableOutcome). o.moves) met_on_table)
      (λ z. array_done through (sym answer_met ∙ z) ∙ ap (λ (o : TableOutcome). o.table) met_on_table) p
