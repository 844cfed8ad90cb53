-- A history of lent bytes is a history of the tables and lines that they stand for, so demand 3 holds of it.
use mathlib.Core.Path.{◌≡◌, refl, sym, ap, ap₂, subst, ◌∙◌}
use mathlib.Core.Bool.{Bool, true, false, cond}
use mathlib.Core.List.{List, [], ◌∷◌, ◌++◌}
use mathlib.Core.Option.{Option, some, none}
use Prim.Native.Nat.{ℕ, zero, suc, ◌<◌}
use native.Mathlib.Omega.{arith}
use borrow.Author.Tests.{eqb-false}
use lib.Dec.{eqb}
use Rattle.std.proofs.lemmas.Bool.Decides.{nat_tests}
use lib.ListN.{length}
use Rattle.table.specs.Table.{node_at}
use Rattle.rules.specs.Call.{Call as Direct, grant_level, grant_pages, release, grow, tenant_of}
use Rattle.rules.specs.Step.{Outcome as TableOutcome, first, step as table_step}
use Rattle.rules.specs.Demand.{releases, grows, Unchanged, SameFate}
use Rattle.admission.specs.Call.{State, Call, direct, join, admit, withdraw}
use Rattle.admission.specs.Step.{Outcome as Done, on_table, with_line, checks, accepted, unless, step, open_reserve}
use Rattle.admission.proofs.Direct.{release_alone, growth_alone}
use Rattle.boxes.specs.History.{History, Reply, reply, state_from, replies_from, state_after, Book, book_after}
use Rattle.boxes.specs.Demand.{Box}
use Rattle.boxes.proofs.Kept.{Kept, sound_state}
use Rattle.boxes.proofs.Histories.{history_kept}
use Rattle.boxes.proofs.Box.{box}
use Rattle.admission.proofs.Demand.{demand_2}
use Rattle.image.specs.Image.{image_of, lent_as, table_of, line_in, numbers_of}
use Rattle.image.proofs.Images.{numbers_of_their_image}
use Rattle.reserve.specs.Door.{bytes_after, entries_in, Reported, CalledOn, state_in, ReportedBehind, CalledBehind, tenant_number}
use Rattle.reserve.specs.Door.{ReportedAdmission, AdmittedOn, LineCalled, OpenedOn}
use Rattle.reserve.specs.declared.Admission.{Admission}
use Rattle.reserve.specs.declared.Outcome.{Outcome}
use Rattle.histories.specs.Listing.{book_of}
use Rattle.histories.specs.Bytes.{unnamed, naming, Exported, reserve_grant_level, reserve_grant_pages, reserve_release, reserve_grow}
use Rattle.histories.specs.Bytes.{reserve_join, reserve_withdraw, reserve_admit, Led, opened, called, SameReport, no_room, room}
use Rattle.histories.specs.Bytes.{Untouched, BytesOfBox, BytesDemand3}
use Rattle.histories.proofs.Points.{boxes_of_histories}

-- ---- one call more at the end

state_of_one_more : (h : ℕ) (S : State) (cs : List Call) (c : Call) → state_from h S (cs ++ c ∷ []) ≡ (step h (state_from h S cs) c).state
unfolding state_from
state_of_one_more h S [] c = refl
state_of_one_more h S (d ∷ cs) c = state_of_one_more h (step h S d).state cs c

replies_of_one_more : (h : ℕ) (S : State) (cs : List Call) (c : Call)
    → replies_from h S (cs ++ c ∷ []) ≡ replies_from h S cs ++ reply (step h (state_from h S cs) c) ∷ []
unfolding state_from replies_from
replies_of_one_more h S [] c = refl
replies_of_one_more h S (d ∷ cs) c = ap (λ (rs : List Reply). reply (step h S d) ∷ rs) (replies_of_one_more h (step h S d).state cs c)

-- ---- images of n numbers

-- the bytes are the image of the n numbers T
record IsImage (n : ℕ) (bytes T : List ℕ) : Type 0 where
  numbers : lent_as n bytes ≡ T
  bytes_are : bytes ≡ image_of T

image_is : (n : ℕ) (T : List ℕ) → length T ≡ n → IsImage n (image_of T) T
image_is n T e = record { numbers = numbers_of_their_image n T e; bytes_are = refl }

-- the bytes after a call are the image of its numbers, if a refusal leaves them
image_after : (n answer : ℕ) (result bytes T : List ℕ) → IsImage n bytes T → length result ≡ n → (¬ (answer ≡ 0) → result ≡ T)
    → IsImage n (bytes_after answer result bytes) result
image_after n answer result bytes T p e kept = go (eqb answer 0) refl
  where
    go : (b : Bool) → eqb answer 0 ≡ b → IsImage n (bytes_after answer result bytes) result
    go true z = rw z (image_is n result e)
    go false z = rw (z, kept (eqb-false answer 0 z)) p

-- ---- a table and a line in two images

-- the two images are those of the state S
record Images (image line : List ℕ) (S : State) : Type 0 where
  table : IsImage 4096 image S.table
  line_of : IsImage 193 line S.line

state_is : {image line : List ℕ} {S : State} → Images image line S → state_in image line ≡ S
state_is p = λ i. record { table = p.table.numbers i; line = p.line_of.numbers i }

-- a state that a history leaves has 4,096 entries and 193 numbers
record Long (S : State) : Type 0 where
  entries : length S.table ≡ 4096
  numbers : length S.line ≡ 193

long_kept : (h : ℕ) (S : State) (B : Book) → Kept h S B → Long S
long_kept h S B K = record { entries = K.table.entries; numbers = (sound_state h S B K).numbers }

-- the images that a call leaves, by what the door says of table and line
images_after : (o : Done) (image line image' line' : List ℕ) (S : State) → Images image line S → Long o.state → (¬ (o.answer ≡ 0) → o.state ≡ S)
    → image' ≡ bytes_after o.answer o.state.table image → line' ≡ bytes_after o.answer o.state.line line → Images image' line' o.state
images_after o image line image' line' S p long kept e e' = record {
  table = subst (λ (b : List ℕ). IsImage 4096 b o.state.table) (sym e)
      (image_after 4096 o.answer o.state.table image S.table p.table long.entries (λ ne. ap (λ (R : State). R.table) (kept ne)));
  line_of = subst (λ (b : List ℕ). IsImage 193 b o.state.line) (sym e')
      (image_after 193 o.answer o.state.line line S.line p.line_of long.numbers (λ ne. ap (λ (R : State). R.line) (kept ne)));
}

-- ---- one exported call

-- a tenant's number is not that of nobody
named_again : (o : Option ℕ) → ((t : ℕ) → o ≡ some t → t < 4096) → cond (eqb (tenant_number o) 65535) none (some (tenant_number o)) ≡ o
named_again none below = refl
named_again (some t) below = grind (arith, nat_tests, below t refl)

-- a join and a withdrawal leave the table, and name nobody
record Quiet (S : State) (o : Done) : Type 0 where
  table : o.state.table ≡ S.table
  named : o.named ≡ none

unless_quiet : (k : ℕ) (S : State) (o : Done) → Quiet S o → Quiet S (unless k S o)
unless_quiet zero S o q = q
unless_quiet (suc k) S o q = record { table = refl; named = refl }

join_quiet : (h : ℕ) (S : State) (t l : ℕ) → Quiet S (step h S (join t l))
unfolding step
join_quiet h S t l = unless_quiet (first (checks h S (join t l))) S (accepted h S (join t l)) (record { table = refl; named = refl })

withdraw_quiet : (h : ℕ) (S : State) (t : ℕ) → Quiet S (step h S (withdraw t))
unfolding step
withdraw_quiet h S t = unless_quiet (first (checks h S (withdraw t))) S (accepted h S (withdraw t)) (record { table = refl; named = refl })

-- what an exported call leaves, and its reply
record Next (h : ℕ) (S : State) (c : Call) (r : Reply) (image' line' : List ℕ) : Type 0 where
  images : Images image' line' (step h S c).state
  replied : r ≡ reply (step h S c)

module _ (h : ℕ) (S : State) (B : Book) (b : Box h S B) (long : (c : Call) → Long (step h S c).state) (image line : List ℕ)
    (p : Images image line S) where
  on_state : (c : Call) → step h (state_in image line) c ≡ step h S c
  on_state c = ap (λ (R : State). step h R c) (state_is p)

  unnamed_reply : (c : Direct) (answer : ℕ) → answer ≡ (step h S (direct c)).answer → unnamed answer ≡ reply (step h S (direct c))
  unnamed_reply c answer e = λ i. record { answer = e i; named = sym ((demand_2 h S).unnamed c) i }

  -- a call that takes a line
  behind_next : (call : ℕ → Direct) (list image' line' list' : List ℕ) (r : Outcome) → CalledBehind h call image line list r image' line' list'
      → Next h S (direct (call (entries_in list))) (unnamed r.answer) image' line'
  behind_next call list image' line' list' r on =
      let c = direct (call (entries_in list)) in
      let q = subst (λ (o : Done). ReportedBehind o image line list r image' line' list') (on_state c) on in
      record {
        images = images_after (step h S c) image line image' line' S p (long c) (b.line.refused_keeps c) q.of_table.table q.line_bytes;
        replied = unnamed_reply (call (entries_in list)) r.answer q.of_table.answer;
      }

  -- a call that takes none, and leaves the line
  alone_next : (call : ℕ → Direct) (list image' list' : List ℕ) (r : Outcome)
      → step h S (direct (call (entries_in list))) ≡ with_line (table_step h S.table (call (entries_in list))) none S.line
      → CalledOn h call image list r image' list' → Next h S (direct (call (entries_in list))) (unnamed r.answer) image' line
  alone_next call list image' list' r alone on =
      let d = call (entries_in list) in
      let o = step h S (direct d) in
      let same : table_step h (table_of image) d ≡ on_table o = ap (λ (T : List ℕ). table_step h T d) p.table.numbers ∙ sym (ap on_table alone) in
      let q = subst (λ (x : TableOutcome). Reported x image list r image' list') same on in
      record {
        images = record {
          table = subst (λ (bytes : List ℕ). IsImage 4096 bytes o.state.table) (sym q.table)
              (image_after 4096 o.answer o.state.table image S.table p.table (long (direct d)).entries
              (λ ne. ap (λ (R : State). R.table) (b.line.refused_keeps (direct d) ne)));
          line_of = subst (IsImage 193 line) (sym (ap (λ (x : Done). x.state.line) alone)) p.line_of;
        };
        replied = unnamed_reply d r.answer q.answer;
      }

  -- a join or a withdrawal, which leaves the table
  line_next : (c : Call) (line' : List ℕ) (r : ℕ) → Quiet S (step h S c) → LineCalled (step h (state_in image line) c) line r line'
      → Next h S c (unnamed r) image line'
  line_next c line' r quiet on =
      let q = subst (λ (o : Done). LineCalled o line r line') (on_state c) on in
      record {
        images = record {
          table = subst (IsImage 4096 image) (sym quiet.table) p.table;
          line_of = subst (λ (bytes : List ℕ). IsImage 193 bytes (step h S c).state.line) (sym q.line_bytes)
              (image_after 193 (step h S c).answer (step h S c).state.line line S.line p.line_of (long c).numbers
              (λ ne. ap (λ (R : State). R.line) (b.line.refused_keeps c ne)));
        };
        replied = λ i. record { answer = q.answer i; named = sym quiet.named i };
      }

  admit_next : (list image' line' list' : List ℕ) (r : Admission) → AdmittedOn h image line list r image' line' list'
      → Next h S (admit (entries_in list)) (naming r.answer r.tenant) image' line'
  admit_next list image' line' list' r on =
      let c = admit (entries_in list) in
      let q = subst (λ (o : Done). ReportedAdmission o image line list r image' line' list') (on_state c) on in
      let below : (t : ℕ) → (step h S c).named ≡ some t → t < 4096 = λ t e. (b.line.names_waiting (entries_in list) t e).0 in
      let named : cond (eqb r.tenant 65535) none (some r.tenant) ≡ (step h S c).named =
      ap (λ (n : ℕ). cond (eqb n 65535) none (some n)) q.tenant ∙ named_again (step h S c).named below in
      record {
        images =
            images_after (step h S c) image line image' line' S p (long c) (b.line.refused_keeps c) q.behind.of_table.table
            q.behind.line_bytes;
        replied = λ i. record { answer = q.behind.of_table.answer i; named = named i };
      }

  next : (c : Call) (r : Reply) (image' line' : List ℕ) → Exported h image line c r image' line' → Next h S c r image' line'
  next c r image' line' (reserve_grant_level {list = list} {list' = list'} {r = o} t l on) =
      behind_next (grant_level t l) list image' line' list' o on
  next c r image' line' (reserve_grant_pages {list = list} {list' = list'} {r = o} t g on) =
      behind_next (grant_pages t g) list image' line' list' o on
  next c r image' line' (reserve_release {list = list} {list' = list'} {r = o} t on) =
      alone_next (release t) list image' list' o (release_alone h S (release t (entries_in list)) releases) on
  next c r image' line' (reserve_grow {list = list} {list' = list'} {r = o} t l on) =
      alone_next (grow t l) list image' list' o (growth_alone h S (grow t l (entries_in list)) l grows) on
  next c r image' line' (reserve_join {r = n} t l on) = line_next (join t l) line' n (join_quiet h S t l) on
  next c r image' line' (reserve_withdraw {r = n} t on) = line_next (withdraw t) line' n (withdraw_quiet h S t) on
  next c r image' line' (reserve_admit {list = list} {list' = list'} {r = o} on) = admit_next list image' line' list' o on

-- ---- a whole history over bytes

-- the bytes and the replies are those of a history of tables and lines
record Follows (h : ℕ) (image line : List ℕ) (calls : List Call) (replies : List Reply) : Type 0 where
  lent_first : State
  accepted_first : (open_reserve h lent_first).answer ≡ 0
  images : Images image line (state_from h (open_reserve h lent_first).state calls)
  replied : replies ≡ replies_from h (open_reserve h lent_first).state calls

abbrev history : {h : ℕ} {image line : List ℕ} {calls : List Call} {replies : List Reply} → Follows h image line calls replies → History h
history {calls = calls} F = record { lent = F.lent_first; opened = F.accepted_first; calls = calls }

-- after every call of a history the state is as long as it was
long_next : (h : ℕ) (lent : State) (accepted : (open_reserve h lent).answer ≡ 0) (calls : List Call) (c : Call)
    → Long (step h (state_from h (open_reserve h lent).state calls) c).state
long_next h lent accepted calls c =
    let H : History h = record { lent = lent; opened = accepted; calls = calls ++ c ∷ [] } in
    subst Long (state_of_one_more h (open_reserve h lent).state calls c) (long_kept h (state_after h H) (book_after h H) (history_kept h H))

follows_opening : (h : ℕ) (image line image' line' : List ℕ) (r : ℕ) → OpenedOn h image line r image' line' → r ≡ 0 → Follows h image' line' [] []
unfolding state_from replies_from
follows_opening h image line image' line' r on z =
    let o = open_reserve h (state_in image line) in
    let zero_answer : o.answer ≡ 0 = sym on.called.answer ∙ z in
    let H : History h = record { lent = state_in image line; opened = zero_answer; calls = [] } in
    let long = long_kept h o.state (book_after h H) (history_kept h H) in
    record {
      lent_first = state_in image line;
      accepted_first = zero_answer;
      images = record {
        table = rw (on.table_bytes, zero_answer) (image_is 4096 o.state.table long.entries);
        line_of = rw (on.called.line_bytes, zero_answer) (image_is 193 o.state.line long.numbers);
      };
      replied = refl;
    }

module _ (h : ℕ) (image line : List ℕ) (calls : List Call) (replies : List Reply) (F : Follows h image line calls replies) where
  next_of : (c : Call) (r : Reply) (image' line' : List ℕ) → Exported h image line c r image' line'
      → Next h (state_from h (open_reserve h F.lent_first).state calls) c r image' line'
  next_of c r image' line' x =
      next h (state_from h (open_reserve h F.lent_first).state calls) (book_after h (history F))
      (box h (state_after h (history F)) (book_after h (history F)) (history_kept h (history F)))
      (long_next h F.lent_first F.accepted_first calls) image line F.images c r image' line' x

  follows_call : (c : Call) (r : Reply) (image' line' : List ℕ) → Exported h image line c r image' line'
      → Follows h image' line' (calls ++ c ∷ []) (replies ++ r ∷ [])
  follows_call c r image' line' x =
      let n = next_of c r image' line' x in
      let S₁ = (open_reserve h F.lent_first).state in
      record {
        lent_first = F.lent_first;
        accepted_first = F.accepted_first;
        images = subst (Images image' line') (sym (state_of_one_more h S₁ calls c)) n.images;
        replied = ap₂ (λ (rs : List Reply) (q : Reply). rs ++ q ∷ []) F.replied n.replied ∙ sym (replies_of_one_more h S₁ calls c);
      }

follows : {h : ℕ} {image line : List ℕ} {calls : List Call} {replies : List Reply} → Led h image line calls replies
    → Follows h image line calls replies
follows (opened image line {r = r} on z) = follows_opening _ image line _ _ r on z
follows (called {image = image} {line = line} {calls = calls} {replies = replies} {c = c} {r = r} led x) =
    follows_call _ image line calls replies (follows led) c r _ _ x

-- a call that takes no line reports what it would behind one
alone_behind : (h : ℕ) (image line list : List ℕ) (c : Direct) (r : Outcome) (image' list' : List ℕ)
    → step h (state_in image line) (direct c) ≡ with_line (table_step h (table_of image) c) none (line_in line)
    → Reported (table_step h (table_of image) c) image list r image' list'
    → Reported (on_table (step h (state_in image line) (direct c))) image list r image' list'
alone_behind h image line list c r image' list' alone p =
    subst (λ (o : TableOutcome). Reported o image list r image' list') (sym (ap on_table alone)) p

-- ---- the bytes of one box

-- an outcome that changes nothing leaves the images of its table and its line and any list
untouched : (t : ℕ) (o : Done) (image line list image' line' list' : List ℕ) (r : Outcome) → image ≡ image_of (table_of image)
    → line ≡ image_of (line_in line)
    → Unchanged t (table_of image) (on_table o) → o.state.line ≡ line_in line → ReportedBehind o image line list r image' line' list'
    → Untouched (node_at (table_of image) t) image line list r image' line' list'
unfolding image_of numbers_of
untouched t o image line list image' line' list' r imaged lined u same p = record {
  answer = p.of_table.answer ∙ u.answer;
  node = p.of_table.node ∙ u.node;
  moves = p.of_table.count ∙ ap length u.moves;
  table_bytes = p.of_table.table ∙ rw (u.answer, u.table) (sym imaged);
  line_bytes = p.line_bytes ∙ rw (u.answer, same) (sym lined);
  list_bytes = p.of_table.moves ∙ rw (u.answer, u.moves);
}

bytes_of_box : (h : ℕ) (image line : List ℕ) (calls : List Call) (replies : List Reply) (B : Book) → Follows h image line calls replies
    → Box h (state_in image line) B → BytesOfBox h image line B
bytes_of_box h image line calls replies B F bx =
    let at = state_is F.images in
    let imaged = F.images.table.bytes_are ∙ ap image_of (sym F.images.table.numbers) in
    let lined = F.images.line_of.bytes_are ∙ ap image_of (sym F.images.line_of.numbers) in
    record {
      image_of_table = imaged;
      image_of_line = lined;
      next_state = λ c r image' line' x.
          state_is (next_of h image line calls replies F c r image' line' x).images ∙ ap (λ (S : State). (step h S c).state) (sym at);
      next_reply = λ c r image' line' x.
          (next_of h image line calls replies F c r image' line' x).replied ∙ ap (λ (S : State). reply (step h S c)) (sym at);
      repeated_grants = λ call list image' line' list' r on l a v e.
          let c = call (entries_in list) in
          let again = bx.holder_repeats c l a v e in
          untouched (tenant_of c) (step h (state_in image line) (direct c)) image line list image' line' list' r imaged lined again.0 again.1 on;
      grant_reports = λ call list image' line' list' r on l a.
          let c = call (entries_in list) in
          rw on.of_table.count ((demand_2 h (state_in image line)).grant_moves c l a);
      admit_reports = λ list image' line' list' r on.
          rw on.behind.of_table.count ((demand_2 h (state_in image line)).admit_moves (entries_in list));
      release_reports = λ call list image' list' r on q.
          let c = call (entries_in list) in
          let p = alone_behind h image line list c r image' list' (release_alone h (state_in image line) c q) on in
          rw p.count ((demand_2 h (state_in image line)).release_moves c q);
      growth_reports = λ call list image' list' r on l g.
          let c = call (entries_in list) in
          let p = alone_behind h image line list c r image' list' (growth_alone h (state_in image line) c l g) on in
          rw p.count ((demand_2 h (state_in image line)).growth_moves c l g);
    }

-- ---- two boxes

same_report : (N : Type 0) (most : ℕ) (o₁ o₂ : TableOutcome) (r₁ r₂ : Outcome) (image₁ image₂ list₁ list₂ image₁' image₂' list₁' list₂' : List ℕ)
    → Reported o₁ image₁ list₁ r₁ image₁' list₁' → Reported o₂ image₂ list₂ r₂ image₂' list₂' → SameFate N most o₁ o₂ → SameReport N most r₁ r₂
same_report N most o₁ o₂ r₁ r₂ image₁ image₂ list₁ list₂ image₁' image₂' list₁' list₂' p₁ p₂ (SameFate.no_room a b n) =
    no_room (p₁.answer ∙ a) (p₂.answer ∙ b) n
same_report N most o₁ o₂ r₁ r₂ image₁ image₂ list₁ list₂ image₁' image₂' list₁' list₂' p₁ p₂ (SameFate.room a b m k n) =
    room (p₁.answer ∙ a) (p₂.answer ∙ b) (rw p₁.count m) (rw p₂.count k) n

pub demand_3_of_bytes : BytesDemand3
demand_3_of_bytes h image₁ line₁ image₂ line₂ calls₁ calls₂ replies₁ replies₂ led₁ led₂ =
    let F₁ = follows led₁ in
    let F₂ = follows led₂ in
    let both = boxes_of_histories h (history F₁) (history F₂) (state_is F₁.images) (state_is F₂.images) F₁.replied F₂.replied in
    record {
      boxes = both;
      bytes_one = bytes_of_box h image₁ line₁ calls₁ replies₁ (book_of h calls₁ replies₁) F₁ both.one;
      bytes_two = bytes_of_box h image₂ line₂ calls₂ replies₂ (book_of h calls₂ replies₂) F₂ both.two;
      same_reports = λ e free₁ free₂ call₁ call₂ list₁ list₂ image₁' image₂' line₁' line₂' list₁' list₂' r₁ r₂ on₁ on₂ l a₁ a₂ v₁ v₂ n₁ n₂ w₁ w₂.
          same_report _ 3 _ _ r₁ r₂ _ _ _ _ _ _ _ _ on₁.of_table on₂.of_table (both.same_fate e free₁ free₂ _ _ l a₁ a₂ v₁ v₂ n₁ n₂ w₁ w₂);
      same_growths = λ e call₁ call₂ list₁ list₂ image₁' image₂' list₁' list₂' r₁ r₂ on₁ on₂ l k g₁ g₂ v₁ v₂ n₁ n₂.
          same_report _ 7 _ _ r₁ r₂ _ _ _ _ _ _ _ _ (alone_behind h image₁ line₁ list₁ _ r₁ image₁' list₁' (growth_alone h _ _ l g₁) on₁)
          (alone_behind h image₂ line₂ list₂ _ r₂ image₂' list₂' (growth_alone h _ _ l g₂) on₂) (both.same_growth e _ _ l k g₁ g₂ v₁ v₂ n₁ n₂);
    }
