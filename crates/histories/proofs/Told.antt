-- The lines of records tell the records, and with them the book of their calls.
use mathlib.Core.Path.{◌≡◌, refl, sym, ap, ap₂, ◌∙◌}
use mathlib.Core.List.{List, [], ◌∷◌, ◌++◌, map}
use mathlib.Core.Option.{Option, none}
use Prim.Native.Nat.{ℕ, ◌+◌, ◌<◌}
use native.Mathlib.Omega.{arith}
use lib.ListN.{length, length-append}
use Rattle.journal.specs.declared.Record.{Record}
use Rattle.rules.specs.Call.{Call as Direct, grant_level, grant_pages, release, grow}
use Rattle.admission.specs.Call.{Call, direct, join, admit, withdraw}
use Rattle.admission.specs.Step.{Outcome}
use Rattle.boxes.specs.History.{Reply, reply, Book, enter_direct, enter, book_from}
use Rattle.lines.specs.ReadBack.{SameTold}
use Rattle.lines.proofs.ReadBack.{line_not_empty, lines_split, line_tells}
use Rattle.histories.specs.Listing.{call_of, calls_of, line_with, lines_after, LinesTellBook}
use Rattle.histories.proofs.Points.{no_more_calls}

-- ---- one record

-- the one call of the record r, and what the book takes of its reply: the answer, and of an admit's the tenant named
record OneCall (h : ℕ) (r : Record) : Type 0 where
  call : Call
  calls : call_of r ≡ call ∷ []
  enters : (q q' : Reply) (B : Book) → q.answer ≡ q'.answer → (r ≡ Record.Admit → q.named ≡ q'.named) → enter h call q B ≡ enter h call q' B

direct_call : (h : ℕ) (r : Record) (c : Direct) → call_of r ≡ direct c ∷ [] → OneCall h r
direct_call h r c e = record { call = direct c; calls = e; enters = λ q q' B a n. ap (λ (x : ℕ). enter_direct h c x B) a }

one_call : (h : ℕ) (r : Record) → 0 < length (call_of r) → OneCall h r
one_call h (Record.Open height) some_call = absurd (omega arith)
one_call h (Record.GrantLevel t l) some_call = direct_call h (Record.GrantLevel t l) (grant_level t l 4) refl
one_call h (Record.GrantPages t p) some_call = direct_call h (Record.GrantPages t p) (grant_pages t p 4) refl
one_call h (Record.Release t) some_call = direct_call h (Record.Release t) (release t 4) refl
one_call h (Record.Grow t l) some_call = direct_call h (Record.Grow t l) (grow t l 7) refl
one_call h (Record.Join t l) some_call = record {
  call = join t l;
  calls = refl;
  enters = λ q q' B a n. ap (λ (x : ℕ). enter h (join t l) (record { answer = x; named = q.named }) B) a;
}
one_call h Record.Admit some_call = record {
  call = admit 4;
  calls = refl;
  enters = λ q q' B a n. ap (λ (x : Option ℕ). enter h (admit 4) (record { answer = q.answer; named = x }) B) (n refl);
}
one_call h (Record.Withdraw t) some_call = record {
  call = withdraw t;
  calls = refl;
  enters = λ q q' B a n. ap (λ (x : ℕ). enter h (withdraw t) (record { answer = x; named = q.named }) B) a;
}

line_told : (n : ℕ) (r r' : Record) (o o' : Outcome) (s s' : List ℕ) → line_with n r o ++ s ≡ line_with n r' o' ++ s'
    → SameTold n n r r' o.answer o'.answer o.named o'.named × (s ≡ s')
line_told n r r' o o' s s' e =
    let split = lines_split n n r r' o.answer o'.answer o.node o'.node o.named o'.named o.moves o'.moves s s' e in
    (line_tells n n r r' o.answer o'.answer o.node o'.node o.named o'.named o.moves o'.moves split.0, split.1)

book_of_one : (h : ℕ) (B : Book) (r : Record) (c : Call) (cs : List Call) (q : Reply) (qs : List Reply) → call_of r ≡ c ∷ []
    → book_from h B (call_of r ++ cs) (q ∷ qs) ≡ book_from h (enter h c q B) cs qs
unfolding book_from
book_of_one h B r c cs q qs e = rw e

-- ---- all of them

tell_book : (h n : ℕ) (B : Book) (rs rs' : List Record) (os os' : List Outcome) → length os ≡ length rs → length os' ≡ length rs'
    → length (calls_of rs) ≡ length rs → lines_after n rs os ≡ lines_after n rs' os'
    → (rs ≡ rs') × (book_from h B (calls_of rs) (map reply os) ≡ book_from h B (calls_of rs') (map reply os'))
unfolding calls_of lines_after book_from
tell_book h n B [] [] os os' k k' each e = (refl, refl)
tell_book h n B [] (r' ∷ rs') os [] k k' each e = absurd (omega arith)
tell_book h n B [] (r' ∷ rs') os (o' ∷ os') k k' each e =
    absurd (line_not_empty (n + 1) r' o'.answer o'.node o'.named o'.moves (lines_after (n + 1) rs' os') (sym e))
tell_book h n B (r ∷ rs) rs' [] os' k k' each e = absurd (omega arith)
tell_book h n B (r ∷ rs) [] (o ∷ os) os' k k' each e =
    absurd (line_not_empty (n + 1) r o.answer o.node o.named o.moves (lines_after (n + 1) rs os) e)
tell_book h n B (r ∷ rs) (r' ∷ rs') (o ∷ os) [] k k' each e = absurd (omega arith)
tell_book h n B (r ∷ rs) (r' ∷ rs') (o ∷ os) (o' ∷ os') k k' each e =
    let told = line_told (n + 1) r r' o o' (lines_after (n + 1) rs os) (lines_after (n + 1) rs' os') e in
    let same = told.0 in
    let both = length-append (call_of r) (calls_of rs) in
    let one = one_call h r (omega (arith, each, both, no_more_calls rs)) in
    let later : length (calls_of rs) ≡ length rs = omega (arith, each, both, ap length one.calls) in
    let rest = tell_book h (n + 1) (enter h one.call (reply o) B) rs rs' os os' (omega arith) (omega arith) later told.1 in
    let entered = one.enters (reply o) (reply o') B same.answers same.names in (
      ap₂ (λ (x : Record) (xs : List Record). x ∷ xs) same.made rest.0,
      book_of_one h B r one.call (calls_of rs) (reply o) (map reply os) one.calls
          ∙ rest.1
          ∙ ap (λ (D : Book). book_from h D (calls_of rs') (map reply os')) entered
          ∙ sym (book_of_one h B r' one.call (calls_of rs') (reply o') (map reply os') (ap call_of (sym same.made) ∙ one.calls)),
    )

pub lines_tell_book : LinesTellBook
lines_tell_book h n rs rs' os os' k k' each e = tell_book h n (record { holdings = λ t. none; events = [] }) rs rs' os os' k k' each e
