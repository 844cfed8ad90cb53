-- A journal is refused exactly if its listing ends with a refusal, and with that refusal.
use mathlib.Core.Path.{◌≡◌, ap}
use mathlib.Core.List.{List, [], ◌++◌, append-nil}
use mathlib.Core.Option.{none}
use Prim.Native.Nat.{ℕ}
use borrow.Author.Tests.{lt-ltb, le-ltb}
use lib.ListN.{length}
use Rattle.std.specs.Prelude.{None, Result, Ok, Err}
use Rattle.refusal.specs.declared.Refusal.{Refusal}
use Rattle.refusal.specs.Number.{number_of}
use Rattle.journal.specs.declared.Record.{Record}
use Rattle.journal.specs.declared.RefusedAt.{RefusedAt}
use Rattle.journal.specs.Reader.{refused_at, Read}
use Rattle.journal.specs.Journal.{Reading}
use Rattle.journal.proofs.Theorems.{no_end_at_start}
use Rattle.journal.proofs.Whole.{reading_ends}
use Rattle.lines.specs.Line.{stop_line}
use Rattle.replay.specs.Listing.{listing}
use Rattle.conversion.specs.Conversion.{Contents, converted_journal, judged_by, judged}
use Rattle.conversion.specs.Promises.{contents_of}
use Rattle.conversion.proofs.Promises.{conversion_promise}
use Rattle.histories.specs.Listing.{Opens, reported, open_line, lines_after, last_line, Shows}
use Rattle.histories.proofs.Listing.{listing_is_history}
use Rattle.old_journals.specs.Promises.{Unmarked, AsListed, RefusedAsListed}
use Rattle.old_journals.proofs.Marks.{unmarked_both, line_unmarked, lines_unmarked}

-- what ends a reading: the end of the journal or a refusal
data Ended : Read → Type 0 where
  at_end : Ended (Ok None)
  refused : {r : RefusedAt} → Ended (Err r)

reading_ended : (j : List ℕ) {at : ℕ} {rs : List Record} {last : Read} → Reading j at rs last → Ended last
reading_ended j (Reading.ends e) = Ended.at_end
reading_ended j (Reading.refused e) = Ended.refused
reading_ended j (Reading.record_then e more) = reading_ended j more

module _ (j : List ℕ) where
  -- what becomes of the journal, by what ends its contents
  abbrev judged_after : Read → Result ℕ RefusedAt
  judged_after last = judged_by last (length (converted_journal j))

  ends_refused : (lines : List ℕ) (r : RefusedAt) → Unmarked lines → listing j ≡ lines ++ stop_line r.offset (number_of r.refusal)
      → AsListed j (Err r)
  ends_refused lines r p e = AsListed.with_mark lines p e

  ends_by : (lines : List ℕ) (last : Read) → Ended last → Unmarked lines → listing j ≡ lines ++ last_line last → AsListed j (judged_after last)
  ends_by lines last Ended.at_end p e = AsListed.without_mark (rw (e, append-nil) p)
  ends_by lines last (Ended.refused {r = r}) p e = ends_refused lines r p e

  history_unmarked : (h : ℕ) (accepted : Opens h) (rs : List Record) → Unmarked (open_line h ++ lines_after 1 rs (reported h accepted rs))
  history_unmarked h accepted rs =
      unmarked_both (open_line h) (lines_after 1 rs (reported h accepted rs)) (line_unmarked 1 (Record.Open h) 0 0 none [])
      (lines_unmarked 1 rs (reported h accepted rs))

  ends_shown : (rs : List Record) (last : Read) → Reading j 0 rs last → Shows j rs last → AsListed j (judged_after (contents_of rs last).last)
  ends_shown rs last (Reading.ends e) shows = absurd (no_end_at_start j e)
  ends_shown rs last (Reading.refused {refusal = r} e) (Shows.nothing_read is) = ends_refused [] r tt is
  ends_shown rs last (Reading.record_then e more) (Shows.too_high {h = h} high is) =
      rw (lt-ltb 12 h high) (ends_refused [] (refused_at Refusal.Height 0) tt is)
  ends_shown rs last (Reading.record_then e more) (Shows.history {h = h} {rs = rest} low accepted calls is) =
      rw (le-ltb 12 h low)
      (ends_by (open_line h ++ lines_after 1 rest (reported h accepted rest)) last (reading_ended j more) (history_unmarked h accepted rest) is)

pub refused_as_listed : RefusedAsListed
unfolding judged
refused_as_listed j =
    let (rs, last, reading) = reading_ends j 0 in
    let is = (conversion_promise j).as_read rs last reading in
    rw (ap (λ (c : Contents). c.last) is) (ends_shown j rs last reading (listing_is_history j rs last reading))
