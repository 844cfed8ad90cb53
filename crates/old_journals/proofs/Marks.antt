-- No line of a record has a `!` in it.
use mathlib.Core.List.{List, [], ◌∷◌, ◌++◌, map}
use mathlib.Core.Option.{Option}
use Prim.Native.Nat.{ℕ, ◌+◌}
use native.Mathlib.Omega.{arith}
use lib.ListN.{length}
use Rattle.table.specs.declared.Move.{Move}
use Rattle.journal.specs.declared.Record.{Record}
use Rattle.admission.specs.Step.{Outcome}
use Rattle.lines.specs.Ascii.{bytes}
use Rattle.lines.specs.Decimal.{decimal, AllDigits}
use Rattle.lines.specs.Line.{spaced, joined, letter, granted_field, who_field, size, node_if_done, node_field, separator}
use Rattle.lines.specs.Line.{move_field, move_fields, line_of}
use Rattle.lines.proofs.Decimal.{decimal_right}
use Rattle.histories.specs.Listing.{line_with, lines_after}
use Rattle.old_journals.specs.Promises.{Unmarked}

pub unmarked_both : (xs ys : List ℕ) → Unmarked xs → Unmarked ys → Unmarked (xs ++ ys)
unmarked_both [] ys p q = q
unmarked_both (x ∷ xs) ys p q = (p.0, unmarked_both xs ys p.1 q)

-- ---- fields

digits_unmarked : (s : List ℕ) → AllDigits s → Unmarked s
digits_unmarked [] d = tt
digits_unmarked (c ∷ s) d = ((λ e. omega (arith, d.0.0, e)), digits_unmarked s d.1)

decimal_unmarked : (n : ℕ) → Unmarked (decimal n)
decimal_unmarked n = digits_unmarked (decimal n) (decimal_right n).digits

hyphen_unmarked : Unmarked (bytes "-")
hyphen_unmarked = ((λ e. omega arith), tt)

letter_unmarked : (r : Record) → Unmarked (letter r ∷ [])
letter_unmarked r = ((λ e. grind arith), tt)

granted_unmarked : (named : Option ℕ) → Unmarked (granted_field named)
granted_unmarked named = grind (arith, hyphen_unmarked, decimal_unmarked)

who_unmarked : (r : Record) (named : Option ℕ) → Unmarked (who_field r named)
who_unmarked r named = grind (arith, granted_unmarked, decimal_unmarked)

size_unmarked : (r : Record) → Unmarked (size r)
size_unmarked r = grind (arith, hyphen_unmarked, decimal_unmarked)

done_unmarked : (answer node : ℕ) → Unmarked (node_if_done answer node)
done_unmarked answer node = grind (arith, hyphen_unmarked, decimal_unmarked)

node_unmarked : (r : Record) (answer node : ℕ) → Unmarked (node_field r answer node)
node_unmarked r answer node = grind (arith, done_unmarked, hyphen_unmarked)

separator_unmarked : (staged : ℕ) → Unmarked (separator staged ∷ [])
separator_unmarked staged = ((λ e. grind arith), tt)

move_unmarked : (m : Move) → Unmarked (move_field m)
unfolding move_field
move_unmarked m =
    let tenant = decimal m.tenant ++ bytes ":" in
    let sign = separator m.staged ∷ [] in
    let has_tenant = unmarked_both (decimal m.tenant) (bytes ":") (decimal_unmarked m.tenant) ((λ e. omega arith), tt) in
    let has_from = unmarked_both tenant (decimal m.from) has_tenant (decimal_unmarked m.from) in
    let has_sign = unmarked_both (tenant ++ decimal m.from) sign has_from (separator_unmarked m.staged) in
    unmarked_both (tenant ++ decimal m.from ++ sign) (decimal m.to) has_sign (decimal_unmarked m.to)

-- ---- lines

-- fields without a mark
abbrev AllUnmarked : List (List ℕ) → Type 0
AllUnmarked [] = Unit {0}
AllUnmarked (f ∷ fs) = Unmarked f × AllUnmarked fs

spaced_unmarked : (fs : List (List ℕ)) → AllUnmarked fs → Unmarked (spaced fs)
unfolding spaced
spaced_unmarked [] p = tt
spaced_unmarked (f ∷ fs) p = ((λ e. omega arith), unmarked_both f (spaced fs) p.0 (spaced_unmarked fs p.1))

moves_unmarked : (ms : List Move) → AllUnmarked (map move_field ms)
moves_unmarked [] = tt
moves_unmarked (m ∷ ms) = (move_unmarked m, moves_unmarked ms)

joined_unmarked : (f : List ℕ) (fs : List (List ℕ)) → Unmarked f → AllUnmarked fs → Unmarked (joined f fs)
joined_unmarked f fs p q =
    unmarked_both (f ++ spaced fs) (bytes "\n") (unmarked_both f (spaced fs) p (spaced_unmarked fs q)) ((λ e. omega arith), tt)

pub line_unmarked : (n : ℕ) (r : Record) (answer node : ℕ) (named : Option ℕ) (moves : List Move) → Unmarked (line_of n r answer node named moves)
unfolding line_of
line_unmarked n r answer node named moves =
    let moved : AllUnmarked (move_fields moves) = (decimal_unmarked (length moves), moves_unmarked moves) in
    let reported : AllUnmarked (decimal answer ∷ node_field r answer node ∷ move_fields moves) =
    (decimal_unmarked answer, (node_unmarked r answer node, moved)) in
    joined_unmarked (decimal n) _ (decimal_unmarked n) (letter_unmarked r, (who_unmarked r named, (size_unmarked r, reported)))

pub lines_unmarked : (n : ℕ) (rs : List Record) (os : List Outcome) → Unmarked (lines_after n rs os)
unfolding lines_after
lines_unmarked n [] os = tt
lines_unmarked n (r ∷ rs) [] = tt
lines_unmarked n (r ∷ rs) (o ∷ os) =
    unmarked_both (line_with (n + 1) r o) (lines_after (n + 1) rs os)
    (line_unmarked (n + 1) r o.answer o.node o.named o.moves) (lines_unmarked (n + 1) rs os)
