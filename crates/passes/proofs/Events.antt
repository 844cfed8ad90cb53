-- One event more, and who waits then: the line that the events give changes as the calls change a line.
use mathlib.Core.Path.{◌≡◌, refl, sym, ap, ◌∙◌}
use mathlib.Core.Bool.{Bool, true, false, cond, ◌||◌, or-false, or_assoc, or-true, false≢true}
use mathlib.Core.List.{List, [], ◌∷◌, ◌++◌, map}
use Prim.Native.Nat.{ℕ, ◌+◌}
use native.Mathlib.Omega.{arith}
use native.Mathlib.Decide.{ℕ_discrete}
use borrow.Author.Tests.{eq-eqb, ne_eqb}
use lib.Dec.{eqb}
use Rattle.tree.specs.Held.{one_if}
use Rattle.line.specs.Line.{Waiting}
use Rattle.line.specs.Order.{waits, Orderly, before}
use Rattle.line.specs.Changes.{joined, once_more, leave}
use Rattle.passes.specs.Events.{Event, joins, withdraws, admitted, granted, left, among, passes, waiting_after}

-- neither of two
or_both : (a b : Bool) → a || b ≡ false → b ≡ false
or_both true b e = absurd (false≢true (sym e))
or_both false b e = e

-- w in front of W, unless it is gone
abbrev entry : Bool → Waiting → List Waiting → List Waiting
entry gone w W = cond gone W (w ∷ W)

-- ---- what the last event adds

-- a tenant left before the last event or by it
left_last : (t : ℕ) (es : List Event) (e : Event) → left t (es ++ e ∷ []) ≡ left t es || left t (e ∷ [])
unfolding left
left_last t [] e = refl
left_last t (joins u l ∷ es) e = left_last t es e
left_last t (withdraws u ∷ es) e = ap (λ (b : Bool). eqb u t || b) (left_last t es e) ∙ sym (or_assoc (eqb u t) (left t es) (left t (e ∷ [])))
left_last t (admitted u ∷ es) e = ap (λ (b : Bool). eqb u t || b) (left_last t es e) ∙ sym (or_assoc (eqb u t) (left t es) (left t (e ∷ [])))
left_last t (granted ∷ es) e = left_last t es e

-- those who are younger after some events
unfoldable younger_after : List ℕ → List Event → List ℕ
younger_after Y [] = Y
younger_after Y (joins u l ∷ es) = younger_after (u ∷ Y) es
younger_after Y (withdraws u ∷ es) = younger_after Y es
younger_after Y (admitted u ∷ es) = younger_after Y es
younger_after Y (granted ∷ es) = younger_after Y es

passes_last : (Y : List ℕ) (es : List Event) (e : Event) → passes Y (es ++ e ∷ []) ≡ passes Y es + passes (younger_after Y es) (e ∷ [])
unfolding passes younger_after
passes_last Y [] e = omega arith
passes_last Y (joins u l ∷ es) e = passes_last (u ∷ Y) es e
passes_last Y (withdraws u ∷ es) e = passes_last Y es e
passes_last Y (admitted u ∷ es) e = omega (arith, passes_last Y es e)
passes_last Y (granted ∷ es) e = omega (arith, passes_last Y es e)

-- tenant t joined in the course of the events
unfoldable joined_in : ℕ → List Event → Bool
joined_in t [] = false
joined_in t (joins u l ∷ es) = eqb u t || joined_in t es
joined_in t (withdraws u ∷ es) = joined_in t es
joined_in t (admitted u ∷ es) = joined_in t es
joined_in t (granted ∷ es) = joined_in t es

-- one is younger in the end if it joined, or was so before
younger_joined : (t : ℕ) (Y : List ℕ) (es : List Event) → among t (younger_after Y es) ≡ joined_in t es || among t Y
unfolding younger_after joined_in among
younger_joined t Y [] = refl
younger_joined t Y (joins u l ∷ es) = younger_joined t (u ∷ Y) es ∙ move (eqb u t) (joined_in t es) (among t Y)
  where
    move : (a b c : Bool) → b || (a || c) ≡ (a || b) || c
    move true b c = or-true b
    move false b c = refl
younger_joined t Y (withdraws u ∷ es) = younger_joined t Y es
younger_joined t Y (admitted u ∷ es) = younger_joined t Y es
younger_joined t Y (granted ∷ es) = younger_joined t Y es

-- who waits in the end joined
waits_entry : (t : ℕ) (w : Waiting) (W : List Waiting) (gone b : Bool) → (waits t W ≡ true → b ≡ true) → waits t (entry gone w W) ≡ true
    → eqb w.tenant t || b ≡ true
unfolding waits
waits_entry t w W true b rest in_line = rw (rest in_line) (or-true (eqb w.tenant t))
waits_entry t w W false b rest in_line = go (eqb w.tenant t) in_line
  where
    go : (is : Bool) → is || waits t W ≡ true → is || b ≡ true
    go true q = refl
    go false q = rest q

waits_joined : (t : ℕ) (es : List Event) → waits t (waiting_after es) ≡ true → joined_in t es ≡ true
unfolding waits waiting_after joined_in
waits_joined t [] w = w
waits_joined t (joins u l ∷ es) w =
    waits_entry t (record { tenant = u; level = l; passed = passes [] es }) (waiting_after es) (left u es) (joined_in t es) (waits_joined t es) w
waits_joined t (withdraws u ∷ es) w = waits_joined t es w
waits_joined t (admitted u ∷ es) w = waits_joined t es w
waits_joined t (granted ∷ es) w = waits_joined t es w

-- who joined and has not left waits
waits_not_entry : (t : ℕ) (w : Waiting) (W : List Waiting) (gone : Bool) → waits t (entry gone w W) ≡ false → waits t W ≡ false
unfolding waits
waits_not_entry t w W true out = out
waits_not_entry t w W false out = or_both (eqb w.tenant t) (waits t W) out

joined_waits : (t : ℕ) (es : List Event) → left t es ≡ false → waits t (waiting_after es) ≡ false → joined_in t es ≡ false
unfolding waits waiting_after joined_in left
joined_waits t [] stayed out = refl
joined_waits t (joins u l ∷ es) stayed out =
    go (ℕ_discrete u t) (joined_waits t es stayed (waits_not_entry t (record { tenant = u; level = l; passed = passes [] es }) _ (left u es) out))
  where
    go : Dec (u ≡ t) → joined_in t es ≡ false → eqb u t || joined_in t es ≡ false
    go (yes is) rest = absurd (false≢true (sym (rw (is, stayed, eq-eqb t t refl) at out)))
    go (no is_not) rest = rw (ne_eqb u t is_not) rest
joined_waits t (withdraws u ∷ es) stayed out = joined_waits t es (or_both (eqb u t) (left t es) stayed) out
joined_waits t (admitted u ∷ es) stayed out = joined_waits t es (or_both (eqb u t) (left t es) stayed) out
joined_waits t (granted ∷ es) stayed out = joined_waits t es stayed out

-- ---- the line after one event more

-- one that joined for level k some events ago
abbrev since : ℕ → ℕ → List Event → Waiting
since u k es = record { tenant = u; level = k; passed = passes [] es }

abbrev passed_by : Event → Waiting → List Event → Waiting
passed_by e w es = record { tenant = w.tenant; level = w.level; passed = w.passed + passes (younger_after [] es) (e ∷ []) }

-- the line of events that begin with a join, after one event more
last_entry : (u k : ℕ) (es : List Event) (e : Event) → waiting_after (joins u k ∷ es ++ e ∷ [])
    ≡ entry (left u es || left u (e ∷ [])) (passed_by e (since u k es) es) (waiting_after (es ++ e ∷ []))
unfolding waiting_after
last_entry u k es e = rw (left_last u es e, passes_last [] es e)

-- by n passes, none or one, it stays as it was or is passed once more
unpassed : (w : Waiting) (n : ℕ) → n ≡ 0 → record { tenant = w.tenant; level = w.level; passed = w.passed + n } ≡ w
unpassed w n e = ap (λ (p : ℕ). record { tenant = w.tenant; level = w.level; passed = p }) (omega arith)

once_passed : (w : Waiting) (n : ℕ) → n ≡ 1 → record { tenant = w.tenant; level = w.level; passed = w.passed + n } ≡ once_more w
once_passed w n e = ap (λ (p : ℕ). record { tenant = w.tenant; level = w.level; passed = p }) (omega arith)

-- what an admit of one that joined, or did not, adds to the passes
by_admit : (t : ℕ) (es : List Event) (b : Bool) → joined_in t es ≡ b → passes (younger_after [] es) (admitted t ∷ []) ≡ one_if b + 0
unfolding passes among
by_admit t es b e = ap (λ (c : Bool). one_if c + 0) (younger_joined t [] es ∙ or-false (joined_in t es) ∙ e)

-- a join: one more at the end
pub after_join : (t l : ℕ) (es : List Event) → waiting_after (es ++ joins t l ∷ []) ≡ joined t l (waiting_after es)
unfolding waiting_after left passes
after_join t l [] = refl
after_join t l (joins u k ∷ es) = last_entry u k es (joins t l) ∙ rw (or-false (left u es), after_join t l es) (go (left u es))
  where
    go : (gone : Bool) → entry gone (passed_by (joins t l) (since u k es) es) (joined t l (waiting_after es))
        ≡ joined t l (entry gone (since u k es) (waiting_after es))
    go true = refl
    go false = rw (unpassed (since u k es) 0 refl)
after_join t l (withdraws u ∷ es) = after_join t l es
after_join t l (admitted u ∷ es) = after_join t l es
after_join t l (granted ∷ es) = after_join t l es

-- a direct grant that gave a block: everybody is passed once more
pub after_grant : (es : List Event) → waiting_after (es ++ granted ∷ []) ≡ map once_more (waiting_after es)
unfolding waiting_after left passes
after_grant [] = refl
after_grant (joins u k ∷ es) = last_entry u k es granted ∙ rw (or-false (left u es), after_grant es) (go (left u es))
  where
    go : (gone : Bool) → entry gone (passed_by granted (since u k es) es) (map once_more (waiting_after es))
        ≡ map once_more (entry gone (since u k es) (waiting_after es))
    go true = refl
    go false = rw (once_passed (since u k es) 1 refl)
after_grant (withdraws u ∷ es) = after_grant es
after_grant (admitted u ∷ es) = after_grant es
after_grant (granted ∷ es) = after_grant es

-- ---- one that leaves

-- an event by which tenant t leaves, and no other
pub data Leaves (t : ℕ) : Event → Type 0 where
  by_withdrawal : Leaves t (withdraws t)
  by_admission : Leaves t (admitted t)

leaves_only : (t u : ℕ) (e : Event) → Leaves t e → left u (e ∷ []) ≡ eqb t u
unfolding left
leaves_only t u e by_withdrawal = or-false (eqb t u)
leaves_only t u e by_admission = or-false (eqb t u)

-- one that did not join leaves the line as it is
not_in_line : (t : ℕ) (e : Event) → Leaves t e → (es : List Event) → joined_in t es ≡ false → waiting_after (es ++ e ∷ []) ≡ waiting_after es
unfolding waiting_after joined_in passes among
not_in_line t e by_withdrawal [] out = refl
not_in_line t e by_admission [] out = refl
not_in_line t e leaves (joins u k ∷ es) out =
    last_entry u k es e
    ∙ rw (
      leaves_only t u e leaves,
      ne_eqb t u (λ is. absurd (go (sym is))),
      or-false (left u es),
      not_in_line t e leaves es (or_both (eqb u t) (joined_in t es) out),
      not_passed e leaves,
    )
  where
    go : u ≡ t → ⊥
    go is = false≢true (sym (rw (is, eq-eqb t t refl) at out))

    not_passed : (e : Event) → Leaves t e → passed_by e (since u k es) es ≡ since u k es
    not_passed e by_withdrawal = unpassed (since u k es) 0 refl
    not_passed e by_admission = unpassed (since u k es) _ (by_admit t es false (or_both (eqb u t) (joined_in t es) out))
not_in_line t e leaves (withdraws u ∷ es) out = not_in_line t e leaves es out
not_in_line t e leaves (admitted u ∷ es) out = not_in_line t e leaves es out
not_in_line t e leaves (granted ∷ es) out = not_in_line t e leaves es out

-- what it does to those in front: an admit passes them
unfoldable pub changing : {t : ℕ} {e : Event} → Leaves t e → Waiting → Waiting
changing by_withdrawal w = w
changing by_admission w = once_more w

-- one that waits leaves, and no other
pub after_leaving : (h : ℕ) (T : List ℕ) (t : ℕ) (e : Event) (leaves : Leaves t e) (es : List Event) → Orderly h T (waiting_after es)
    → waits t (waiting_after es) ≡ true → waiting_after (es ++ e ∷ []) ≡ leave (changing leaves) t (waiting_after es)
unfolding waiting_after waits leave passes among changing
after_leaving h T t e leaves [] orderly in_line = absurd (false≢true in_line)
after_leaving h T t e leaves (joins u k ∷ es) orderly in_line =
    last_entry u k es e ∙ rw (leaves_only t u e leaves) (go (left u es) refl orderly in_line (after_leaving h T t e leaves es))
  where
    passed_if_younger : {e : Event} (leaves : Leaves t e) → joined_in t es ≡ true → passed_by e (since u k es) es ≡ changing leaves (since u k es)
    passed_if_younger by_withdrawal in_line = unpassed (since u k es) 0 refl
    passed_if_younger by_admission in_line = once_passed (since u k es) _ (by_admit t es true in_line)

    go : (gone : Bool) → left u es ≡ gone → Orderly h T (entry gone (since u k es) (waiting_after es))
        → waits t (entry gone (since u k es) (waiting_after es)) ≡ true
        → (Orderly h T (waiting_after es) → waits t (waiting_after es) ≡ true
        → waiting_after (es ++ e ∷ []) ≡ leave (changing leaves) t (waiting_after es))
        → entry (gone || eqb t u) (passed_by e (since u k es) es) (waiting_after (es ++ e ∷ []))
        ≡ leave (changing leaves) t (entry gone (since u k es) (waiting_after es))
    go true stayed orderly in_line rest = rest orderly in_line
    go false stayed (before may alone orderly) in_line rest = by_tenant (ℕ_discrete u t)
      where
        by_tenant : Dec (u ≡ t) → entry (eqb t u) (passed_by e (since u k es) es) (waiting_after (es ++ e ∷ []))
            ≡ cond (eqb u t) (waiting_after es) (changing leaves (since u k es) ∷ leave (changing leaves) t (waiting_after es))
        by_tenant (yes is) =
            rw (eq-eqb t u (sym is), eq-eqb u t is) (not_in_line t e leaves es (joined_waits t es (rw is at stayed) (rw is at alone)))
        by_tenant (no is_not) =
            let behind = rw (ne_eqb u t is_not) at in_line in
            let younger = passed_if_younger leaves (waits_joined t es behind) in
            rw (ne_eqb t u (λ is. absurd (is_not (sym is))), ne_eqb u t is_not, younger, rest orderly behind)
after_leaving h T t e leaves (withdraws u ∷ es) orderly in_line = after_leaving h T t e leaves es orderly in_line
after_leaving h T t e leaves (admitted u ∷ es) orderly in_line = after_leaving h T t e leaves es orderly in_line
after_leaving h T t e leaves (granted ∷ es) orderly in_line = after_leaving h T t e leaves es orderly in_line
