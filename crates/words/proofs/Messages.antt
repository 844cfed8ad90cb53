-- A message grows at its end, as far as there is room.
use mathlib.Core.Path.{◌≡◌, refl, sym, ap, ◌∙◌}
use mathlib.Core.List.{List, [], ◌∷◌, ◌++◌, append_assoc}
use Prim.Native.Nat.{ℕ, zero, suc, ◌+◌, ◌-◌, ◌≤◌, min}
use native.Mathlib.Omega.{arith}
use Rattle.std.proofs.lemmas.List.{take_min}
use Rattle.std.proofs.Math.Nat.{min_comm}
use Rattle.std.proofs.lemmas.Grind.{common_steps}
use native.Mathlib.Nat.{add_assoc, min-le_left, min-le_right}
use native.Mathlib.Numerals.{unary_clauses}
use lib.ListN.{length, take, drop, length-append}
use lib.Seq.{paste, length-take-le, length-paste, take-paste, drop-paste, drop-drop}
use Rattle.words.specs.Message.{Begins, Appended}
use Rattle.words.specs.Writing.{Adds}
use Rattle.words.specs.declared.Writer.{Writer}

take_of_append : (n : ℕ) (s more : List ℕ) → take n (s ++ more) ≡ take n s ++ take (n - length (take n s)) more
take_of_append zero s more = refl
take_of_append (suc n) [] more = simp unary_clauses refl
take_of_append (suc n) (x ∷ s) more = simp unary_clauses (ap (λ (l : List ℕ). x ∷ l) (take_of_append n s more))

take_least : (n : ℕ) (s : List ℕ) → take (min (length s) n) s ≡ take n s
take_least n s = ap (λ k. take k s) (min_comm (length s) n) ∙ take_min n s

-- ---- two parts, the second behind the first

-- as many elements of both as there is room for
take_both : (room : ℕ) (s more : List ℕ) → let a = min (length s) room in
    take (min (length (s ++ more)) room) (s ++ more) ≡ take a s ++ take (min (length more) (room - a)) more
take_both room s more =
    let a = min (length s) room in
    take_least room (s ++ more)
    ∙ take_of_append room s more
    ∙ ap (λ (l : List ℕ). l ++ take (room - length l) more) (sym (take_least room s))
    ∙ ap (λ (j : ℕ). take a s ++ take (room - j) more) (length-take-le a s (min-le_left (length s) room))
    ∙ ap (λ (l : List ℕ). take a s ++ l) (sym (take_least (room - a) more))

min_both : (x y room : ℕ) → min x room + min y (room - min x room) ≡ min (x + y) room
min_both x y room = omega arith

appended_more : (s more before text after : List ℕ) (n k r : ℕ) → n ≤ length before
    → Appended n s before k text → Appended k more text r after → Appended n (s ++ more) before r after
appended_more s more before text after n k r within first second =
    let room = length before - n in
    let a = min (length s) room in
    let b = min (length more) (room - a) in
    let fits : n + a ≤ length before = omega (arith, min-le_right (length s) room) in
    let short : a ≤ length s = min-le_left (length s) room in
    let long : length text ≡ length before = ap length first.text ∙ length-paste before n s a fits short in
    let left : length text - k ≡ room - a = rw (long, first.count) (omega arith) in
    let both : a + b ≡ min (length (s ++ more)) room = min_both (length s) (length more) room ∙ rw length-append in
    let front : take (n + a) text ≡ take n before ++ take a s = ap (take (n + a)) first.text ∙ take-paste before n s a within short in
    let rest : drop (n + a) text ≡ drop (n + a) before = ap (drop (n + a)) first.text ∙ drop-paste before n s a within short in
    record {
      count = second.count ∙ rw (left, first.count, ← both) (omega arith);
      text = second.text
          ∙ ap (λ (j : ℕ). paste text k more (min (length more) j)) left
          ∙ ap (λ (j : ℕ). paste text j more b) first.count
          ∙ ap (λ (l : List ℕ). l ++ take b more ++ drop (n + a + b) text) front
          ∙ ap (λ (l : List ℕ). take n before ++ take a s ++ take b more ++ l)
          (sym (drop-drop b (n + a) text) ∙ ap (drop b) rest ∙ drop-drop b (n + a) before)
          ∙ ap (λ (l : List ℕ). l ++ drop (n + a + b) before) (append_assoc (take n before) (take a s) (take b more))
          ∙ ap (λ (l : List ℕ). take n before ++ l ++ drop (n + a + b) before) (sym (take_both room s more))
          ∙ ap (λ (j : ℕ). take n before ++ take (min (length (s ++ more)) room) (s ++ more) ++ drop j before)
          (add_assoc n a b ∙ ap (λ (j : ℕ). n + j) both);
    }

-- what is put behind a first part is put behind both
pub adds_more : {a b c : Writer} {s more : List ℕ} → Adds a s b → Adds b more c → Adds a (s ++ more) c
adds_more {a} {b} {c} {s} {more} first second = record {
  same_text = second.same_text ∙ first.same_text;
  appended = appended_more s more a.text.now b.text.now c.text.now a.n b.n c.n a.within first.appended second.appended;
}

-- what is put to the start of lent bytes begins them
pub begins : {a b : Writer} {s text : List ℕ} → Adds a s b → a.n ≡ 0 → text ≡ b.text.now → Begins s a.text.now b.n text
begins {a} {b} {s} {text} first start e =
    let at_start = rw start at first.appended in
    rw e (grind (arith, common_steps, at_start.count, at_start.text))
