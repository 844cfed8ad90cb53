-- Numbers and their bytes: one more number at the end, and there and back.
use mathlib.Core.Path.{◌≡◌, refl, sym, ap, ap₂, ◌∙◌}
use mathlib.Core.List.{List, [], ◌∷◌, ◌++◌, append_assoc, append-nil}
use Prim.Native.Nat.{ℕ, zero, suc, ◌+◌, ◌*◌, ◌≤◌, ◌<◌}
use native.Mathlib.Numerals.{add-one}
use native.Mathlib.Omega.{arith}
use borrow.Author.Tests.{eq-eqb, ne_eqb}
use lib.ListN.{length, get_or, take, drop, set, replicate, length-append, length-drop, drop_of_length-le}
use lib.Seq.{take_all, drop-cons, drop-drop, take-suc, take-suc-set, take_at, length-take-le, drop-append-add, sets, sets-eq}
use Rattle.plans.specs.Plan.{no_move}
use Rattle.table.specs.declared.Move.{Move}
use Rattle.journal.specs.Format.{low, high, word_at}
use Rattle.journal.proofs.Fields.{word_low_high, low_word, high_word}
use Rattle.journal.specs.Journal.{Bytes}
use Rattle.image.specs.Image.{image_of, numbers_in, lent_as, numbers_of, move_bytes}

-- ---- lengths

pub image_length : (ns : List ℕ) → length (image_of ns) ≡ 2 * length ns
unfolding image_of
image_length [] = refl
image_length (n ∷ ns) = omega (arith, image_length ns)

numbers_of_length : (ms : List Move) → length (numbers_of ms) ≡ 4 * length ms
unfolding numbers_of
numbers_of_length [] = refl
numbers_of_length (m ∷ ms) = omega (arith, numbers_of_length ms)

pub move_bytes_length : (ms : List Move) → length (move_bytes ms) ≡ 8 * length ms
move_bytes_length ms = omega (arith, image_length (numbers_of ms), numbers_of_length ms)

-- ---- one more at the end

image_append : (a b : List ℕ) → image_of (a ++ b) ≡ image_of a ++ image_of b
unfolding image_of
image_append [] b = refl
image_append (n ∷ a) b = rw (image_append a b)

numbers_append : (a b : List Move) → numbers_of (a ++ b) ≡ numbers_of a ++ numbers_of b
unfolding numbers_of
numbers_append [] b = refl
numbers_append (m ∷ a) b = rw (numbers_append a b)

image_of_more : (T : List ℕ) (i : ℕ) → i < length T → image_of (take (i + 1) T) ≡ image_of (take i T) ++ image_of (get_or T i 0 ∷ [])
image_of_more T i p = rw (add-one, take-suc T i 0 p) (image_append (take i T) (get_or T i 0 ∷ []))

move_bytes_of_more : (ms : List Move) (i : ℕ) → i < length ms
    → move_bytes (take (i + 1) ms) ≡ move_bytes (take i ms) ++ move_bytes (get_or ms i no_move ∷ [])
move_bytes_of_more ms i p =
    let m = get_or ms i no_move in
    rw (add-one, take-suc ms i no_move p, numbers_append (take i ms) (m ∷ [])) (image_append (numbers_of (take i ms)) (numbers_of (m ∷ [])))

-- a run of stores right behind what is done
module _ (done s : List ℕ) (at : ℕ) (e : length done ≡ at) where
  past_done : (k : ℕ) → drop (at + k) (done ++ drop at s) ≡ drop (at + k) s
  past_done k = ap (λ (n : ℕ). drop (n + k) (done ++ drop at s)) (sym e) ∙ drop-append-add done (drop at s) k ∙ drop-drop k at s

  stored_behind : (vs : List ℕ) → at + length vs ≤ length s → sets (done ++ drop at s) at vs ≡ (done ++ vs) ++ drop (at + length vs) s
  stored_behind vs p =
      sets-eq vs (done ++ drop at s) at (omega (arith, length-append done (drop at s), length-drop at s))
      ∙ ap₂ (λ (a b : List ℕ). a ++ vs ++ b) (take_at done (drop at s) at e) (past_done (length vs))

pub encoded_more : (image₀ nodes image : List ℕ) (i : ℕ) → image ≡ image_of (take i nodes) ++ drop (2 * i) image₀
    → i < length nodes → 2 * i + 2 ≤ length image₀
    → set (set image (2 * i) (low (get_or nodes i 0))) (2 * i + 1) (high (get_or nodes i 0))
    ≡ image_of (take (i + 1) nodes) ++ drop (2 * (i + 1)) image₀
unfolding image_of
encoded_more image₀ nodes image i inv p q =
    let done = image_of (take i nodes) in
    let e : length done ≡ 2 * i = omega (arith, image_length (take i nodes), length-take-le i nodes (omega arith)) in
    let next : 2 * (i + 1) ≡ 2 * i + 2 = omega arith in
    rw (inv, add-one (2 * i), next, image_of_more nodes i p) (stored_behind done image₀ (2 * i) e (image_of (get_or nodes i 0 ∷ [])) q)

pub encoded_all : (image₀ nodes image : List ℕ) (n : ℕ) → n ≡ length nodes → image ≡ image_of (take n nodes) ++ drop (2 * n) image₀
    → length image₀ ≡ 2 * length nodes → image ≡ image_of nodes
encoded_all image₀ nodes image n all inv q =
    let whole : take n nodes ≡ nodes = take_all n nodes (omega arith) in
    let none : drop (2 * n) image₀ ≡ [] = drop_of_length-le image₀ {i = 2 * n} (omega arith) in
    inv ∙ ap₂ (λ (a b : List ℕ). image_of a ++ b) whole none ∙ append-nil (image_of nodes)

pub put_more : (list₀ : List ℕ) (ms : List Move) (list : List ℕ) (i : ℕ) → list ≡ move_bytes (take i ms) ++ drop (8 * i) list₀
    → i < length ms → 8 * i + 8 ≤ length list₀
    → sets list (8 * i) (move_bytes (get_or ms i no_move ∷ [])) ≡ move_bytes (take (i + 1) ms) ++ drop (8 * (i + 1)) list₀
unfolding image_of numbers_of
put_more list₀ ms list i inv p q =
    let done = move_bytes (take i ms) in
    let e : length done ≡ 8 * i = omega (arith, move_bytes_length (take i ms), length-take-le i ms (omega arith)) in
    let next : 8 * (i + 1) ≡ 8 * i + 8 = omega arith in
    rw (inv, next, move_bytes_of_more ms i p) (stored_behind done list₀ (8 * i) e (move_bytes (get_or ms i no_move ∷ [])) q)

-- a number stored as two bytes; four of them one after the other are one run
abbrev stored : List ℕ → ℕ → ℕ → List ℕ
stored l i n = set (set l i (low n)) (i + 1) (high n)

pub four_numbers : (l : List ℕ) (at a b c d : ℕ)
    → stored (stored (stored (stored l at a) (at + 2) b) (at + 4) c) (at + 6) d ≡ sets l at (image_of (a ∷ b ∷ c ∷ d ∷ []))
unfolding image_of
four_numbers l at a b c d =
    let seven : at + 6 + 1 ≡ suc (suc (suc (suc (suc (suc (suc at)))))) = omega arith in
    let six : at + 6 ≡ suc (suc (suc (suc (suc (suc at))))) = omega arith in
    let five : at + 4 + 1 ≡ suc (suc (suc (suc (suc at)))) = omega arith in
    let four : at + 4 ≡ suc (suc (suc (suc at))) = omega arith in
    let three : at + 2 + 1 ≡ suc (suc (suc at)) = omega arith in
    let two : at + 2 ≡ suc (suc at) = omega arith in
    rw (seven, six, five, four, three, two, add-one at)

-- ---- the numbers of an image

pub lent_as_none : (n : ℕ) (image : List ℕ) → ¬ (length image ≡ 2 * n) → lent_as n image ≡ []
unfolding lent_as
lent_as_none n image ne = rw (ne_eqb (length image) (2 * n) ne)

pub lent_as_all : (n : ℕ) (image : List ℕ) → length image ≡ 2 * n → lent_as n image ≡ numbers_in image
unfolding lent_as
lent_as_all n image e = rw (eq-eqb (length image) (2 * n) e)

-- ---- one number more read

next_number : (s : List ℕ) (i : ℕ) → 2 * i + 1 < length s
    → numbers_in (drop (2 * i) s) ≡ word_at s (2 * i) ∷ numbers_in (drop (2 * (i + 1)) s)
unfolding numbers_in
next_number s i p =
    let two : 2 * (i + 1) ≡ suc (suc (2 * i)) = omega arith in
    rw (two, add-one (2 * i), drop-cons s (2 * i) 0 (omega arith), drop-cons s (suc (2 * i)) 0 (omega arith))

pub decoded_more : (s nodes : List ℕ) (i : ℕ) → take i nodes ++ numbers_in (drop (2 * i) s) ≡ numbers_in s
    → i < length nodes → 2 * i + 1 < length s
    → take (i + 1) (set nodes i (word_at s (2 * i))) ++ numbers_in (drop (2 * (i + 1)) s) ≡ numbers_in s
decoded_more s nodes i inv p q =
    let w = word_at s (2 * i) in
    let rest = numbers_in (drop (2 * (i + 1)) s) in
    ap (λ (k : ℕ). take k (set nodes i w) ++ rest) (add-one i)
    ∙ ap (λ (l : List ℕ). l ++ rest) (take-suc-set nodes i w p)
    ∙ append_assoc (take i nodes) (w ∷ []) rest
    ∙ ap (λ (l : List ℕ). take i nodes ++ l) (sym (next_number s i q))
    ∙ inv

pub decoded_all : (s numbers : List ℕ) (i : ℕ) → i ≡ length numbers → length s ≡ 2 * length numbers
    → take i numbers ++ numbers_in (drop (2 * i) s) ≡ numbers_in s → numbers ≡ numbers_in s
unfolding numbers_in
decoded_all s numbers i all e inv =
    sym (append-nil numbers)
    ∙ ap₂ (λ (a b : List ℕ). a ++ numbers_in b) (sym (take_all i numbers (omega arith))) (sym (drop_of_length-le s {i = 2 * i} (omega arith)))
    ∙ inv

-- the number at a place of an image is that of its two bytes
pub number_at : (s : List ℕ) (i : ℕ) → 2 * i + 1 < length s → get_or (numbers_in s) i 0 ≡ word_at s (2 * i)
unfolding numbers_in
number_at [] i p = absurd (omega arith)
number_at (lo ∷ []) i p = absurd (omega arith)
number_at (lo ∷ hi ∷ s) zero p = refl
number_at (lo ∷ hi ∷ s) (suc i) p =
    let two : 2 * suc i ≡ suc (suc (2 * i)) = omega arith in
    let next = number_at s i (omega arith) in
    rw (two, add-one (suc (suc (2 * i)))) (rw (add-one (2 * i)) at next)

-- ---- there and back

numbers_of_image : (T : List ℕ) → numbers_in (image_of T) ≡ T
unfolding numbers_in image_of
numbers_of_image [] = refl
numbers_of_image (n ∷ T) = ap₂ (λ (x : ℕ) (xs : List ℕ). x ∷ xs) (word_low_high n) (numbers_of_image T)

-- n numbers are what their image stands for
pub numbers_of_their_image : (n : ℕ) (T : List ℕ) → length T ≡ n → lent_as n (image_of T) ≡ T
numbers_of_their_image n T e = lent_as_all n (image_of T) (omega (arith, image_length T)) ∙ numbers_of_image T

image_of_numbers : (k : ℕ) (s : List ℕ) → length s ≡ 2 * k → Bytes s → image_of (numbers_in s) ≡ s
unfolding numbers_in image_of
image_of_numbers k [] e b = refl
image_of_numbers k (lo ∷ []) e b = absurd (omega arith)
image_of_numbers zero (lo ∷ hi ∷ s) e b = absurd (omega arith)
image_of_numbers (suc k) (lo ∷ hi ∷ s) e b =
    rw (low_word lo hi (b 0), high_word lo hi (b 0), image_of_numbers k s (omega arith) (λ i. b (suc (suc i))))

-- 2n bytes are n numbers
pub numbers_length : (n : ℕ) (s : List ℕ) → length s ≡ 2 * n → length (numbers_in s) ≡ n
unfolding numbers_in
numbers_length n [] e = omega arith
numbers_length n (lo ∷ []) e = absurd (omega arith)
numbers_length zero (lo ∷ hi ∷ s) e = absurd (omega arith)
numbers_length (suc n) (lo ∷ hi ∷ s) e = ap suc (numbers_length n s (omega arith))

-- the image of zeros
pub image_of_zeros : (n : ℕ) → image_of (replicate n 0) ≡ replicate (2 * n) 0
unfolding image_of
image_of_zeros zero = refl
image_of_zeros (suc n) =
    let two : 2 * suc n ≡ suc (suc (2 * n)) = omega arith in
    rw two (ap (λ (l : List ℕ). 0 ∷ 0 ∷ l) (image_of_zeros n))

-- the image of what 2n bytes stand for is those bytes: to write numbers back that did not change changes no byte
pub image_of_lent : (n : ℕ) (image : List ℕ) → length image ≡ 2 * n → Bytes image → image_of (lent_as n image) ≡ image
image_of_lent n image e b = rw (lent_as_all n image e) (image_of_numbers n image e b)

-- the image of numbers of 16 bits is made of bytes
pub image_bytes : (T : List ℕ) → ((i : ℕ) → get_or T i 0 < 65536) → Bytes (image_of T)
unfolding image_of
image_bytes [] p i = omega arith
image_bytes (n ∷ T) p zero = omega arith
image_bytes (n ∷ T) p (suc zero) = omega (arith, p 0)
image_bytes (n ∷ T) p (suc (suc i)) = image_bytes T (λ j. p (suc j)) i
