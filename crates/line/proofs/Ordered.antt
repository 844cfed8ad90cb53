-- The test for a line in order decides it; the numbers of an orderly line are in order, and numbers in order have the form of a line.
use mathlib.Core.Path.{◌≡◌, refl, sym, ap, ap₂, ◌∙◌}
use mathlib.Core.Logic.{◌↔◌}
use mathlib.Core.Bool.{true, false, not, ◌&&◌}
use mathlib.Core.List.{List, [], ◌∷◌}
use Prim.Native.Nat.{ℕ, zero, suc, ◌+◌, ◌*◌, ◌-◌, ◌≤◌, ◌<◌}
use native.Mathlib.Nat.{zero-add}
use native.Mathlib.Omega.{arith}
use borrow.Author.Tests.{leb-true, le-leb, lt-leb, eqb-true, eq-eqb, ne_eqb, lt-ltb, not-true}
use lib.Dec.{leb, eqb}
use lib.ListN.{length, get_or, take, drop, replicate, length-drop, take-append-drop}
use lib.Seq.{take_all, drop-cons, drop-drop, drop_at}
use Rattle.tree.proofs.Sets.{both_left, both_right}
use Rattle.table.specs.Table.{node_at, tally}
use Rattle.table.specs.Owners.{used_in}
use Rattle.line.specs.Line.{Waiting, triples, line_of, at, standing, waiting_count, waiting_in}
use Rattle.line.specs.Order.{waits, MayWait, Orderly, nobody, before, LineInOrder, zeros?, may_wait?, orderly?, line_in_order?}
use Rattle.line.specs.Changes.{InForm}
use Rattle.line.proofs.Numbers.{length_triples, length_standing, getD_waiting, read_of_line}

-- ---- zeros

-- nothing but zeros: none is used
zeros_unused : (xs : List ℕ) → zeros? xs ≡ eqb (used_in xs) 0
unfolding zeros? tally
zeros_unused [] = refl
zeros_unused (zero ∷ xs) = zeros_unused xs ∙ ap (λ (n : ℕ). eqb n 0) (sym (zero-add (used_in xs)))
zeros_unused (suc x ∷ xs) =
    let used : ¬ (suc x ≡ 0) = omega arith in
    let some : ¬ (1 + used_in xs ≡ 0) = omega arith in
    rw (ne_eqb (suc x) 0 used, lt-ltb 0 (suc x) (omega arith)) (sym (ne_eqb (1 + used_in xs) 0 some))

zeros_are : (xs : List ℕ) → zeros? xs ≡ true → xs ≡ replicate (length xs) 0
unfolding zeros?
zeros_are [] e = refl
zeros_are (x ∷ xs) e =
    let first = eqb-true x 0 (both_left (eqb x 0) (zeros? xs) e) in
    ap₂ (λ (y : ℕ) (ys : List ℕ). y ∷ ys) first (zeros_are xs (both_right (eqb x 0) (zeros? xs) e))

are_zeros : (n : ℕ) → zeros? (replicate n 0) ≡ true
unfolding zeros?
are_zeros zero = refl
are_zeros (suc n) = are_zeros n

-- ---- the test, condition by condition

module _ (h : ℕ) (T L : List ℕ) where
  pub disorder_many : 64 < waiting_count L → line_in_order? h T L ≡ false
  unfolding line_in_order?
  disorder_many p = rw (lt-leb (waiting_count L) 64 p)

  -- u of the numbers behind those who wait are used
  module _ (few : waiting_count L ≤ 64) (u : ℕ)
      (used : u ≡ used_in (take (length L - (3 * waiting_count L + 1)) (drop (3 * waiting_count L + 1) L))) where
    abbrev behind : List ℕ
    behind = drop (3 * waiting_count L + 1) L

    zeros_behind : zeros? behind ≡ eqb u 0
    zeros_behind =
        let end : ℕ = length L - (3 * waiting_count L + 1) in
        zeros_unused behind
        ∙ ap (λ (xs : List ℕ). eqb (used_in xs) 0) (sym (take_all end behind (omega (arith, length-drop (3 * waiting_count L + 1) L))))
        ∙ ap (λ (n : ℕ). eqb n 0) (sym used)

    pub disorder_used : ¬ (u ≡ 0) → line_in_order? h T L ≡ false
    unfolding line_in_order?
    disorder_used d = rw (le-leb (waiting_count L) 64 few, zeros_behind, ne_eqb u 0 d)

    pub in_order_if_orderly : u ≡ 0 → line_in_order? h T L ≡ orderly? h T (waiting_in L)
    unfolding line_in_order?
    in_order_if_orderly e = rw (le-leb (waiting_count L) 64 few, zeros_behind, eq-eqb u 0 e)

-- ---- numbers that are followed by zeros

triples_standing : (L : List ℕ) (i n : ℕ) → 3 * (i + n) + 1 ≤ length L → triples (standing L i n) ≡ take (3 * n) (drop (3 * i + 1) L)
unfolding triples
triples_standing L i zero p = refl
triples_standing L i (suc n) p =
    let more : 3 * suc n ≡ suc (suc (suc (3 * n))) = omega arith in
    let second : 3 * i + 2 ≡ suc (3 * i + 1) = omega arith in
    let third : 3 * i + 3 ≡ suc (suc (3 * i + 1)) = omega arith in
    let next : 3 * suc i + 1 ≡ suc (suc (suc (3 * i + 1))) = omega arith in
    let a = 3 * i + 1 in
    rw (
      more,
      second,
      third,
      triples_standing L (suc i) n (omega arith),
      next,
      drop-cons L a 0 (omega arith),
      drop-cons L (suc a) 0 (omega arith),
      drop-cons L (suc (suc a)) 0 (omega arith),
    )

line_of_zeros : (L : List ℕ) (n : ℕ) → length L ≡ 193 → waiting_count L ≡ n → n ≤ 64 → zeros? (drop (3 * n + 1) L) ≡ true
    → L ≡ line_of (standing L 0 n)
unfolding line_of
line_of_zeros L n long c few z =
    let behind : List ℕ = drop (3 * n + 1) L in
    let room : length behind ≡ 3 * (64 - n) = omega (arith, length-drop (3 * n + 1) L) in
    let index : 1 + 3 * n ≡ 3 * n + 1 = omega arith in
    let front : triples (standing L 0 n) ≡ take (3 * n) (drop 1 L) = triples_standing L 0 n (omega arith) in
    let rest : drop (3 * n) (drop 1 L) ≡ replicate (3 * (64 - n)) 0 =
    drop-drop (3 * n) 1 L ∙ ap (λ (j : ℕ). drop j L) index ∙ zeros_are behind z ∙ ap (λ (k : ℕ). replicate k 0) room in
    drop-cons L 0 0 (omega arith)
    ∙ ap₂ (λ (k : ℕ) (xs : List ℕ). k ∷ xs) c (sym (take-append-drop (3 * n) (drop 1 L)))
    ∙ rw (length_standing L 0 n, front, rest)

zeros_of_line : (W : List Waiting) → zeros? (drop (3 * length W + 1) (line_of W)) ≡ true
unfolding line_of
zeros_of_line W =
    let zeros : List ℕ = replicate (3 * (64 - length W)) 0 in
    rw (drop_at (length W ∷ triples W) zeros (3 * length W + 1) (omega (arith, length_triples W))) (are_zeros (3 * (64 - length W)))

-- ---- the tests decide

module _ (h : ℕ) (T : List ℕ) where
  may_wait_of : (w : Waiting) → may_wait? h T w ≡ true → MayWait h T w
  may_wait_of w e =
      let low = leb w.passed 8 in
      let fits = leb w.level h in
      let number = leb w.tenant 4095 in
      let none = eqb (node_at T w.tenant) 0 in
      let first_three = both_left (low && fits && number) none e in
      let first_two = both_left (low && fits) number first_three in
      record {
        passed = leb-true w.passed 8 (both_left low fits first_two);
        level = leb-true w.level h (both_right low fits first_two);
        tenant = leb-true w.tenant 4095 (both_right (low && fits) number first_three);
        holds_none = eqb-true (node_at T w.tenant) 0 (both_right (low && fits && number) none e);
      }

  of_may_wait : (w : Waiting) → MayWait h T w → may_wait? h T w ≡ true
  of_may_wait w m =
      rw (
        le-leb w.passed 8 m.passed,
        le-leb w.level h m.level,
        le-leb w.tenant 4095 m.tenant,
      )
      (eq-eqb (node_at T w.tenant) 0 m.holds_none)

  orderly_of : (W : List Waiting) → orderly? h T W ≡ true → Orderly h T W
  unfolding orderly?
  orderly_of [] e = nobody
  orderly_of (w ∷ W) e =
      let may = may_wait? h T w in
      let once = not (waits w.tenant W) in
      let here = both_left (may && once) (orderly? h T W) e in
      before (may_wait_of w (both_left may once here)) (not-true (waits w.tenant W) (both_right may once here))
      (orderly_of W (both_right (may && once) (orderly? h T W) e))

  of_orderly : {W : List Waiting} → Orderly h T W → orderly? h T W ≡ true
  unfolding orderly?
  of_orderly nobody = refl
  of_orderly (before {w = w} {W = W} may once rest) = rw (of_may_wait w may, once) (of_orderly rest)

  pub orderly_at : {W : List Waiting} → Orderly h T W → (i : ℕ) (d : Waiting) → i < length W → MayWait h T (get_or W i d)
  orderly_at nobody i d p = absurd (omega arith)
  orderly_at (before may once rest) zero d p = may
  orderly_at (before may once rest) (suc i) d p = orderly_at rest i d (omega arith)

module _ (h : ℕ) (T L : List ℕ) where
  in_order_of : length L ≡ 193 → line_in_order? h T L ≡ true → LineInOrder h T L
  unfolding line_in_order?
  in_order_of long e =
      let n = waiting_count L in
      let few? = leb n 64 in
      let zeros = zeros? (drop (3 * n + 1) L) in
      let first_two = both_left (few? && zeros) (orderly? h T (waiting_in L)) e in
      let few = leb-true n 64 (both_left few? zeros first_two) in
      record {
        few = rw (length_standing L 0 n) few;
        numbers = line_of_zeros L n long refl few (both_right few? zeros first_two);
        orderly = orderly_of h T (waiting_in L) (both_right (few? && zeros) (orderly? h T (waiting_in L)) e);
      }

  of_in_order : LineInOrder h T L → line_in_order? h T L ≡ true
  unfolding line_in_order?
  of_in_order r =
      let n = waiting_count L in
      let count_is = length_standing L 0 n in
      let zeros = ap₂ (λ (k : ℕ) (l : List ℕ). zeros? (drop (3 * k + 1) l)) (sym count_is) r.numbers ∙ zeros_of_line (waiting_in L) in
      rw (le-leb n 64 (omega (arith, r.few)), zeros) (of_orderly h T r.orderly)

  pub decides_line : length L ≡ 193 → (line_in_order? h T L ≡ true) ↔ LineInOrder h T L
  decides_line long = (in_order_of long, of_in_order)

  pub in_form : LineInOrder h T L → InForm L
  in_form r = record { few = r.few; numbers = r.numbers; seldom = λ i p. seldom i p }
    where
      seldom : (i : ℕ) → i < waiting_count L → (at L i).passed ≤ 8
      seldom i p =
          let waiting : i < length (waiting_in L) = rw (length_standing L 0 (waiting_count L)) p in
          (rw (getD_waiting L i (at L i) p) at (orderly_at h T r.orderly i (at L i) waiting)).passed

pub line_of_orderly : (h : ℕ) (T : List ℕ) (W : List Waiting) → length W ≤ 64 → Orderly h T W → LineInOrder h T (line_of W)
line_of_orderly h T W few o =
    let same = read_of_line W in
    record { few = rw same few; numbers = rw same; orderly = rw same o }
