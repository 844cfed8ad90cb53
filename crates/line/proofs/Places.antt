-- Places in a line: that of a tenant, that of the one who is chosen, and what leaving from a place keeps in order.
use mathlib.Core.Path.{◌≡◌, refl, sym, ap, ap₂, ◌∙◌}
use mathlib.Core.Bool.{Bool, true, false, cond, ◌||◌, or-true}
use mathlib.Core.List.{List, [], ◌∷◌, ◌++◌, map, map-id}
use mathlib.Core.Option.{some, none}
use Prim.Native.Nat.{ℕ, zero, suc, ◌+◌, ◌≤◌, ◌<◌}
use native.Mathlib.Numerals.{add-one}
use native.Mathlib.Omega.{arith}
use borrow.Author.Tests.{eqb-false, eq-eqb, ne_eqb, lt-ltb, leb-false, lt-leb}
use lib.Dec.{eqb, ltb, leb-suc-suc}
use lib.ListN.{length, get_or, take, drop, length-map}
use lib.Seq.{length-take-le, take_at, drop-append-add, drop-drop}
use Rattle.table.specs.Table.{node_at}
use Rattle.line.specs.Line.{Waiting}
use Rattle.line.specs.Order.{waits, MayWait, Orderly, nobody, before}
use Rattle.line.specs.Changes.{eight, barred, joined, once_more, leave, choose, place_of, place_chosen, front, without}

-- ---- tests

true_false : (b : Bool) → b ≡ true → b ≡ false → ⊥
true_false b e f = let z : ◌≡◌ {A = ℕ} 0 1 = cc in omega arith

-- two tests of which none passes
neither_left : (a b : Bool) → (a || b) ≡ false → a ≡ false
neither_left true b e = e
neither_left false b e = refl

neither_right : (a b : Bool) → (a || b) ≡ false → b ≡ false
neither_right true b e = absurd (true_false true refl e)
neither_right false b e = e

-- ---- the place of a tenant

-- a tenant waits exactly if its place is not behind the last
pub waits_by_place : (t : ℕ) (W : List Waiting) → waits t W ≡ ltb (place_of t W) (length W)
unfolding waits place_of
waits_by_place t [] = refl
waits_by_place t (w ∷ W) = by_test (eqb w.tenant t) (waits_by_place t W)
  where
    by_test : (b : Bool) → waits t W ≡ ltb (place_of t W) (length W) → (b || waits t W) ≡ ltb (cond b 0 (suc (place_of t W))) (suc (length W))
    by_test true e = sym (lt-ltb 0 (suc (length W)) (omega arith))
    by_test false e = e ∙ sym (leb-suc-suc (suc (place_of t W)) (length W))

-- who leaves the line leaves its place; f changes those in front of it
pub leave_by_place : (f : Waiting → Waiting) (t : ℕ) (W : List Waiting) → waits t W ≡ true
    → leave f t W ≡ map f (take (place_of t W) W) ++ drop (suc (place_of t W)) W
unfolding waits leave place_of
leave_by_place f t [] e = absurd (true_false false e refl)
leave_by_place f t (w ∷ W) e = by_test (eqb w.tenant t) e (leave_by_place f t W)
  where
    by_test : (b : Bool) → (b || waits t W) ≡ true
        → (waits t W ≡ true → leave f t W ≡ map f (take (place_of t W) W) ++ drop (suc (place_of t W)) W)
        → cond b W (f w ∷ leave f t W)
        ≡ map f (take (cond b 0 (suc (place_of t W))) (w ∷ W)) ++ drop (suc (cond b 0 (suc (place_of t W)))) (w ∷ W)
    by_test true e rest = refl
    by_test false e rest = ap (λ (U : List Waiting). f w ∷ U) (rest e)

pub withdraw_by_place : (t : ℕ) (W : List Waiting) → waits t W ≡ true → leave (λ w. w) t W ≡ without (place_of t W) W
withdraw_by_place t W e = leave_by_place (λ w. w) t W e ∙ rw map-id

-- ---- the place of the one who is chosen

-- at place k stands the first whose level fits, with nobody in front of it who was passed eight times
data Chosen (fits : ℕ → Bool) : List Waiting → ℕ → Type 0 where
  here : {w : Waiting} {W : List Waiting} → fits w.level ≡ true → Chosen fits (w ∷ W) 0
  further : {w : Waiting} {W : List Waiting} {k : ℕ} → fits w.level ≡ false → w.passed < 8 → Chosen fits W k → Chosen fits (w ∷ W) (suc k)

module _ (fits : ℕ → Bool) where
  chosen : (W : List Waiting) → place_chosen fits W < length W → Chosen fits W (place_chosen fits W)
  unfolding place_chosen
  chosen [] p = absurd (omega arith)
  chosen (w ∷ W) p = by_tests (fits w.level) refl (eight w) refl p (chosen W)
    where
      by_tests : (b : Bool) → fits w.level ≡ b → (e : Bool) → eight w ≡ e
          → cond b 0 (suc (cond e (length W) (place_chosen fits W))) < suc (length W)
          → (place_chosen fits W < length W → Chosen fits W (place_chosen fits W))
          → Chosen fits (w ∷ W) (cond b 0 (suc (cond e (length W) (place_chosen fits W))))
      by_tests true s e q p rest = here s
      by_tests false s true q p rest = absurd (omega arith)
      by_tests false s false q p rest = further s (leb-false 8 w.passed q) (rest (omega arith))

  choose_of : {W : List Waiting} {k : ℕ} → Chosen fits W k → (d : Waiting) → choose fits W ≡ some (get_or W k d)
  unfolding choose
  choose_of (here s) d = rw s
  choose_of (further {w = w} s q c) d = rw (s, lt-leb 8 w.passed q) (choose_of c d)

  fits_of : {W : List Waiting} {k : ℕ} → Chosen fits W k → (d : Waiting) → fits (get_or W k d).level ≡ true
  fits_of (here s) d = s
  fits_of (further s q c) d = fits_of c d

  seldom_of : {W : List Waiting} {k : ℕ} → Chosen fits W k → (i : ℕ) (d : Waiting) → i < k → (get_or W i d).passed < 8
  seldom_of (here s) i d p = absurd (omega arith)
  seldom_of (further s q c) zero d p = q
  seldom_of (further s q c) (suc i) d p = seldom_of c i d (omega arith)

  module _ (W : List Waiting) (p : place_chosen fits W < length W) where
    pub chosen_is : (d : Waiting) → choose fits W ≡ some (get_or W (place_chosen fits W) d)
    chosen_is d = choose_of (chosen W p) d

    pub chosen_fits : (d : Waiting) → fits (get_or W (place_chosen fits W) d).level ≡ true
    chosen_fits d = fits_of (chosen W p) d

    pub seldom_before_chosen : (i : ℕ) (d : Waiting) → i < place_chosen fits W → (get_or W i d).passed < 8
    seldom_before_chosen i d q = seldom_of (chosen W p) i d q

  -- nobody is chosen
  pub none_chosen : (W : List Waiting) → ¬ (place_chosen fits W < length W) → (place_chosen fits W ≡ length W) × (choose fits W ≡ none)
  unfolding place_chosen choose
  none_chosen [] p = (refl, refl)
  none_chosen (w ∷ W) p = by_tests (fits w.level) (eight w) p (none_chosen W)
    where
      by_tests : (b e : Bool)
          → ¬ (cond b 0 (suc (cond e (length W) (place_chosen fits W))) < suc (length W))
          → (¬ (place_chosen fits W < length W) → (place_chosen fits W ≡ length W) × (choose fits W ≡ none))
          → (cond b 0 (suc (cond e (length W) (place_chosen fits W))) ≡ suc (length W))
          × (cond b (some w) (cond e none (choose fits W)) ≡ none)
      by_tests true e p rest = absurd (p (omega arith))
      by_tests false true p rest = (refl, refl)
      by_tests false false p rest = let r = rest (λ q. p (omega arith)) in (ap suc r.0, r.1)

-- ---- nobody was passed eight times

pub seldom_unless_barred : (W : List Waiting) → barred W ≡ false → (i : ℕ) (d : Waiting) → i < length W → (get_or W i d).passed < 8
unfolding barred
seldom_unless_barred [] e i d p = absurd (omega arith)
seldom_unless_barred (w ∷ W) e zero d p = leb-false 8 w.passed (neither_left (eight w) (barred W) e)
seldom_unless_barred (w ∷ W) e (suc i) d p = seldom_unless_barred W (neither_right (eight w) (barred W) e) i d (omega arith)

-- ---- in an orderly line each tenant has one place

pub waits_at : (W : List Waiting) (k : ℕ) (d : Waiting) → k < length W → waits (get_or W k d).tenant W ≡ true
unfolding waits
waits_at [] k d p = absurd (omega arith)
waits_at (w ∷ W) zero d p = rw (eq-eqb w.tenant w.tenant refl)
waits_at (w ∷ W) (suc k) d p = rw (waits_at W k d (omega arith)) (or-true (eqb w.tenant (get_or W k d).tenant))

-- the one at place k is gone, and those in front of it are changed
without_front : (f : Waiting → Waiting) (W : List Waiting) (k : ℕ) → k ≤ length W → without k (front f k W) ≡ map f (take k W) ++ drop (suc k) W
without_front f W k p =
    let place : length (map f (take k W)) ≡ k = length-map (take k W) f ∙ length-take-le k W p in
    let behind : drop (suc k) (front f k W) ≡ drop (suc k) W =
    ap (λ (j : ℕ). drop j (front f k W)) (sym (add-one k) ∙ ap (λ (j : ℕ). j + 1) (sym place))
    ∙ drop-append-add (map f (take k W)) (drop k W) 1
    ∙ drop-drop 1 k W
    ∙ ap (λ (j : ℕ). drop j W) (add-one k) in
    ap₂ (λ (A B : List Waiting). A ++ B) (take_at (map f (take k W)) (drop k W) k place) behind

module _ (h : ℕ) (T : List ℕ) where
  pub place_of_own : (W : List Waiting) → Orderly h T W → (k : ℕ) (d : Waiting) → k < length W → place_of (get_or W k d).tenant W ≡ k
  unfolding place_of
  place_of_own W nobody k d p = absurd (omega arith)
  place_of_own W (before {w = w} may once rest) zero d p = rw (eq-eqb w.tenant w.tenant refl)
  place_of_own W (before {w = w} {W = W'} may once rest) (suc k) d p =
      let t : ℕ = (get_or W' k d).tenant in
      let other : ¬ (w.tenant ≡ t) = λ e. true_false (waits w.tenant W') (rw e (waits_at W' k d (omega arith))) once in
      rw (ne_eqb w.tenant t other) (ap suc (place_of_own W' rest k d (omega arith)))

  -- so who stands at place k leaves place k
  pub leave_own : (f : Waiting → Waiting) (W : List Waiting) → Orderly h T W → (k : ℕ) (d : Waiting) → k < length W
      → leave f (get_or W k d).tenant W ≡ without k (front f k W)
  leave_own f W o k d p =
      leave_by_place f (get_or W k d).tenant W (waits_at W k d p)
      ∙ ap (λ (j : ℕ). map f (take j W) ++ drop (suc j) W) (place_of_own W o k d p)
      ∙ sym (without_front f W k (omega arith))

-- ---- who waits after a change

joins_other : (t l s : ℕ) (W : List Waiting) → waits s W ≡ false → eqb s t ≡ false → waits s (joined t l W) ≡ false
unfolding waits
joins_other t l s [] e d = rw (ne_eqb t s (λ q. eqb-false s t d (sym q)))
joins_other t l s (w ∷ W) e d =
    rw (neither_left (eqb w.tenant s) (waits s W) e) (joins_other t l s W (neither_right (eqb w.tenant s) (waits s W) e) d)

pub waits_passed : (t : ℕ) (W : List Waiting) → waits t (map once_more W) ≡ waits t W
unfolding waits
waits_passed t [] = refl
waits_passed t (w ∷ W) = rw (waits_passed t W)

pub waits_not_left : (f : Waiting → Waiting) → ((w : Waiting) → (f w).tenant ≡ w.tenant) → (s t : ℕ) (W : List Waiting)
    → waits s W ≡ false → waits s (leave f t W) ≡ false
unfolding waits leave
waits_not_left f same s t [] e = refl
waits_not_left f same s t (w ∷ W) e = by_test (eqb w.tenant t) (waits_not_left f same s t W rest)
  where
    rest : waits s W ≡ false
    rest = neither_right (eqb w.tenant s) (waits s W) e

    by_test : (b : Bool) → waits s (leave f t W) ≡ false → waits s (cond b W (f w ∷ leave f t W)) ≡ false
    by_test true left = rest
    by_test false left = rw (same w, neither_left (eqb w.tenant s) (waits s W) e) left

-- ---- a line stays orderly

module _ (h : ℕ) (T : List ℕ) where
  -- one passed fewer than eight times may be passed once more
  may_pass : (w : Waiting) → MayWait h T w → w.passed < 8 → MayWait h T (once_more w)
  may_pass w m p = record { passed = p; level = m.level; tenant = m.tenant; holds_none = m.holds_none }

  -- somebody joins who does not wait yet
  pub orderly_joined : (t l : ℕ) (W : List Waiting) → MayWait h T (record { tenant = t; level = l; passed = 0 }) → waits t W ≡ false
      → Orderly h T W → Orderly h T (joined t l W)
  unfolding waits
  orderly_joined t l W new e nobody = before new refl nobody
  orderly_joined t l W new e (before {w = w} {W = W'} may once rest) =
      before may (joins_other t l w.tenant W' once (neither_left (eqb w.tenant t) (waits t W') e))
      (orderly_joined t l W' new (neither_right (eqb w.tenant t) (waits t W') e) rest)

  -- everybody is passed once more
  pub orderly_passed : (W : List Waiting) → barred W ≡ false → Orderly h T W → Orderly h T (map once_more W)
  unfolding barred
  orderly_passed W e nobody = nobody
  orderly_passed W e (before {w = w} {W = W'} may once rest) =
      before (may_pass w may (leb-false 8 w.passed (neither_left (eight w) (barred W') e))) (waits_passed w.tenant W' ∙ once)
      (orderly_passed W' (neither_right (eight w) (barred W') e) rest)

  -- those at the first n places still may wait when f changes them
  abbrev StillMay : (Waiting → Waiting) → ℕ → List Waiting → Type 0
  StillMay f n W = (i : ℕ) (d : Waiting) → i < n → MayWait h T (get_or W i d) → MayWait h T (f (get_or W i d))

  -- tenant t leaves, and f, which keeps tenants, changes those in front of it
  orderly_leave : (f : Waiting → Waiting) → ((w : Waiting) → (f w).tenant ≡ w.tenant) → (t : ℕ) (W : List Waiting) → StillMay f (place_of t W) W
      → Orderly h T W → Orderly h T (leave f t W)
  unfolding place_of leave
  orderly_leave f same t W still nobody = nobody
  orderly_leave f same t W still (before {w = w} {W = W'} may once rest) =
      by_test (eqb w.tenant t) still (λ others. orderly_leave f same t W' others rest)
    where
      by_test : (b : Bool) → StillMay f (cond b 0 (suc (place_of t W'))) (w ∷ W') → (StillMay f (place_of t W') W' → Orderly h T (leave f t W'))
          → Orderly h T (cond b W' (f w ∷ leave f t W'))
      by_test true still others = rest
      by_test false still others =
          let once_left : waits (f w).tenant (leave f t W') ≡ false = rw (same w) (waits_not_left f same w.tenant t W' once) in
          before (still 0 w (omega arith) may) once_left (others (λ i d p. still (suc i) d (omega arith)))

  -- a tenant withdraws
  pub orderly_withdrawn : (t : ℕ) (W : List Waiting) → Orderly h T W → Orderly h T (leave (λ w. w) t W)
  orderly_withdrawn t W o = orderly_leave (λ w. w) (λ w. refl) t W (λ i d p m. m) o

  -- the one who is chosen leaves, and those in front of it are passed once more
  pub orderly_admitted : (fits : ℕ → Bool) (W : List Waiting) (d : Waiting) → place_chosen fits W < length W
      → Orderly h T W → Orderly h T (leave once_more (get_or W (place_chosen fits W) d).tenant W)
  orderly_admitted fits W d p o = orderly_leave once_more (λ w. refl) (get_or W (place_chosen fits W) d).tenant W still o
    where
      still : StillMay once_more (place_of (get_or W (place_chosen fits W) d).tenant W) W
      still i d' q m =
          let in_front : i < place_chosen fits W = rw (place_of_own h T W o (place_chosen fits W) d p) at q in
          may_pass (get_or W i d') m (seldom_before_chosen fits W p i d' in_front)

  -- over another table, in which those who wait still hold nothing
  pub orderly_over : (T' : List ℕ) (W : List Waiting) → ((t : ℕ) → waits t W ≡ true → node_at T t ≡ 0 → node_at T' t ≡ 0)
      → Orderly h T W → Orderly h T' W
  unfolding waits
  orderly_over T' W still nobody = nobody
  orderly_over T' W still (before {w = w} {W = W'} may once rest) =
      let none : node_at T' w.tenant ≡ 0 = still w.tenant (rw (eq-eqb w.tenant w.tenant refl)) may.holds_none in
      before (record { passed = may.passed; level = may.level; tenant = may.tenant; holds_none = none }) once
      (orderly_over T' W' (λ t e. still t (rw e (or-true (eqb w.tenant t)))) rest)
