-- The numbers of a line: how long they are, who stands at a place, and what a store changes.
use mathlib.Core.Path.{◌≡◌, refl, sym, ap, ap₂, ◌∙◌}
use mathlib.Core.List.{List, [], ◌∷◌, ◌++◌, map, map-append, append_assoc}
use Prim.Native.Nat.{ℕ, zero, suc, ◌+◌, ◌*◌, ◌-◌, ◌≤◌, ◌<◌}
use native.Mathlib.Nat.{add-suc, add-zero, zero-add}
use native.Mathlib.Numerals.{add-one}
use native.Mathlib.Omega.{arith}
use lib.ListN.{length, get_or, take, drop, set, replicate, length-append, length-map, length-drop, length-replicate, replicate-append-replicate}
use lib.Seq.{append_snoc, split_at, drop-cons, take-suc, length-take-le, get_or_at, take_at, drop-append-add}
use Rattle.line.specs.Line.{Waiting, triples, line_of, at, standing, waiting_count, waiting_in}
use Rattle.line.specs.Changes.{InForm, once_more, joined, front, without}

-- ---- lengths

pub length_triples : (W : List Waiting) → length (triples W) ≡ 3 * length W
unfolding triples
length_triples [] = refl
length_triples (w ∷ W) = omega (arith, length_triples W)

pub length_line : (W : List Waiting) → length W ≤ 64 → length (line_of W) ≡ 193
unfolding line_of
length_line W few =
    let zeros : List ℕ = replicate (3 * (64 - length W)) 0 in
    omega (arith, length-append (triples W) zeros, length_triples W, length-replicate {A = ℕ} (3 * (64 - length W)) 0)

pub length_standing : (L : List ℕ) (i n : ℕ) → length (standing L i n) ≡ n
length_standing L i zero = refl
length_standing L i (suc n) = ap suc (length_standing L (suc i) n)

-- ---- numbers in the form of a line

pub count_in_form : (L : List ℕ) → InForm L → waiting_count L ≤ 64
count_in_form L f = omega (arith, f.few, length_standing L 0 (waiting_count L))

pub length_in_form : (L : List ℕ) → InForm L → length L ≡ 193
length_in_form L f = ap length f.numbers ∙ length_line (waiting_in L) f.few

-- ---- who stands at a place

-- without the first three numbers each stands one place further in front
at_next : (n a b c : ℕ) (L : List ℕ) (i : ℕ) → at (n ∷ a ∷ b ∷ c ∷ L) (suc i) ≡ at (c ∷ L) i
at_next n a b c L i =
    let first : 3 * suc i + 1 ≡ suc (suc (suc (3 * i + 1))) = omega arith in
    let second : 3 * suc i + 2 ≡ suc (suc (suc (3 * i + 2))) = omega arith in
    let third : 3 * suc i + 3 ≡ suc (suc (suc (3 * i + 3))) = omega arith in
    rw (first, second, third)

standing_next : (n a b c : ℕ) (L : List ℕ) (i k : ℕ) → standing (n ∷ a ∷ b ∷ c ∷ L) (suc i) k ≡ standing (c ∷ L) i k
standing_next n a b c L i zero = refl
standing_next n a b c L i (suc k) = rw (at_next n a b c L i, standing_next n a b c L (suc i) k)

standing_triples : (n : ℕ) (W : List Waiting) (zs : List ℕ) → standing (n ∷ (triples W ++ zs)) 0 (length W) ≡ W
unfolding triples
standing_triples n [] zs = refl
standing_triples n (w ∷ W) zs =
    rw (standing_next n w.tenant w.level w.passed (triples W ++ zs) 0 (length W), standing_triples w.passed W zs)

-- the numbers of a line tell who waits
pub read_of_line : (W : List Waiting) → waiting_in (line_of W) ≡ W
unfolding line_of
read_of_line W = standing_triples (length W) W (replicate (3 * (64 - length W)) 0)

getD_standing : (L : List ℕ) (i n j : ℕ) (d : Waiting) → j < n → get_or (standing L i n) j d ≡ at L (i + j)
getD_standing L i zero j d p = absurd (omega arith)
getD_standing L i (suc n) zero d p = ap (at L) (sym (add-zero i))
getD_standing L i (suc n) (suc j) d p =
    let place : suc i + j ≡ i + suc j = omega arith in
    getD_standing L (suc i) n j d (omega arith) ∙ ap (at L) place

pub getD_waiting : (L : List ℕ) (i : ℕ) (d : Waiting) → i < waiting_count L → get_or (waiting_in L) i d ≡ at L i
getD_waiting L i d p = getD_standing L 0 (waiting_count L) i d p ∙ ap (at L) (zero-add i)

pub at_of_line : (W : List Waiting) (i : ℕ) (d : Waiting) → i < length W → at (line_of W) i ≡ get_or W i d
unfolding line_of
at_of_line W i d p = sym (getD_waiting (line_of W) i d p) ∙ ap (λ (U : List Waiting). get_or U i d) (read_of_line W)

-- a loop over the places: the one at place i, and those behind it
pub standing_more : (L : List ℕ) (i n : ℕ) → i < n → standing L i (n - i) ≡ at L i ∷ standing L (i + 1) (n - (i + 1))
standing_more L i n p =
    let left : n - i ≡ suc (n - (i + 1)) = omega arith in
    rw (left, add-one i)

pub standing_none : (L : List ℕ) (n : ℕ) → standing L n (n - n) ≡ []
standing_none L n = let left : n - n ≡ 0 = omega arith in rw left

-- ---- a store

triples_append : (U W : List Waiting) → triples (U ++ W) ≡ triples U ++ triples W
unfolding triples
triples_append [] W = refl
triples_append (u ∷ U) W = rw (triples_append U W)

-- the numbers of a line, cut behind those of U
line_cut : (U W : List Waiting)
    → line_of (U ++ W) ≡ (length U + length W) ∷ (triples U ++ (triples W ++ replicate (3 * (64 - (length U + length W))) 0))
unfolding line_of
line_cut U W = rw (length-append U W, triples_append U W, append_assoc)

-- a store behind the cut
set_behind : (n : ℕ) (U : List Waiting) (xs : List ℕ) (k v : ℕ)
    → set (n ∷ (triples U ++ xs)) (3 * length U + suc k) v ≡ n ∷ (triples U ++ set xs k v)
unfolding triples
set_behind n [] xs k v = let index : 3 * 0 + suc k ≡ suc k = omega arith in rw index
set_behind n (u ∷ U) xs k v =
    let index : 3 * suc (length U) + suc k ≡ suc (suc (suc (3 * length U + suc k))) = omega arith in
    rw (index, set_behind u.passed U xs k v)

-- the one behind those of U, and a store of its passed count
module _ (U : List Waiting) (w : Waiting) (W : List Waiting) (i : ℕ) (place : length U ≡ i) where
  pub at_cut : at (line_of (U ++ w ∷ W)) i ≡ w
  at_cut = at_of_line (U ++ w ∷ W) i w (omega (arith, length-append U (w ∷ W))) ∙ get_or_at U w W w i place

  pub set_passed : (p : ℕ)
      → set (line_of (U ++ w ∷ W)) (3 * i + 3) p ≡ line_of (U ++ record { tenant = w.tenant; level = w.level; passed = p } ∷ W)
  unfolding triples
  set_passed p =
      let n : ℕ = length U + suc (length W) in
      rw (← place, line_cut U (w ∷ W), line_cut U (record { tenant = w.tenant; level = w.level; passed = p } ∷ W))
      (set_behind n U (triples (w ∷ W) ++ replicate (3 * (64 - n)) 0) 2 p)

-- ---- those at the first places passed once more, one after the other

module _ (W : List Waiting) (i : ℕ) (d : Waiting) (p : i < length W) where
  abbrev passed_so_far : List Waiting
  passed_so_far = map once_more (take i W)

  length_so_far : length passed_so_far ≡ i
  length_so_far = length-map (take i W) once_more ∙ length-take-le i W (omega arith)

  front_cut : front once_more i W ≡ passed_so_far ++ get_or W i d ∷ drop (suc i) W
  front_cut = rw (drop-cons W i d p)

  front_more : front once_more (i + 1) W ≡ passed_so_far ++ once_more (get_or W i d) ∷ drop (suc i) W
  front_more = rw (add-one i, take-suc W i d p, map-append) (append_snoc passed_so_far (once_more (get_or W i d)) (drop (suc i) W))

  module _ (l : List ℕ) (e : l ≡ line_of (front once_more i W)) where
    pub passed_at : get_or l (3 * i + 3) 0 ≡ (get_or W i d).passed
    passed_at = rw (e, front_cut) (ap (λ (w : Waiting). w.passed) (at_cut passed_so_far (get_or W i d) (drop (suc i) W) i length_so_far))

    pub passed_more : set l (3 * i + 3) (get_or l (3 * i + 3) 0 + 1) ≡ line_of (front once_more (i + 1) W)
    passed_more =
        rw (passed_at, e, front_cut, front_more, add-one (get_or W i d).passed)
        (set_passed passed_so_far (get_or W i d) (drop (suc i) W) i length_so_far (suc (get_or W i d).passed))

-- ---- one more at the end

pub line_joined : (L : List ℕ) (W : List Waiting) (n t l : ℕ) → L ≡ line_of W → n ≡ length W → n < 64
    → set (set (set L 0 (n + 1)) (3 * n + 1) t) (3 * n + 2) l ≡ line_of (joined t l W)
unfolding line_of triples
line_joined L W n t l e c p =
    let free : 3 * (64 - length W) ≡ suc (suc (suc (3 * (64 - (length W + 1))))) = omega arith in
    let zeros : List ℕ = replicate (3 * (64 - (length W + 1))) 0 in
    rw (e, c, free, set_behind (length W + 1) W (0 ∷ 0 ∷ 0 ∷ zeros) 0 t, set_behind (length W + 1) W (t ∷ 0 ∷ 0 ∷ zeros) 1 l)
    (sym (line_cut W (record { tenant = t; level = l; passed = 0 } ∷ [])))

-- ---- without the one behind those of U

-- the numbers L without the three from index j on, and zeros at the end instead
abbrev pub closed : List ℕ → ℕ → List ℕ
closed L j = take j L ++ drop (j + 3) L ++ 0 ∷ 0 ∷ 0 ∷ []

zeros_more : (n : ℕ) → n < 64 → replicate {A = ℕ} (3 * (64 - suc n)) 0 ++ replicate 3 0 ≡ replicate (3 * (64 - n)) 0
zeros_more n p =
    let more : 3 * (64 - suc n) + 3 ≡ 3 * (64 - n) = omega arith in
    replicate-append-replicate (3 * (64 - suc n)) 3 0 ∙ ap (λ (k : ℕ). replicate k 0) more

module _ (U : List Waiting) (w : Waiting) (W : List Waiting) (few : length U + length W < 64) where
  abbrev remain : ℕ
  remain = length U + length W

  gap_closed : closed (line_of (U ++ w ∷ W)) (3 * length U + 1) ≡ suc remain ∷ (triples U ++ (triples W ++ replicate (3 * (64 - remain)) 0))
  unfolding triples
  gap_closed =
      let head : List ℕ = suc remain ∷ triples U in
      let zeros : List ℕ = replicate (3 * (64 - suc remain)) 0 in
      let index : length head ≡ 3 * length U + 1 = omega (arith, length_triples U) in
      rw (
        line_cut U (w ∷ W),
        add-suc (length U) (length W),
        take_at head (triples (w ∷ W) ++ zeros) (3 * length U + 1) index,
        ← index,
        drop-append-add head (triples (w ∷ W) ++ zeros) 3,
        append_assoc head (triples W ++ zeros),
        append_assoc (triples W) zeros,
        zeros_more remain few,
      )

  -- the count is stored again, one less
  count_less : (G : List ℕ) → G ≡ closed (line_of (U ++ w ∷ W)) (3 * length U + 1)
      → (0 < get_or G 0 0) × (set G 0 (get_or G 0 0 - 1) ≡ line_of (U ++ W))
  count_less G e =
      let one_less : suc remain - 1 ≡ remain = omega arith in
      rw (e ∙ gap_closed) (omega arith, rw one_less (sym (line_cut U W)))

-- the numbers of the one at place k are taken out, and the count is stored again, one less
pub line_without : (L : List ℕ) (W : List Waiting) (k : ℕ) (G : List ℕ) → L ≡ line_of W → length W ≤ 64 → k < length W
    → G ≡ closed L (3 * k + 1)
    → (0 < get_or G 0 0) × (set G 0 (get_or G 0 0 - 1) ≡ line_of (without k W))
line_without L W k G e few p g =
    let w : Waiting = get_or W k (at [] 0) in
    let place : length (take k W) ≡ k = length-take-le k W (omega arith) in
    let cut : W ≡ take k W ++ w ∷ drop (suc k) W = split_at W k (at [] 0) p in
    let remain : length (take k W) + length (drop (suc k) W) < 64 = omega (arith, place, length-drop (suc k) W) in
    count_less (take k W) w (drop (suc k) W) remain G
    (g ∙ ap₂ (λ (l : List ℕ) (j : ℕ). closed l (3 * j + 1)) (e ∙ ap line_of cut) (sym place))
