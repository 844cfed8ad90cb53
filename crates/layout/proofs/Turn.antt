-- One turn of the loop that finds the rows of a layout: at each level the rows of the levels below are written, and what the machine
-- still writes from there on makes the rest.
use mathlib.Core.Path.{◌≡◌, refl, ◌∙◌}
use mathlib.Core.List.{List, [], ◌∷◌, ◌++◌, append-nil}
use Prim.Native.Nat.{ℕ, suc, ◌+◌, ◌*◌, ◌^◌, ◌≤◌, ◌<◌}
use native.Mathlib.Nat.{le_trans, mul-le-mul_left, mul-le-mul_right, le-mul_of_pos_right}
use native.Mathlib.Numerals.{add-one}
use native.Mathlib.Omega.{arith}
use lib.ListN.{length, get_or, set, take, drop, replicate, length-set, drop_of_length-le}
use lib.Seq.{drop-cons, take-suc-set, take_all, append_snoc}
use lib.Pow.{pow_pos, pow_mono}
use Rattle.tree.specs.Block.{Block}
use Rattle.layout.specs.Layout.{State, full, lone, start, running, place, rise, pages_from, pages}
use Rattle.layout.specs.Runs.{starts_from, runs_from, starts, runs}
use Rattle.layout.specs.Rows.{no_index, lones, rows_of}
use Rattle.layout.specs.declared.Layout.{Layout}
use Rattle.layout.specs.Climb.{Markable, mark}
use Rattle.layout.proofs.Bounds.{power_le_4096}
use Rattle.layout.proofs.States.{start_place, running_le, double_pages, Rises, full_rises, lone_rises, lone_settles, rises}
use Rattle.layout.proofs.States.{AtLevel, full_at, lone_at, place_at, next_at}
use Rattle.layout.proofs.Counting.{pages_from_level}
use Rattle.layout.proofs.Writing.{written, written_lones, length_mark}

-- The room that the subtrees in use take: placing adds the level's pages, and going up at most one subtree of the lower level.

place_room : (l : ℕ) (s : State) (c : ℕ) → start (place l s c) * 2 ^ l ≤ start s * 2 ^ l + c * 2 ^ l
place_room l s c =
    let more : (start s + running s c) * 2 ^ l ≤ (start s + c) * 2 ^ l = mul-le-mul_right (2 ^ l) (omega (arith, running_le s c)) in
    rw start_place (omega arith)

rise_room : (l : ℕ) {t s : State} {bs : List Block} → Rises t bs s → start s * 2 ^ suc l ≤ start t * 2 ^ l + 2 ^ l
rise_room l (full_rises {u = u} {w = w} p q) =
    let up : (w + w) * 2 ^ l ≡ w * 2 ^ suc l = double_pages w l refl in
    let le : (w + w) * 2 ^ l ≤ suc u * 2 ^ l = mul-le-mul_right (2 ^ l) q in
    omega arith
rise_room l (lone_rises {v = v} {w = w} e) = let up : v * 2 ^ l ≡ w * 2 ^ suc l = double_pages w l e in omega arith
rise_room l (lone_settles {v = v} {w = w} e) =
    let up : suc v * 2 ^ l ≡ suc w * 2 ^ suc l = double_pages (suc w) l (omega arith) in
    omega arith

-- The lists ss, ns and xs before level l, in state s, on the way to the rows of the counts cs
pub record Climbed (cs ss ns xs : List ℕ) (s : State) (l : ℕ) : Type 0 where
  pub counts_long : length cs ≡ 13
  pub inside : l ≤ 13
  pub stands : AtLevel l s
  pub starts_long : length ss ≡ 13
  pub runs_long : length ns ≡ 13
  pub lones_long : length xs ≡ 13
  pub starts_so_far : take l ss ++ starts_from l s (drop l cs) ≡ starts cs
  pub runs_so_far : take l ns ++ runs_from l s (drop l cs) ≡ runs cs
  pub lones_so_far : written l s (drop l cs) xs ≡ lones cs
  pub room : start s * 2 ^ l + pages_from l (drop l cs) ≤ 4096 + 2 ^ l

pub climbed_none : {cs : List ℕ} {s : State} → length cs ≡ 13 → pages cs ≤ 4096 → s ≡ full 0
    → Climbed cs (replicate 13 0) (replicate 13 0) (replicate 13 no_index) s 0
unfolding starts runs pages
climbed_none {cs} e f is_empty =
    rw is_empty
    record {
      counts_long = e;
      inside = omega arith;
      stands = full_at;
      starts_long = refl;
      runs_long = refl;
      lones_long = refl;
      starts_so_far = refl;
      runs_so_far = refl;
      lones_so_far = rw e at (written_lones cs);
      room = omega arith;
    }

-- an element is written, and the rest follows it
row_next : (ss : List ℕ) (l a : ℕ) (rest whole : List ℕ) → l < length ss → take l ss ++ (a ∷ rest) ≡ whole → take (suc l) (set ss l a) ++ rest ≡ whole
row_next ss l a rest whole h e = rw (take-suc-set ss l a h, append_snoc) e

-- A turn in state s: a and n are written at l, ys is the list of lone places with the level's blocks placed, and u the state one level up.
pub climbed_next : {cs ss ns xs ys : List ℕ} {s t u : State} {l a n : ℕ} → l < 13 → Climbed cs ss ns xs s l
    → start s ≡ a → n ≡ running s (get_or cs l 0) → t ≡ place l s (get_or cs l 0) → ys ≡ mark t xs → u ≡ rise t
    → Climbed cs (set ss l a) (set ns l n) ys u (l + 1)
unfolding written
climbed_next {cs} {ss} {ns} {xs} {ys} {s} {t} {u} {l} {a} {n} h p is_start is_run is_placed is_marked is_risen =
    let c : ℕ = get_or cs l 0 in
    let d : drop l cs ≡ c ∷ drop (suc l) cs = drop-cons cs l 0 (omega arith) in
    let above : List ℕ = drop (suc l) cs in
    let next : State = rise (place l s c) in
    rw (← is_start, is_run, is_marked, is_risen, is_placed, add-one)
    record {
      counts_long = p.counts_long;
      inside = h;
      stands = next_at l c p.stands;
      starts_long = length-set ss l (start s) ∙ p.starts_long;
      runs_long = length-set ns l (running s c) ∙ p.runs_long;
      lones_long = length_mark (place l s c) xs ∙ p.lones_long;
      starts_so_far =
          row_next ss l (start s) (starts_from (suc l) next above) (starts cs) (omega (arith, p.starts_long))
          (rw d at p.starts_so_far);
      runs_so_far =
          row_next ns l (running s c) (runs_from (suc l) next above) (runs cs) (omega (arith, p.runs_long))
          (rw d at p.runs_so_far);
      lones_so_far = rw d at p.lones_so_far;
      room = omega (arith, p.room, pages_from_level cs l (omega arith), place_room l s c, rise_room l (rises (place l s c)));
    }

-- What a turn computes on its way is at most 8,192.

placed_pages : {cs ss ns xs : List ℕ} {s : State} {l : ℕ} → l < 13 → Climbed cs ss ns xs s l
    → (start s + get_or cs l 0) * 2 ^ l ≤ 8192
placed_pages {cs} {l = l} h p = omega (arith, p.room, pages_from_level cs l (omega arith), power_le_4096 l (omega arith))

pub placed_fits : {cs ss ns xs : List ℕ} {s : State} {l : ℕ} → l < 13 → Climbed cs ss ns xs s l → start s + get_or cs l 0 ≤ 8192
placed_fits {cs} {s = s} {l = l} h p = le_trans (le-mul_of_pos_right (start s + get_or cs l 0) (pow_pos l)) (placed_pages h p)

lone_fits : {cs ss ns xs : List ℕ} {s : State} {l : ℕ} → l < 13 → Climbed cs ss ns xs s l
    → (k : ℕ) → k ≤ l → start (place l s (get_or cs l 0)) * 2 ^ k ≤ 8192
lone_fits {cs} {s = s} {l = l} h p k q =
    let c : ℕ = get_or cs l 0 in
    le_trans (mul-le-mul_left (start (place l s c)) (pow_mono q)) (omega (arith, place_room l s c, placed_pages h p))

pub placed_markable : {cs ss ns xs : List ℕ} {s t : State} {l : ℕ} → l < 13 → Climbed cs ss ns xs s l
    → t ≡ place l s (get_or cs l 0) → Markable t
placed_markable {cs} {s = s} {l = l} h p is_placed =
    let c : ℕ = get_or cs l 0 in
    rw is_placed (go (place l s c) (place_at l c p.stands) (lone_fits h p))
  where
    go : (t : State) → AtLevel l t → ((k : ℕ) → k ≤ l → start t * 2 ^ k ≤ 8192) → Markable t
    go (full u) full_at fits = tt
    go (lone v j k) (lone_at q) fits = (omega arith, omega arith, omega (arith, fits k (omega arith)))

-- after the last level the rows are whole
pub climbed_all : {cs ss ns xs : List ℕ} {s : State} {l : ℕ} → 13 ≤ l → Climbed cs ss ns xs s l
    → ◌≡◌ {A = Layout} (record { start = ss; run = ns; lone = xs }) (rows_of cs)
unfolding written
climbed_all {cs} {ss} {ns} {xs} {s} {l} h p =
    let d : drop l cs ≡ [] = drop_of_length-le cs {i = l} (omega arith) in
    let a : ss ≡ starts cs = rw (d, append-nil, take_all l ss (omega (arith, p.starts_long))) at p.starts_so_far in
    let b : ns ≡ runs cs = rw (d, append-nil, take_all l ns (omega (arith, p.runs_long))) at p.runs_so_far in
    let c : xs ≡ lones cs = rw d at p.lones_so_far in
    λ i. record { start = a i; run = b i; lone = c i }
