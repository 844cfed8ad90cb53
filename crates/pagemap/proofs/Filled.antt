-- Laws of ranges of pages: when a page lies in one, and how its flags are set one by one.
use mathlib.Core.Path.{◌≡◌, refl, sym, ap, ap₂, ◌∙◌}
use mathlib.Core.Bool.{Bool, true, cond, ◌&&◌}
use mathlib.Core.List.{List, []}
use Prim.Native.Nat.{ℕ, zero, suc, ◌+◌, ◌-◌, ◌*◌, ◌/◌, ◌≤◌, ◌<◌, min}
use native.Mathlib.Nat.{zero-add, add-zero, add-suc, le-div_iff_mul-le, div-lt_iff_lt-mul}
use native.Mathlib.Numerals.{add-one}
use native.Mathlib.Omega.{arith}
use borrow.Author.Tests.{leb-true, le-leb, ltb-true, lt-ltb, eqb-true, eq-eqb}
use lib.Dec.{leb, ltb, eqb}
use lib.ListN.{length, get_or, set, replicate, length-take, length-drop}
use lib.Seq.{ext_get_or, paste}
use borrow.Rule.Slice.PartMut.{put_mid, mid_of}
use Rattle.std.proofs.lemmas.List.{length-replicate}
use Rattle.std.proofs.lemmas.List.Edits.{paste_none, fill_from_more}
use Rattle.std.proofs.lemmas.Slice.{put_mid-paste}
use Rattle.tree.proofs.Sets.{both_left, both_right}
use Rattle.tree.proofs.Count.{equal_of_both_ways}
use Rattle.layout.proofs.Sizes.{false_unless_true}
use Rattle.table.proofs.Tabulate.{tabulate_length, get_d_tabulate, tabulate_cong, set_tabulate}
use Rattle.pagemap.specs.Flags.{between, filled}

-- ---- ranges

pub record Between (a b p : ℕ) : Type 0 where
  pub from : a ≤ p
  pub to : p < b

between_of : (a b p : ℕ) → Between a b p → between a b p ≡ true
between_of a b p r = ap₂ ◌&&◌ (le-leb a p r.from) (lt-ltb p b r.to)

of_between : (a b p : ℕ) → between a b p ≡ true → Between a b p
of_between a b p e =
    record { from = leb-true a p (both_left (leb a p) (ltb p b) e); to = ltb-true p b (both_right (leb a p) (ltb p b) e) }

same_between : (a b p a' b' p' : ℕ) → (Between a b p → Between a' b' p') → (Between a' b' p' → Between a b p)
    → between a b p ≡ between a' b' p'
same_between a b p a' b' p' to from =
    equal_of_both_ways (between a b p) (between a' b' p')
    (λ e. between_of a' b' p' (to (of_between a b p e)))
    (λ e. between_of a b p (from (of_between a' b' p' e)))

-- the pages of the blocks s … t − 1, of w pages each
pub between_scaled : (w s t p : ℕ) → 0 < w → between (s * w) (t * w) p ≡ between s t (p / w)
between_scaled w s t p q =
    same_between (s * w) (t * w) p s t (p / w)
    (λ r. record { from = (le-div_iff_mul-le q).1 r.from; to = (div-lt_iff_lt-mul q).1 r.to })
    (λ r. record { from = (le-div_iff_mul-le q).0 r.from; to = (div-lt_iff_lt-mul q).0 r.to })

pub between_one : (x i : ℕ) → between x (suc x) i ≡ eqb x i
between_one x i =
    equal_of_both_ways (between x (suc x) i) (eqb x i)
    (λ e. eq-eqb x i (omega (arith, of_between x (suc x) i e)))
    (λ e. between_of x (suc x) i (omega (arith, eqb-true x i e)))

-- ---- a range set page by page

pub filled_length : (a b : ℕ) (xs : List ℕ) → length (filled a b xs) ≡ length xs
unfolding filled
filled_length a b xs = tabulate_length 0 (length xs) (λ p. cond (between a b p) 1 (get_or xs p 0))

module _ (a : ℕ) (xs : List ℕ) where
  -- page p's flag with the range to b set
  abbrev flag_at : ℕ → ℕ → ℕ
  flag_at b p = cond (between a b p) 1 (get_or xs p 0)

  pub filled_none : filled a a xs ≡ xs
  unfolding filled
  filled_none =
      let long = tabulate_length 0 (length xs) (flag_at a) in
      ext_get_or 0 (filled a a xs) xs long (λ p q. get_d_tabulate 0 (length xs) (flag_at a) p (omega arith) ∙ rw zero-add (unchanged p))
    where
      unchanged : (p : ℕ) → flag_at a p ≡ get_or xs p 0
      unchanged p = rw (false_unless_true (between a a p) (λ e. omega (arith, of_between a a p e)))

  pub filled_more : (i : ℕ) → a ≤ i → i < length xs → set (filled a i xs) i 1 ≡ filled a (suc i) xs
  unfolding filled
  filled_more i q r =
      ap (set (filled a i xs) i) (sym at_i) ∙ set_tabulate 0 (length xs) i {f = flag_at i} {g = flag_at (suc i)} i (omega arith) r elsewhere
    where
      at_i : flag_at (suc i) i ≡ 1
      at_i = rw (between_of a (suc i) i (omega arith))

      elsewhere : (p : ℕ) → ¬ (p ≡ i) → flag_at i p ≡ flag_at (suc i) p
      elsewhere p d = rw (same_between a i p a (suc i) p (λ r. omega arith) (λ r. omega arith))

  -- ranges whose ends make no difference to the pages that there are
  pub filled_same : (i b : ℕ) → ((p : ℕ) → p < length xs → (Between a i p → Between a b p) × (Between a b p → Between a i p))
      → filled a i xs ≡ filled a b xs
  unfolding filled
  filled_same i b same =
      tabulate_cong 0 (length xs) λ p q r.
      let both_ways = same p (omega arith) in
      ap (λ (t : Bool). cond t 1 (get_or xs p 0)) (same_between a i p a b p both_ways.0 both_ways.1)

  filled_run : (i : ℕ) → a + i ≤ length xs → paste xs a (replicate i 1) i ≡ filled a (a + i) xs
  filled_run zero q = sym (paste_none xs a []) ∙ sym filled_none ∙ ap (λ (b : ℕ). filled a b xs) (sym (add-zero a))
  filled_run (suc i) q =
      ap (λ (n : ℕ). paste xs a (replicate n 1) n) (sym (add-one i))
      ∙ sym (fill_from_more xs a i 1 (omega arith))
      ∙ ap (λ (ys : List ℕ). set ys (a + i) 1) (filled_run i (omega arith))
      ∙ filled_more (a + i) (omega arith) (omega arith)
      ∙ ap (λ (b : ℕ). filled a b xs) (sym (add-suc a i))

-- ends past the last page, of which there are n, make no difference
filled_capped : (a b n : ℕ) (xs : List ℕ) → length xs ≡ n → filled (min a n) (min b n) xs ≡ filled a b xs
unfolding filled
filled_capped a b n xs long =
    tabulate_cong 0 (length xs) λ p q r.
    ap (λ (t : Bool). cond t 1 (get_or xs p 0)) (same_between (min a n) (min b n) p a b p (λ s. omega arith) (λ s. omega arith))

pub filled_part : (a b : ℕ) (xs : List ℕ) (n : ℕ) → length xs ≡ n → a ≤ b
    → put_mid (min a n) (min b n - min a n) xs (replicate (length (mid_of (min a n) (min b n - min a n) xs)) 1) ≡ filled a b xs
filled_part a b xs n long le =
    let from = min a n in
    let k = min b n - from in
    let inside : length (mid_of from k xs) ≡ k = simp (length-take, length-drop) (omega arith) in
    let past : from + k ≡ min b n = omega arith in
    rw inside
    (put_mid-paste from k xs (replicate k 1) (replicate k 1) k refl refl (sym (length-replicate k 1))
    ∙ filled_run from xs k (omega arith)
    ∙ rw past (filled_capped a b n xs long))
