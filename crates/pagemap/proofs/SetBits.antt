-- The ones of a map's bytes are its set bits, page by page.
use mathlib.Core.Path.{◌≡◌, refl, sym, ap, ◌∙◌}
use mathlib.Core.List.{List, [], ◌∷◌}
use Prim.Native.Nat.{ℕ, zero, suc, ◌+◌, ◌*◌, ◌/◌, ◌%◌, ◌<◌}
use native.Mathlib.Nat.{mul-zero, mul-suc}
use native.Mathlib.Omega.{arith}
use lib.Count.{ones}
use lib.Dec.{eqb}
use lib.ListN.{length, get_or}
use Rattle.tree.specs.Held.{one_if, count}
use Rattle.tree.specs.Pages.{sum}
use Rattle.tree.proofs.Sum.{sum_first, sum_cong, sum_split, count_as_sum}
use Rattle.pagemap.specs.Map.{bit_of}
use Rattle.pagemap.specs.Count.{set_bits}
use Rattle.pagemap.proofs.Bits.{bit, ones_by_bits}

-- ---- byte by byte

pub set_bits_as_sum : (m : List ℕ) → set_bits m ≡ sum (length m) (λ j. ones (get_or m j 0))
unfolding set_bits sum
set_bits_as_sum [] = refl
set_bits_as_sum (x ∷ m) = ap (λ (n : ℕ). ones x + n) (set_bits_as_sum m) ∙ sym (sum_first (length m) (λ j. ones (get_or (x ∷ m) j 0)))

-- ---- page by page

-- n groups of w numbers each
pub sum_by_groups : (w n : ℕ) (f : ℕ → ℕ) → sum n (λ j. sum w (λ b. f (w * j + b))) ≡ sum (w * n) f
unfolding sum
sum_by_groups w zero f = rw (mul-zero w)
sum_by_groups w (suc n) f = rw (mul-suc w n) (omega (arith, sum_by_groups w n f, sum_split (w * n) w f))

one_if_one : (x : ℕ) → x < 2 → one_if (eqb x 1) ≡ x
one_if_one zero q = refl
one_if_one (suc zero) q = refl
one_if_one (suc (suc x)) q = absurd (omega arith)

-- page 8j + b has bit b of byte j
page_of_byte : (m : List ℕ) (j b : ℕ) → b < 8 → one_if (bit_of m (8 * j + b)) ≡ bit (get_or m j 0) b
page_of_byte m j b q =
    let byte : (8 * j + b) / 8 ≡ j = omega arith in
    let place : (8 * j + b) % 8 ≡ b = omega arith in
    rw (byte, place) (one_if_one (bit (get_or m j 0) b) (omega arith))

pub set_bits_by_page : (m : List ℕ) → ((j : ℕ) → get_or m j 0 < 256) → set_bits m ≡ count (8 * length m) (bit_of m)
set_bits_by_page m bytes =
    set_bits_as_sum m
    ∙ sum_cong (length m) (λ j q. ones_by_bits 8 (get_or m j 0) (bytes j) ∙ sum_cong 8 (λ b r. sym (page_of_byte m j b r)))
    ∙ sum_by_groups 8 (length m) (λ p. one_if (bit_of m p))
    ∙ sym (count_as_sum (8 * length m) (bit_of m))
