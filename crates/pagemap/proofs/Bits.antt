-- The bits of a number, and of a map that is made of bits.
use mathlib.Core.Path.{◌≡◌, refl, sym, ap, ◌∙◌}
use mathlib.Core.List.{List, ◌++◌}
use Prim.Native.Nat.{ℕ, zero, suc, ◌+◌, ◌-◌, ◌*◌, ◌/◌, ◌%◌, ◌^◌, ◌≤◌, ◌<◌}
use native.Mathlib.Nat.{zero-add, mul-le-mul_right, le-mul_of_pos_right, mod-eq_of_lt, pow-suc}
use native.Mathlib.Numerals.{one-add}
use native.Mathlib.Decide.{ℕ_discrete, dec_lt}
use native.Mathlib.Omega.{arith}
use lib.Bits.{block_half, block_odd}
use lib.Count.{ones, ones_step}
use lib.ListN.{length, get_or, set, drop, get_or-eq_default}
use lib.Seq.{set_at, drop-cons, append_snoc}
use lib.Pow.{shr-shr, high, pow_pos}
use Rattle.tree.specs.Pages.{sum}
use Rattle.tree.proofs.Sum.{sum_first, sum_cong}
use Rattle.table.proofs.Tabulate.{tabulate_length, get_d_tabulate, tabulate_cong, tabulate_last}
use Rattle.pagemap.specs.Map.{byte_of, bytes_of}

-- ---- the bits of a number

-- bit b of a number
abbrev pub bit : ℕ → ℕ → ℕ
bit x b = x / 2 ^ b % 2

bit_suc : (x b : ℕ) → bit x (suc b) ≡ bit (x / 2) b
bit_suc x b = ap (λ (y : ℕ). y % 2) (rw (← one-add b) (sym (shr-shr x 1 b)))

-- a bit below the block of digits that begins at place n
bit_below_block : (a n r b : ℕ) → b < n → bit (a * 2 ^ n + r) b ≡ bit r b
bit_below_block a zero r b q = absurd (omega arith)
bit_below_block a (suc n) r zero q = omega (arith, block_odd a n r)
bit_below_block a (suc n) r (suc b) q =
    bit_suc (a * 2 ^ suc n + r) b
    ∙ ap (λ (x : ℕ). bit x b) (block_half a n r)
    ∙ bit_below_block a n (r / 2) b (omega arith)
    ∙ sym (bit_suc r b)

-- as many of a number's bits are set as it has ones
pub ones_by_bits : (n x : ℕ) → x < 2 ^ n → ones x ≡ sum n (bit x)
unfolding sum ones
ones_by_bits zero x q = let none : x ≡ 0 = omega arith in ap ones none
ones_by_bits (suc n) x q =
    let upper : ones (x / 2) ≡ sum n (λ b. bit x (suc b)) = ones_by_bits n (x / 2) (omega arith) ∙ sum_cong n (λ b r. sym (bit_suc x b)) in
    omega (arith, ones_step x, sum_first n (bit x))

-- ---- a number made of bits

module _ (d : ℕ → ℕ) (bits : (b : ℕ) → d b ≤ 1) where
  sum_of_bits_below : (n : ℕ) → sum n (λ b. d b * 2 ^ b) < 2 ^ n
  unfolding sum
  sum_of_bits_below zero = omega arith
  sum_of_bits_below (suc n) = omega (arith, sum_of_bits_below n, mul-le-mul_right (2 ^ n) (bits n), pow-suc 2 n)

  bit_of_sum : (n b : ℕ) → b < n → bit (sum n (λ b. d b * 2 ^ b)) b ≡ d b
  unfolding sum
  bit_of_sum zero b q = absurd (omega arith)
  bit_of_sum (suc n) b q =
      elim (ℕ_discrete b n) [
        | yes e ↦ rw (e, high (d n) n (sum_of_bits_below n)) (mod-eq_of_lt (omega (arith, bits n)))
        | no e ↦ bit_below_block (d n) n (sum n (λ b. d b * 2 ^ b)) b (omega arith) ∙ bit_of_sum n b (omega arith)
      ]

-- the highest of the bits below b, shifted into x
shift_in : (d : ℕ → ℕ) (x b : ℕ) → 0 < b
    → (x * 2 + d (b - 1)) * 2 ^ (b - 1) + sum (b - 1) (λ i. d i * 2 ^ i) ≡ x * 2 ^ b + sum b (λ i. d i * 2 ^ i)
unfolding sum
shift_in d x zero q = absurd (omega arith)
shift_in d x (suc b) q = let below : suc b - 1 ≡ b = omega arith in rw (below, pow-suc 2 b) (omega arith)

-- ---- a map made of bits

pub bytes_length : (n : ℕ) (d : ℕ → ℕ) → length (bytes_of n d) ≡ n
unfolding bytes_of
bytes_length n d = tabulate_length 0 n (byte_of d)

pub byte_at : (n : ℕ) (d : ℕ → ℕ) (j : ℕ) → j < n → get_or (bytes_of n d) j 0 ≡ byte_of d j
unfolding bytes_of
byte_at n d j q = get_d_tabulate 0 n (byte_of d) j q ∙ ap (byte_of d) (omega arith)

pub bytes_cong : (n : ℕ) (d e : ℕ → ℕ) → ((p : ℕ) → p < 8 * n → d p ≡ e p) → bytes_of n d ≡ bytes_of n e
unfolding bytes_of byte_of
bytes_cong n d e same = tabulate_cong 0 n (λ j q r. sum_cong 8 (λ b s. ap (λ (x : ℕ). x * 2 ^ b) (same (8 * j + b) (omega arith))))

pub byte_of_bits : (d : ℕ → ℕ) → ((p : ℕ) → d p ≤ 1) → (j : ℕ) → byte_of d j < 256
unfolding byte_of
byte_of_bits d bits j = sum_of_bits_below (λ b. d (8 * j + b)) (λ b. bits (8 * j + b)) 8

-- one bit more of byte j, from the highest on: x is made of those from bit b on
pub next_bit : (d : ℕ → ℕ) → ((p : ℕ) → d p ≤ 1) → (j x b : ℕ) → 0 < b
    → x * 2 ^ b + sum b (λ i. d (8 * j + i) * 2 ^ i) ≡ byte_of d j
    → ((x * 2 + d (8 * j + (b - 1))) * 2 ^ (b - 1) + sum (b - 1) (λ i. d (8 * j + i) * 2 ^ i) ≡ byte_of d j)
    × (x * 2 + d (8 * j + (b - 1)) < 256)
next_bit d bits j x b q so_far = (next, omega (arith, next, le-mul_of_pos_right y (pow_pos (b - 1)), byte_of_bits d bits j))
  where
    y : ℕ
    y = x * 2 + d (8 * j + (b - 1))

    next : y * 2 ^ (b - 1) + sum (b - 1) (λ i. d (8 * j + i) * 2 ^ i) ≡ byte_of d j
    next = shift_in (λ i. d (8 * j + i)) x b q ∙ so_far

module _ (d : ℕ → ℕ) (bits : (p : ℕ) → d p ≤ 1) (n : ℕ) where
  pub byte_below_256 : (j : ℕ) → get_or (bytes_of n d) j 0 < 256
  byte_below_256 j =
      elim (dec_lt j n) [
        | yes q ↦ rw (byte_at n d j q) (byte_of_bits d bits j)
        | no q ↦ rw (get_or-eq_default (bytes_of n d) 0 {n = j} (omega (arith, bytes_length n d))) (omega arith)
      ]

  pub bit_of_bytes : (p : ℕ) → p < 8 * n → bit (get_or (bytes_of n d) (p / 8) 0) (p % 8) ≡ d p
  unfolding byte_of
  bit_of_bytes p q =
      let j = p / 8 in
      ap (λ (x : ℕ). bit x (p % 8)) (byte_at n d j (omega arith))
      ∙ bit_of_sum (λ b. d (8 * j + b)) (λ b. bits (8 * j + b)) 8 (p % 8) (omega arith)
      ∙ ap d (omega arith)

-- ---- bytes written to the front of a lent map

module _ (d : ℕ → ℕ) (m : List ℕ) where
  pub no_bytes : bytes_of 0 d ++ drop 0 m ≡ m
  unfolding bytes_of
  no_bytes = refl

  pub byte_more : (j : ℕ) → j < length m → set (bytes_of j d ++ drop j m) j (byte_of d j) ≡ bytes_of (suc j) d ++ drop (suc j) m
  unfolding bytes_of
  byte_more j q =
      ap (λ (xs : List ℕ). set (bytes_of j d ++ xs) j (byte_of d j)) (drop-cons m j 0 q)
      ∙ set_at (bytes_of j d) (get_or m j 0) (drop (suc j) m) (byte_of d j) j (bytes_length j d)
      ∙ sym (append_snoc (bytes_of j d) (byte_of d j) (drop (suc j) m))
      ∙ ap (λ (xs : List ℕ). xs ++ drop (suc j) m) (rw zero-add at (sym (tabulate_last 0 j (byte_of d))))
