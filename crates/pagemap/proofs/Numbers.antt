-- The ones of a map's numbers of 64 bits are its set bits.
use mathlib.Core.Path.{◌≡◌, refl, sym, ap, ap₂, ◌∙◌}
use mathlib.Core.List.{List, []}
use Prim.Native.Nat.{ℕ, zero, suc, ◌+◌, ◌*◌, ◌/◌, ◌≤◌, ◌<◌}
use native.Mathlib.Omega.{arith}
use lib.Count.{ones, ones_cat}
use lib.ListN.{length, get_or, take, drop}
use lib.Seq.{get_or-take, get_or-drop, length-take-le, drop-drop}
use Rattle.std.specs.Simd.{first_chunks}
use Rattle.tree.specs.Pages.{sum}
use Rattle.tree.proofs.Sum.{sum_cong, sum_first}
use Rattle.pagemap.specs.Count.{set_bits}
use Rattle.pagemap.specs.Numbers.{from_bytes, number_at}
use Rattle.pagemap.proofs.SetBits.{set_bits_as_sum, sum_by_groups}

from_bytes_cong : (n : ℕ) (b c : ℕ → ℕ) → ((j : ℕ) → j < n → b j ≡ c j) → from_bytes n b ≡ from_bytes n c
from_bytes_cong zero b c same = refl
from_bytes_cong (suc n) b c same =
    ap₂ (λ (x y : ℕ). x * 256 + y)
    (from_bytes_cong n (λ j. b (suc j)) (λ j. c (suc j)) (λ j q. same (suc j) (omega arith)))
    (same 0 (omega arith))

chunk_at : (n : ℕ) (s : List ℕ) (k : ℕ) → k < n → get_or (first_chunks 8 n s) k [] ≡ take 8 (drop (8 * k) s)
chunk_at zero s k q = absurd (omega arith)
chunk_at (suc n) s zero q = refl
chunk_at (suc n) s (suc k) q =
    let next : 8 * suc k ≡ 8 + 8 * k = omega arith in
    chunk_at n (drop 8 s) k (omega arith) ∙ ap (take 8) (rw next (drop-drop (8 * k) 8 s))

-- the number that chunk k of the first n makes
number_of_chunk : (m : List ℕ) (n k : ℕ) → k < n → number_at (get_or (first_chunks 8 n (take (8 * n) m)) k []) 0 ≡ number_at m k
number_of_chunk m n k q =
    let first = take (8 * n) m in
    let rest = drop (8 * k) first in
    rw (chunk_at n first k q)
    (from_bytes_cong 8 (λ j. get_or (take 8 rest) j 0) (λ j. get_or m (8 * k + j) 0)
    (λ j r. get_or-take 8 rest j 0 r ∙ get_or-drop (8 * k) first j 0 ∙ get_or-take (8 * n) m (8 * k + j) 0 (omega arith)))

-- the ones of a number are those of its bytes
ones_of_bytes : (n : ℕ) (b : ℕ → ℕ) → ((j : ℕ) → b j < 256) → ones (from_bytes n b) ≡ sum n (λ j. ones (b j))
unfolding sum ones
ones_of_bytes zero b bytes = refl
ones_of_bytes (suc n) b bytes =
    let rest : ℕ → ℕ = λ j. b (suc j) in
    omega (arith, ones_cat 8 (from_bytes n rest) (b 0) (bytes 0), ones_of_bytes n rest (λ j. bytes (suc j)), sum_first n (λ j. ones (b j)))

pub set_bits_by_number : (m : List ℕ) → ((j : ℕ) → get_or m j 0 < 256) → (n : ℕ) → 8 * n ≤ length m
    → set_bits (take (8 * n) m) ≡ sum n (λ k. ones (number_at m k))
set_bits_by_number m bytes n q =
    set_bits_as_sum (take (8 * n) m)
    ∙ ap (λ (l : ℕ). sum l (λ j. ones (get_or (take (8 * n) m) j 0))) (length-take-le (8 * n) m q)
    ∙ sum_cong (8 * n) (λ j r. ap ones (get_or-take (8 * n) m j 0 r))
    ∙ sym (sum_by_groups 8 n (λ j. ones (get_or m j 0)))
    ∙ sum_cong n (λ k r. sym (ones_of_bytes 8 (λ j. get_or m (8 * k + j) 0) (λ j. bytes (8 * k + j))))

-- counted by chunks of eight bytes
pub set_bits_of_chunks : (m : List ℕ) → ((j : ℕ) → get_or m j 0 < 256) → (n : ℕ) → 8 * n ≤ length m → (chunks : List (List ℕ))
    → chunks ≡ first_chunks 8 (length (take (8 * n) m) / 8) (take (8 * n) m)
    → sum n (λ k. ones (number_at (get_or chunks k []) 0)) ≡ set_bits (take (8 * n) m)
set_bits_of_chunks m bytes n long chunks front =
    let whole : length (take (8 * n) m) / 8 ≡ n = omega (arith, length-take-le (8 * n) m long) in
    rw (front, whole)
    (sum_cong n (λ k q. ap ones (number_of_chunk m n k q)) ∙ sym (set_bits_by_number m bytes n long))
