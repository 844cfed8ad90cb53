-- Laws of the flags of a test: the pages that pass it, and the blocks of a row set among them.
use mathlib.Core.Path.{◌≡◌, refl, sym, ap, ◌∙◌}
use mathlib.Core.Bool.{Bool, true, false, ◌||◌, cond}
use Prim.Native.Nat.{ℕ, suc, ◌+◌, ◌*◌, ◌/◌, ◌≤◌, ◌<◌}
use native.Mathlib.Decide.{dec_lt}
use native.Mathlib.Omega.{arith}
use lib.Dec.{eqb}
use lib.ListN.{length, get_or, replicate, get_or-eq_default}
use Rattle.tree.specs.Held.{one_if}
use Rattle.tree.proofs.Sum.{one_if_le_one}
use Rattle.layout.specs.Rows.{in_row}
use Rattle.table.proofs.Tabulate.{tabulate_length, get_d_tabulate, tabulate_cong, tabulate_const}
use Rattle.pagemap.specs.Map.{bytes_of}
use Rattle.pagemap.specs.Flags.{flags, between, filled, row_filled}
use Rattle.pagemap.proofs.Bits.{bytes_cong}
use Rattle.pagemap.proofs.Filled.{between_scaled, between_one}

pub flags_cong : (n : ℕ) (f g : ℕ → Bool) → ((p : ℕ) → f p ≡ g p) → flags n f ≡ flags n g
unfolding flags
flags_cong n f g e = tabulate_cong 0 n (λ p q r. ap one_if (e p))

pub flags_of_none : (n : ℕ) → replicate n 0 ≡ flags n (λ p. false)
unfolding flags
flags_of_none n = sym (tabulate_const 0 n 0)

pub flags_length : (n : ℕ) (f : ℕ → Bool) → length (flags n f) ≡ n
unfolding flags
flags_length n f = tabulate_length 0 n (λ p. one_if (f p))

pub flag_at : (n : ℕ) (f : ℕ → Bool) (p : ℕ) → p < n → get_or (flags n f) p 0 ≡ one_if (f p)
unfolding flags
flag_at n f p q = get_d_tabulate 0 n (λ p. one_if (f p)) p q ∙ ap (λ (p : ℕ). one_if (f p)) (omega arith)

pub flag_le_one : (n : ℕ) (f : ℕ → Bool) (p : ℕ) → get_or (flags n f) p 0 ≤ 1
flag_le_one n f p =
    elim (dec_lt p n) [
      | yes q ↦ rw (flag_at n f p q) (one_if_le_one (f p))
      | no q ↦ rw (get_or-eq_default (flags n f) 0 {n = p} (omega (arith, flags_length n f))) (omega arith)
    ]

-- packed, they are the bits of the map
pub bytes_of_flags : (n m : ℕ) (f : ℕ → Bool) → 8 * m ≤ n → bytes_of m (λ p. get_or (flags n f) p 0) ≡ bytes_of m (λ p. one_if (f p))
bytes_of_flags n m f q = bytes_cong m (λ p. get_or (flags n f) p 0) (λ p. one_if (f p)) (λ p r. flag_at n f p (omega arith))

one_if_or_else : (b c : Bool) → cond b 1 (one_if c) ≡ one_if (b || c)
one_if_or_else true c = refl
one_if_or_else false c = refl

filled_flags : (n a b : ℕ) (f : ℕ → Bool) → filled a b (flags n f) ≡ flags n (λ p. between a b p || f p)
unfolding filled flags
filled_flags n a b f =
    rw (flags_length n f)
    (tabulate_cong 0 n (λ p q r. ap (cond (between a b p) 1) (flag_at n f p (omega arith)) ∙ one_if_or_else (between a b p) (f p)))

-- the row of level l: its blocks have 2^l pages each
pub row_filled_flags : (n w s k x : ℕ) (f : ℕ → Bool) → 0 < w
    → row_filled w s k x (flags n f) ≡ flags n (λ p. in_row s k x (p / w) || f p)
row_filled_flags n w s k x f q =
    ap (filled (x * w) (suc x * w)) (filled_flags n (s * w) ((s + k) * w) f)
    ∙ filled_flags n (x * w) (suc x * w) (λ p. between (s * w) ((s + k) * w) p || f p)
    ∙ flags_cong n _ _ inside_row
  where
    regroup : (lone run rest : Bool) → (lone || (run || rest)) ≡ ((run || lone) || rest)
    regroup true true rest = refl
    regroup true false rest = refl
    regroup false true rest = refl
    regroup false false rest = refl

    inside_row : (p : ℕ) → (between (x * w) (suc x * w) p || (between (s * w) ((s + k) * w) p || f p)) ≡ (in_row s k x (p / w) || f p)
    inside_row p =
        rw (between_scaled w x (suc x) p q, between_one x (p / w), between_scaled w s (s + k) p q)
        (regroup (eqb x (p / w)) (between s (s + k) (p / w)) (f p))
