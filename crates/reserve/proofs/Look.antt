-- What the C door tells of a tenant's entry, case by case.
use mathlib.Core.Path.{◌≡◌, ap, ◌∙◌}
use mathlib.Core.List.{List}
use Prim.Native.Nat.{ℕ, ◌*◌, ◌≤◌, ◌<◌}
use native.Mathlib.Omega.{arith}
use borrow.Author.Tests.{lt-ltb, le-ltb, eq-eqb}
use lib.ListN.{length, length-set}
use lib.Seq.{get_or-set_same, get_or-set_other}
use Rattle.journal.specs.Format.{word_at}
use Rattle.image.specs.Image.{table_of}
use Rattle.image.proofs.Images.{lent_as_none, lent_as_all, numbers_length, number_at}
use Rattle.reserve.specs.Look.{no_entry, entry_for, EntryTold}

-- an image of another length
pub no_table : (image : List ℕ) (t : ℕ) → ¬ (length image ≡ 8192) → entry_for (table_of image) t ≡ no_entry 2
unfolding entry_for
no_table image t other = rw (lent_as_none 4096 image other)

module _ (image : List ℕ) (t : ℕ) (whole : length image ≡ 8192) where
  entries : length (table_of image) ≡ 4096
  entries = ap length (lent_as_all 4096 image whole) ∙ numbers_length 4096 image whole

  pub no_tenant : 4096 ≤ t → entry_for (table_of image) t ≡ no_entry 4
  unfolding entry_for
  no_tenant p = rw (eq-eqb (length (table_of image)) 4096 entries, lt-ltb 4095 t p)

  pub entry_of_tenant : t < 4096 → entry_for (table_of image) t ≡ record { answer = 0; node = word_at image (2 * t) }
  unfolding entry_for
  entry_of_tenant p =
      rw (eq-eqb (length (table_of image)) 4096 entries, le-ltb 4095 t (omega arith), lent_as_all 4096 image whole, number_at image t (omega arith))

-- ---- the theorem

pub entry_told : EntryTold
unfolding entry_for
entry_told T t n e p = record {
  its_own = rw (length-set T t n, eq-eqb (length T) 4096 e, le-ltb 4095 t (omega arith), get_or-set_same T t n 0 (omega arith));
  of_others = λ u other. rw (length-set T t n, get_or-set_other T t u n 0 other);
}
