-- What the bits of a table's page map say, for every height and table, and what a map's count says.
use mathlib.Core.Path.{◌≡◌, refl, sym, ap, ◌∙◌}
use mathlib.Core.Bool.{Bool, true, false}
use mathlib.Core.Logic.{◌↔◌}
use mathlib.Core.List.{List, ◌++◌}
use Prim.Native.Nat.{ℕ, suc, ◌*◌, ◌/◌, ◌%◌, ◌^◌, ◌≤◌, ◌<◌}
use native.Mathlib.Decide.{dec_lt}
use native.Mathlib.Omega.{arith}
use borrow.Author.Tests.{le-ltb}
use lib.Count.{ones}
use lib.Dec.{eqb}
use lib.ListN.{length, get_or, take, length-append, length-take, get_or-eq_default}
use lib.Seq.{take_at, get_or-take, length-take-le}
use Rattle.tree.specs.Held.{one_if, count}
use Rattle.tree.specs.Block.{Blocks, blocks_of, bsizes}
use Rattle.tree.specs.Pages.{sum, pages_of}
use Rattle.tree.proofs.Bridge.{legal_blocks}
use Rattle.tree.proofs.Sets.{set_of_blocks}
use Rattle.tree.proofs.Sizes.{sizes_of_blocks, sizes_above}
use Rattle.tree.proofs.Sum.{sum_cong, sum_stops, one_if_le_one, count_as_sum, count_cong}
use Rattle.tree.proofs.Room.{pages_covered}
use Rattle.layout.specs.Layout.{pages}
use Rattle.layout.proofs.Bounds.{power_le_4096}
use Rattle.layout.proofs.Pages.{pages_of_levels}
use Rattle.layout.proofs.Sizes.{false_unless_true}
use Rattle.table.specs.Table.{occupied, InOrder, counts_of}
use Rattle.table.proofs.Occupied.{occupied_within}
use Rattle.table.proofs.Order.{in_order_counts}
use Rattle.pagemap.specs.Map.{bit_of, covered, HeldOver, page_map}
use Rattle.pagemap.specs.Count.{set_bits, counted}
use Rattle.pagemap.specs.Numbers.{number_at}
use Rattle.pagemap.proofs.Covered.{covered_iff, covered_in_reserve}
use Rattle.pagemap.proofs.Bits.{bytes_length, byte_below_256, bit_of_bytes}
use Rattle.pagemap.proofs.SetBits.{set_bits_by_page}
use Rattle.pagemap.proofs.Numbers.{set_bits_by_number}

one_if_is_one : (b : Bool) → eqb (one_if b) 1 ≡ b
one_if_is_one true = refl
one_if_is_one false = refl

module _ (h : ℕ) (T : List ℕ) where
  pub map_length : length (page_map h T) ≡ 512
  unfolding page_map
  map_length = bytes_length 512 (λ p. one_if (covered h T p))

  not_covered_past : (p : ℕ) → 2 ^ h ≤ p → covered h T p ≡ false
  not_covered_past p past = false_unless_true (covered h T p) (λ e. omega (arith, covered_in_reserve h T p e))

  -- a page's bit is set exactly if a held block covers the page
  pub bits_of_map : (p : ℕ) → p < 4096 → bit_of (page_map h T) p ≡ covered h T p
  unfolding page_map
  bits_of_map p q =
      ap (λ (x : ℕ). eqb x 1) (bit_of_bytes (λ p. one_if (covered h T p)) (λ p. one_if_le_one (covered h T p)) 512 p (omega arith))
      ∙ one_if_is_one (covered h T p)

  pub bit_iff_held : (p : ℕ) → p < 4096 → (bit_of (page_map h T) p ≡ true) ↔ HeldOver h T p
  bit_iff_held p q =
      let same = bits_of_map p q in
      (λ e. (covered_iff h T p).0 (sym same ∙ e), λ n. same ∙ (covered_iff h T p).1 n)

  pub no_bits_past_reserve : (p : ℕ) → 2 ^ h ≤ p → p < 4096 → bit_of (page_map h T) p ≡ false
  no_bits_past_reserve p past q = bits_of_map p q ∙ not_covered_past p past

  byte_of_map : (j : ℕ) → get_or (page_map h T) j 0 < 256
  unfolding page_map
  byte_of_map j = byte_below_256 (λ p. one_if (covered h T p)) (λ p. one_if_le_one (covered h T p)) 512 j

-- ---- the count of a map

bit_of_first : (n : ℕ) (m : List ℕ) (p : ℕ) → p < 8 * n → bit_of (take n m) p ≡ bit_of m p
bit_of_first n m p q = ap (λ (x : ℕ). eqb (x / 2 ^ (p % 8) % 2) 1) (get_or-take n m (p / 8) 0 (omega arith))

byte_of_first : (n : ℕ) (m : List ℕ) → ((j : ℕ) → get_or m j 0 < 256) → (j : ℕ) → get_or (take n m) j 0 < 256
byte_of_first n m bytes j =
    elim (dec_lt j n) [
      | yes q ↦ rw (get_or-take n m j 0 q) (bytes j)
      | no q ↦ rw (get_or-eq_default (take n m) 0 {n = j} (rw (length-take n m) (omega arith))) (omega arith)
    ]

-- of a lent map of 512 bytes or more, the pages are counted whose bit is set
pub counted_by_page : (m : List ℕ) → ((j : ℕ) → get_or m j 0 < 256) → 512 ≤ length m
    → counted m ≡ record { answer = 0; count = count 4096 (bit_of m) }
unfolding counted
counted_by_page m bytes long = rw (le-ltb (length m) 512 long, set_bits_counted)
  where
    first : List ℕ
    first = take 512 m

    set_bits_counted : set_bits (take 512 m) ≡ count 4096 (bit_of m)
    set_bits_counted =
        set_bits_by_page first (byte_of_first 512 m bytes)
        ∙ ap (λ (n : ℕ). count (8 * n) (bit_of first)) (length-take-le 512 m long)
        ∙ count_cong 4096 (bit_of first) (bit_of m) (λ p q. bit_of_first 512 m p (omega arith))

-- and 64 ones counts are enough for it: those of its numbers of 64 bits. Document 02, L3
pub counted_by_number : (m : List ℕ) → ((j : ℕ) → get_or m j 0 < 256) → 512 ≤ length m
    → counted m ≡ record { answer = 0; count = sum 64 (λ k. ones (number_at m k)) }
unfolding counted
counted_by_number m bytes long = rw (le-ltb (length m) 512 long, set_bits_by_number m bytes 64 long)

module _ (h : ℕ) (T : List ℕ) (low : h ≤ 12) (o : InOrder h T) where
  -- the pages that the held blocks cover are as many as the blocks have
  pages_are_held : count (2 ^ h) (covered h T) ≡ pages (counts_of h T)
  unfolding covered pages_of
  pages_are_held =
      let A = occupied T in
      let B : Blocks = blocks_of h A in
      let S = set_of_blocks h A (occupied_within h T o.in_tree) in
      let sized : (l : ℕ) → bsizes h B l ≡ get_or (counts_of h T) l 0 = λ l. sym (sizes_of_blocks h A B S l) ∙ in_order_counts h T low o l in
      pages_covered h B S.blocks_within (legal_blocks h A B S o.legal)
      ∙ sum_cong (suc h) (λ l q. ap (λ (c : ℕ). c * 2 ^ l) (sized l))
      ∙ sym (pages_of_levels h (counts_of h T) (λ l q. sym (in_order_counts h T low o l) ∙ sizes_above h A l q))

  set_bits_of_map : set_bits (page_map h T) ≡ pages (counts_of h T)
  set_bits_of_map =
      let one_covered : ℕ → ℕ = λ p. one_if (covered h T p) in
      set_bits_by_page (page_map h T) (byte_of_map h T)
      ∙ ap (λ (n : ℕ). count (8 * n) (bit_of (page_map h T))) (map_length h T)
      ∙ count_cong 4096 (bit_of (page_map h T)) (covered h T) (bits_of_map h T)
      ∙ count_as_sum 4096 (covered h T)
      ∙ sum_stops (2 ^ h) 4096 one_covered (power_le_4096 h low) (λ p q. ap one_if (not_covered_past h T p q))
      ∙ sym (count_as_sum (2 ^ h) (covered h T))
      ∙ pages_are_held

  -- the count of a table's map, whatever follows it, is the number of pages held
  pub map_count : (rest : List ℕ) → counted (page_map h T ++ rest) ≡ record { answer = 0; count = pages (counts_of h T) }
  unfolding counted
  map_count rest =
      let long_enough : 512 ≤ length (page_map h T ++ rest) = rw length-append (omega (arith, map_length h T)) in
      rw (le-ltb (length (page_map h T ++ rest)) 512 long_enough, take_at (page_map h T) rest 512 (map_length h T), set_bits_of_map)
