-- The page map. Document 01, "Calls": a bit for each page, page i at bit i mod 8 of byte i / 8, set if a held block covers the page.
use Rattle.std.specs.Prelude.{◌≡◌, Bool, true, List, ℕ, ◌+◌, ◌*◌, ◌/◌, ◌%◌, ◌^◌, eqb, get_or}
use Rattle.tree.specs.Node.{InTree, Covers}
use Rattle.tree.specs.Held.{one_if}
use Rattle.tree.specs.Block.{blocks_of}
use Rattle.tree.specs.Pages.{sum, coveredb}
use Rattle.table.specs.Table.{occupied, tabulate}

-- page p's bit of a map: bit p mod 8 of byte p / 8, and bit 0 weighs 1
abbrev pub bit_of : List ℕ → ℕ → Bool
bit_of m p = eqb (get_or m (p / 8) 0 / 2 ^ (p % 8) % 2) 1

-- page p is covered by a held block, level by level; `proofs/Covered.antt` shows that it is exactly if there is a node as below
unfoldable pub covered : ℕ → List ℕ → ℕ → Bool
covered h T p = coveredb h (blocks_of h (occupied T)) p

-- a held node of the tree that covers page p
pub record HeldOver (h : ℕ) (T : List ℕ) (p : ℕ) : Type 0 where
  pub node : ℕ
  pub in_tree : InTree h node
  pub held : occupied T node ≡ true
  pub covers : Covers h node p

-- byte j of the map in which page p has the bit d p
unfoldable pub byte_of : (ℕ → ℕ) → ℕ → ℕ
byte_of d j = sum 8 (λ b. d (8 * j + b) * 2 ^ b)

-- the first n bytes of it
unfoldable pub bytes_of : ℕ → (ℕ → ℕ) → List ℕ
bytes_of n d = tabulate 0 n (byte_of d)

-- the page map of a table at height h; pages past the reserve are covered by nothing
unfoldable pub page_map : ℕ → List ℕ → List ℕ
page_map h T = bytes_of 512 (λ p. one_if (covered h T p))
