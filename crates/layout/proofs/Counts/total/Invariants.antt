-- `layout::Counts::total` meets its contract: at each level the sum and the pages from there on make all of them.
use mathlib.Core.Path.{◌≡◌}
use mathlib.Core.List.{List}
use Prim.Native.Nat.{ℕ, ◌+◌, ◌*◌, ◌^◌, ◌≤◌}
use lib.ListN.{drop}
use Rattle.layout.specs.Layout.{pages, pages_from}
use Rattle.layout.proofs.Counts.total.Given as goal

-- before level l the sum has the pages of the levels below, each with at most 65,535 blocks
pub record Summed (cs : List ℕ) (sum size l : ℕ) : Type 0 where
  pub inside : l ≤ 13
  pub size_is : size ≡ 2 ^ l
  pub rest : sum + pages_from l (drop l cs) ≡ pages cs
  pub bound : sum + 65535 ≤ 65535 * 2 ^ l

abbrev pub invariant-loop-count : goal.invariant-loop-count
invariant-loop-count l = Summed l.count-items l.sum l.size l.count-index
