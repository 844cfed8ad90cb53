-- `table::passes::level_counts` meets its contract. The loop's invariant: the levels above `level` are counted, and `first` is the first
-- node of `level`.
use mathlib.Core.Path.{◌≡◌, ap₂, ◌∙◌}
use mathlib.Core.List.{List}
use Prim.Native.Nat.{ℕ, suc, ◌-◌, ◌*◌, ◌^◌, ◌≤◌, ◌<◌}
use borrow.Author.Tests.{le-leb, lt-leb}
use native.Mathlib.Nat.{pow-suc}
use native.Mathlib.Omega.{arith}
use lib.Dec.{ltb}
use lib.ListN.{set, take, drop}
use lib.Pow.{pow_mono}
use Rattle.table.specs.Table.{tabulate}
use Rattle.table.specs.Owners.{used_in, level_count, level_counts, count_up_to}
use Rattle.table.proofs.Used.{tally_take_le}
use Rattle.table.proofs.Tabulate.{from, fill_none, fill_more, fill_all}
use Rattle.table.proofs.passes.level_counts.Goals as goal

-- no level has more than 4,096 nodes
first_le : (h l first : ℕ) → h ≤ 12 → first ≡ 2 ^ (h - l) → first ≤ 4096
first_le h l first q e = rw e (pow_mono {j = 12} (omega arith))

-- the part from a level's first node to the next level's is the level
counted : (h : ℕ) (o counts : List ℕ) (l first : ℕ) → h ≤ 12 → l ≤ h → first ≡ 2 ^ (h - l)
    → counts ≡ tabulate 0 13 (from (suc l) (count_up_to h o))
    → set counts l (used_in (take (2 * first - first) (drop first o))) ≡ tabulate 0 13 (from l (count_up_to h o))
unfolding level_count
counted h o counts l first p q e counts_are =
    let width : 2 * first - first ≡ first = omega arith in
    let count_is : used_in (take (2 * first - first) (drop first o)) ≡ count_up_to h o l = rw (width, e, le-leb l h q) in
    ap₂ (λ (xs : List ℕ) (n : ℕ). set xs l n) counts_are count_is ∙ fill_more 13 l (count_up_to h o) (omega arith)

no_level_above : (h : ℕ) (o : List ℕ) (l : ℕ) → h < l → count_up_to h o l ≡ 0
no_level_above h o l q = rw (lt-leb l h q)

pub loop-level-init : goal.loop-level-init
loop-level-init c =
    let h = c.args.height in
    let o = c.args.owner.now in
    let none : h - h ≡ 0 = omega arith in
    rw c.from-level.ensures
    (omega arith, rw none, fill_none 13 (suc h) (count_up_to h o) (λ l q. no_level_above h o l (omega arith)))

pub slice_bounds-used-end : goal.slice_bounds-used-end
slice_bounds-used-end c = omega (arith, first_le c.args.height c.loop-level.level c.loop-level.first c.requires c.loop-level.invariant.1)

pub overflow_cast-counts : goal.overflow_cast-counts
overflow_cast-counts c =
    let at = c.loop-level in
    omega (
      arith,
      first_le c.args.height at.level at.first c.requires at.invariant.1,
      tally_take_le (λ n. ltb 0 n) (2 * at.first - at.first) (drop at.first c.args.owner.now),
    )

pub loop-level-preserved : goal.loop-level-preserved
loop-level-preserved c =
    let h = c.args.height in
    let at = c.loop-level in
    let inv = at.invariant in
    let level_is : suc (at.level - 1) ≡ at.level = omega arith in
    let depth_is : h - (at.level - 1) ≡ suc (h - at.level) = omega arith in (
      omega arith,
      rw depth_is (omega (arith, inv.1, pow-suc 2 (h - at.level))),
      rw (c.used.ensures, level_is) (counted h c.args.owner.now at.counts at.level at.first c.requires inv.0 inv.1 inv.2),
    )

pub returns-2 : goal.returns-2
unfolding level_counts
returns-2 c =
    let h = c.args.height in
    let o = c.args.owner.now in
    let at = c.loop-level in
    let level_is : at.level ≡ 0 = omega arith in
    let all = counted h o at.counts at.level at.first c.requires at.invariant.0 at.invariant.1 at.invariant.2 in
    rw c.used.ensures (all ∙ rw level_is (fill_all 13 (count_up_to h o)))
