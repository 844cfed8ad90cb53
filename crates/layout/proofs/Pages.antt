-- The pages of counts given as a list, and as a function of the level.
use mathlib.Core.Path.{◌≡◌, refl, sym, ap, ◌∙◌}
use mathlib.Core.List.{List, [], ◌∷◌}
use Prim.Native.Nat.{ℕ, suc, ◌+◌, ◌*◌, ◌^◌, ◌<◌, max}
use native.Mathlib.Nat.{add-zero, zero-add, zero-mul, add-suc, suc-add, le-max_left, le-max_right}
use lib.ListN.{length, get_or, get_or-eq_default}
use Rattle.tree.specs.Pages.{sum, pages_of}
use Rattle.tree.proofs.Sum.{sum_cong, sum_first, sum_stops}
use Rattle.layout.specs.Layout.{pages, pages_from}

pages_from_sum : (l : ℕ) (cs : List ℕ) → pages_from l cs ≡ sum (length cs) (λ i. get_or cs i 0 * 2 ^ (l + i))
unfolding sum
pages_from_sum l [] = refl
pages_from_sum l (c ∷ cs) =
    ap (λ (x : ℕ). c * 2 ^ l + x) (pages_from_sum (suc l) cs ∙ sum_cong (length cs) (λ i q. rw (suc-add, ← add-suc)))
    ∙ rw (add-zero l) at (sym (sum_first (length cs) (λ i. get_or (c ∷ cs) i 0 * 2 ^ (l + i))))

-- where no block has a level above h, the levels up to h have all the pages
pub pages_of_levels : (h : ℕ) (cs : List ℕ) → ((l : ℕ) → h < l → get_or cs l 0 ≡ 0) → pages cs ≡ pages_of h (λ l. get_or cs l 0)
unfolding pages pages_of
pages_of_levels h cs none =
    let f : ℕ → ℕ = λ l. get_or cs l 0 * 2 ^ l in
    let m : ℕ = max (length cs) (suc h) in
    let by_list = sum_stops (length cs) m f (le-max_left (length cs) (suc h)) (λ l q. zero_pages l (get_or-eq_default cs 0 q)) in
    let by_height = sum_stops (suc h) m f (le-max_right (length cs) (suc h)) (λ l q. zero_pages l (none l q)) in
    pages_from_sum 0 cs ∙ sum_cong (length cs) (λ l q. rw zero-add) ∙ sym by_list ∙ by_height
  where
    zero_pages : (l : ℕ) → get_or cs l 0 ≡ 0 → get_or cs l 0 * 2 ^ l ≡ 0
    zero_pages l e = rw e (zero-mul (2 ^ l))
