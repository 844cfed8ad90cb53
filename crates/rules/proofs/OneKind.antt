-- A call is of one kind, and asks for one level. And how many move entries each kind takes, and what is written of it into the book.
use mathlib.Core.Path.{◌≡◌, refl, sym, ◌∙◌}
use mathlib.Core.Option.{some, none}
use Prim.Native.Nat.{ℕ, ◌≤◌}
use native.Mathlib.Omega.{arith}
use Rattle.sizes.specs.Level.{level_for}
use Rattle.rules.specs.Call.{Call, grant_level, grant_pages, release, grow, tenant_of, least_entries}
use Rattle.rules.specs.History.{Book, write, enter}
use Rattle.rules.specs.Demand.{Asks, by_level, by_pages, Releases, releases, Grows, grows}

-- 0 for a grant of either kind, 1 for a release, 2 for a growth
abbrev kind : Call → ℕ
kind (grant_level t l m) = 0
kind (grant_pages t p m) = 0
kind (release t m) = 1
kind (grow t l m) = 2

-- the level asked for, and 0 for a release
abbrev level_asked : ℕ → Call → ℕ
level_asked h (grant_level t l m) = l
level_asked h (grant_pages t p m) = level_for h p
level_asked h (release t m) = 0
level_asked h (grow t l m) = l

of_grant : (h : ℕ) (c : Call) (l : ℕ) → Asks h c l → (kind c ≡ 0) × (level_asked h c ≡ l)
of_grant h c l by_level = (refl, refl)
of_grant h c l by_pages = (refl, refl)

of_release : (c : Call) → Releases c → kind c ≡ 1
of_release c releases = refl

of_growth : (h : ℕ) (c : Call) (l : ℕ) → Grows c l → (kind c ≡ 2) × (level_asked h c ≡ l)
of_growth h c l grows = (refl, refl)

pub grant_takes_4 : (h : ℕ) (c : Call) (l : ℕ) → Asks h c l → least_entries c ≡ 4
grant_takes_4 h c l by_level = refl
grant_takes_4 h c l by_pages = refl

pub release_takes_4 : (c : Call) → Releases c → least_entries c ≡ 4
release_takes_4 c releases = refl

pub at_most_7 : (c : Call) → least_entries c ≤ 7
at_most_7 (grant_level t l m) = omega arith
at_most_7 (grant_pages t p m) = omega arith
at_most_7 (release t m) = omega arith
at_most_7 (grow t l m) = omega arith

pub growth_takes_7 : (c : Call) (l : ℕ) → Grows c l → least_entries c ≡ 7
growth_takes_7 c l grows = refl

-- what is written into the book of each kind
pub entered_grant : (h : ℕ) (c : Call) (l : ℕ) → Asks h c l → (B : Book) → enter h c 0 B ≡ write (tenant_of c) (some l) B
entered_grant h c l by_level B = refl
entered_grant h c l by_pages B = refl

pub entered_release : (h : ℕ) (c : Call) → Releases c → (B : Book) → enter h c 0 B ≡ write (tenant_of c) none B
entered_release h c releases B = refl

pub entered_growth : (h : ℕ) (c : Call) (l : ℕ) → Grows c l → (B : Book) → enter h c 0 B ≡ write (tenant_of c) (some l) B
entered_growth h c l grows B = refl

module _ (h : ℕ) (c : Call) where
  pub grants_do_not_release : (l : ℕ) → Asks h c l → ¬ Releases c
  grants_do_not_release l a r = omega (arith, (of_grant h c l a).0, of_release c r)

  pub grants_do_not_grow : (l k : ℕ) → Asks h c l → ¬ Grows c k
  grants_do_not_grow l k a g = omega (arith, (of_grant h c l a).0, (of_growth h c k g).0)

  pub releases_do_not_grow : (l : ℕ) → Releases c → ¬ Grows c l
  releases_do_not_grow l r g = omega (arith, of_release c r, (of_growth h c l g).0)

  pub one_level_asked : (l k : ℕ) → Asks h c l → Asks h c k → l ≡ k
  one_level_asked l k a b = sym (of_grant h c l a).1 ∙ (of_grant h c k b).1

  pub one_level_grown : (l k : ℕ) → Grows c l → Grows c k → l ≡ k
  one_level_grown l k a b = sym (of_growth h c l a).1 ∙ (of_growth h c k b).1
