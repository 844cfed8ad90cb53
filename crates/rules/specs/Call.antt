-- The calls with their arguments. Document 01, "Calls", and document 02, L5, for a tenant that grows.
use Rattle.std.specs.Prelude.{ℕ}

-- A grant by level (tenant, level), a grant by pages (tenant, pages), a release (tenant), a growth up or down (tenant, level); the last number is
-- that of the move entries lent.
pub data Call : Type 0 where
  grant_level : ℕ → ℕ → ℕ → Call
  grant_pages : ℕ → ℕ → ℕ → Call
  release : ℕ → ℕ → Call
  grow : ℕ → ℕ → ℕ → Call

-- the tenant that a call names
abbrev pub tenant_of : Call → ℕ
tenant_of (grant_level t l m) = t
tenant_of (grant_pages t p m) = t
tenant_of (release t m) = t
tenant_of (grow t l m) = t

-- the move entries that it is lent
abbrev pub entries_of : Call → ℕ
entries_of (grant_level t l m) = m
entries_of (grant_pages t p m) = m
entries_of (release t m) = m
entries_of (grow t l m) = m

-- the fewest that it takes: document 01 has four for all, and document 02, L5, seven for a growth
abbrev pub least_entries : Call → ℕ
least_entries (grant_level t l m) = 4
least_entries (grant_pages t p m) = 4
least_entries (release t m) = 4
least_entries (grow t l m) = 7
