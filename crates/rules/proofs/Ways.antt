-- The ways that a call on a sound table can go: refused, granted, repeated, released, grown; with what its checks have shown.
use Rattle.std.specs.Prelude.{◌≡◌, List, ℕ, suc, ◌+◌, ◌^◌, ◌≤◌, ◌<◌, set}
use Rattle.tree.specs.Node.{level}
use Rattle.layout.specs.Layout.{pages}
use Rattle.layout.specs.Set.{layout_set}
use Rattle.layout.specs.Change.{one_block_more}
use Rattle.table.specs.Table.{node_at, counts_of}
use Rattle.rules.specs.Call.{Call, tenant_of}
use Rattle.rules.specs.Step.{refused, counts_but, granted, repeated, released, step}
use Rattle.rules.specs.Demand.{Asks, Releases, Grows}

pub record Granted (h : ℕ) (T : List ℕ) (c : Call) (l : ℕ) : Type 0 where
  pub asks : Asks h c l
  pub tenant : tenant_of c < 4096
  pub nothing : node_at T (tenant_of c) ≡ 0
  pub in_height : l ≤ h
  pub fits : pages (counts_of h T) + 2 ^ l ≤ 2 ^ h
  pub outcome : step h T c ≡ granted h T (layout_set h (one_block_more (counts_of h T) l)) (tenant_of c) l

pub record Repeated (h : ℕ) (T : List ℕ) (c : Call) (l : ℕ) : Type 0 where
  pub asks : Asks h c l
  pub holds : 0 < node_at T (tenant_of c)
  pub same : level h (node_at T (tenant_of c)) ≡ l
  pub outcome : step h T c ≡ repeated T (node_at T (tenant_of c))

pub record Released (h : ℕ) (T : List ℕ) (c : Call) : Type 0 where
  pub asks : Releases c
  pub tenant : tenant_of c < 4096
  pub holds : 0 < node_at T (tenant_of c)
  pub outcome : step h T c ≡ released h T (layout_set h (counts_but h T (tenant_of c))) (tenant_of c)

pub record Grown (h : ℕ) (T : List ℕ) (c : Call) (l : ℕ) : Type 0 where
  pub asks : Grows c l
  pub tenant : tenant_of c < 4096
  pub holds : 0 < node_at T (tenant_of c)
  pub in_height : l ≤ h
  pub fits : pages (counts_but h T (tenant_of c)) + 2 ^ l ≤ 2 ^ h
  pub outcome : step h T c ≡ granted h (set T (tenant_of c) 0) (layout_set h (one_block_more (counts_but h T (tenant_of c)) l)) (tenant_of c) l

pub data Case (h : ℕ) (T : List ℕ) (c : Call) : Type 0 where
  by_grant : (l : ℕ) → Granted h T c l → Case h T c
  by_repetition : (l : ℕ) → Repeated h T c l → Case h T c
  by_release : Released h T c → Case h T c
  by_growth : (l : ℕ) → Grown h T c l → Case h T c
  by_refusal : (n : ℕ) → step h T c ≡ refused (suc n) T → Case h T c
