-- "Lies under" and "left of", by number and by block.
use mathlib.Core.Path.{◌≡◌, refl}
use mathlib.Core.Logic.{inl, inr}
use Prim.Native.Nat.{ℕ, zero, suc, ◌+◌, ◌-◌, ◌*◌, ◌^◌, ◌≤◌, ◌<◌}
use native.Mathlib.Omega.{arith}
use native.Mathlib.Nat.{mul-le-mul_right, le_of_mul-le-mul_right, le_dest, pow-suc}
use native.Mathlib.Decide.{dec_lt}
use lib.Pow.{pow-add, pow_pos}
use Rattle.tree.specs.Node.{Child, Under, child, deeper, LeftOf}
use Rattle.tree.specs.Block.{Block, first, past, node, Inside}
use Rattle.tree.proofs.Highest.{Highest, highest_unique}
use Rattle.tree.proofs.Align.{first_lt_past, scale}
use Rattle.tree.proofs.Coordinates.{level_le, node_highest, node_first, node_past}

-- the numbers under n, e + 1 levels down
pub record Span (m n e : ℕ) : Type 0 where
  pub low : n * 2 ^ suc e ≤ m
  pub high : m < suc n * 2 ^ suc e

span_up : (m c n e : ℕ) → 2 * n ≤ c → c ≤ 2 * n + 1 → Span m c e → Span m n (suc e)
span_up m c n e p q s =
    record {
      low = rw (pow-suc 2 (suc e)) (omega (arith, s.low, mul-le-mul_right (2 ^ suc e) p));
      high = rw (pow-suc 2 (suc e)) (omega (arith, s.high, mul-le-mul_right (2 ^ suc e) q));
    }

span_child : (m n : ℕ) → 2 * n ≤ m → m ≤ 2 * n + 1 → Span m n 0
span_child m n p q = record { low = omega arith; high = omega arith }

pub under_span : {m n : ℕ} → Under m n → (e : ℕ) × Span m n e
under_span (child {m = m} {n = n} (inl p)) = (0, span_child m n (omega arith) (omega arith))
under_span (child {m = m} {n = n} (inr p)) = (0, span_child m n (omega arith) (omega arith))
under_span (deeper {m = m} {c = c} {n = n} u p) = go p (under_span u)
  where
    go : Child c n → (e : ℕ) × Span m c e → (e : ℕ) × Span m n e
    go (inl q) s = (suc s.0, span_up m c n s.0 (omega arith) (omega arith) s.1)
    go (inr q) s = (suc s.0, span_up m c n s.0 (omega arith) (omega arith) s.1)

pub span_under : (e m n : ℕ) → Span m n e → Under m n
span_under zero m n s = go (dec_lt m (2 * n + 1))
  where
    go : Dec (m < 2 * n + 1) → Under m n
    go (yes p) = child {m = m} {n = n} (inl (omega (arith, s.low)))
    go (no p) = child {m = m} {n = n} (inr (omega (arith, s.high)))
span_under (suc e) m n s = go (dec_lt m ((2 * n + 1) * 2 ^ suc e)) (span_under e m (2 * n)) (span_under e m (2 * n + 1))
  where
    low : n * (2 ^ suc e * 2) ≤ m
    low = rw (pow-suc 2 (suc e)) at s.low

    high : m < suc n * (2 ^ suc e * 2)
    high = rw (pow-suc 2 (suc e)) at s.high

    go : Dec (m < (2 * n + 1) * 2 ^ suc e) → (Span m (2 * n) e → Under m (2 * n)) → (Span m (2 * n + 1) e → Under m (2 * n + 1)) → Under m n
    go (yes p) left right = deeper (left (record { low = omega (arith, low); high = omega arith })) (inl refl)
    go (no p) left right = deeper (right (record { low = omega arith; high = omega (arith, high) })) (inr refl)

-- The depth of what lies e + 1 levels under n.
span_highest : (m n d e : ℕ) → Highest d n → Span m n e → Highest (d + suc e) m
span_highest m n d e b s =
    record {
      low = rw pow-add (omega (arith, s.low, mul-le-mul_right (2 ^ suc e) b.low));
      high = rw (pow-suc 2 (d + suc e), pow-add) (omega (arith, s.high, mul-le-mul_right (2 ^ suc e) (rw (pow-suc 2 d) at b.high)));
    }

-- The numbers of a span, as pages: m is node 2^(d+e+1) + i, e + 1 levels under node 2^d + j, and l is its level.
span_pages : (l e d i j : ℕ) → Span (2 ^ (d + suc e) + i) (2 ^ d + j) e
    → (j * 2 ^ (l + suc e) ≤ i * 2 ^ l) × (suc i * 2 ^ l ≤ suc j * 2 ^ (l + suc e))
span_pages l e d i j s =
    let low : (2 ^ d + j) * 2 ^ suc e ≤ 2 ^ d * 2 ^ suc e + i = rw pow-add at s.low in
    let high : 2 ^ d * 2 ^ suc e + i < suc (2 ^ d + j) * 2 ^ suc e = rw pow-add at s.high in (
      rw (scale j (suc e) l) (mul-le-mul_right (2 ^ l) (omega arith)),
      rw (scale (suc j) (suc e) l) (mul-le-mul_right (2 ^ l) (omega arith)),
    )

pages_span : (l e d i j : ℕ) → j * 2 ^ (l + suc e) ≤ i * 2 ^ l → suc i * 2 ^ l ≤ suc j * 2 ^ (l + suc e) → Span (2 ^ (d + suc e) + i) (2 ^ d + j) e
pages_span l e d i j p q =
    let low : j * 2 ^ suc e ≤ i = le_of_mul-le-mul_right (rw (scale j (suc e) l) at p) (pow_pos l) in
    let high : suc i ≤ suc j * 2 ^ suc e = le_of_mul-le-mul_right (rw (scale (suc j) (suc e) l) at q) (pow_pos l) in
    record { low = rw pow-add (omega arith); high = rw pow-add (omega arith) }

module _ (h : ℕ) (a b : Block) (pa : past a ≤ 2 ^ h) (pb : past b ≤ 2 ^ h) where
  -- a's level and depth from b's, where a lies e + 1 levels under b
  levels : (e : ℕ) → h - a.level ≡ h - b.level + suc e → b.level ≡ a.level + suc e
  levels e p = omega (arith, level_le h a pa, level_le h b pb)

  pub under_inside : Under (node h a) (node h b) → Inside a b
  under_inside u = go (under_span u)
    where
      go : (e : ℕ) × Span (node h a) (node h b) e → Inside a b
      go (e, s) =
          let ds : h - a.level ≡ h - b.level + suc e =
          highest_unique (h - a.level) (h - b.level + suc e) (node h a) (node_highest h a pa)
          (span_highest (node h a) (node h b) (h - b.level) e (node_highest h b pb) s) in
          let ls : b.level ≡ a.level + suc e = levels e ds in
          let ps = span_pages a.level e (h - b.level) a.index b.index (rw ds at s) in
          record { lower = omega arith; from = rw ls ps.0; to = rw ls ps.1 }

  pub inside_under : Inside a b → Under (node h a) (node h b)
  inside_under s = go (le_dest s.lower)
    where
      go : (e : ℕ) × (suc a.level + e ≡ b.level) → Under (node h a) (node h b)
      go (e, p) =
          let ls : b.level ≡ a.level + suc e = omega arith in
          let ds : h - a.level ≡ h - b.level + suc e = omega (arith, level_le h a pa, level_le h b pb) in
          span_under e (node h a) (node h b)
          (rw ds (pages_span a.level e (h - b.level) a.index b.index (rw ls at s.from) (rw ls at s.to)))

module _ (h : ℕ) (a b : Block) (pa : past a ≤ 2 ^ h) (pb : past b ≤ 2 ^ h) where
  pub left_of_pages : LeftOf h (node h a) (node h b) → past a ≤ first b
  left_of_pages l = rw (node_past h a pa, node_first h b pb) at l.pages_first

  pub pages_left_of : past a ≤ first b → LeftOf h (node h a) (node h b)
  pages_left_of p =
      record {
        not_under = λ u. omega (arith, first_lt_past a, (under_inside h a b pa pb u).from);
        not_above = λ u. omega (arith, first_lt_past b, (under_inside h b a pb pa u).to);
        pages_first = rw (node_past h a pa, node_first h b pb) p;
      }
