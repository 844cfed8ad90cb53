-- What a valid call answers after a history: 8, 9, 10 and 0 exactly when documents 01 and 02 say.
use mathlib.Core.Path.{◌≡◌, refl, sym, ap, ◌∙◌}
use mathlib.Core.Bool.{Bool, true, false, cond}
use mathlib.Core.List.{List}
use mathlib.Core.Logic.{◌⊎◌, inl, inr, ◌↔◌}
use mathlib.Core.Option.{some, none}
use Prim.Native.Nat.{ℕ, suc, ◌+◌, ◌^◌, ◌≤◌, ◌<◌}
use native.Mathlib.Omega.{arith}
use native.Mathlib.Decide.{ℕ_discrete}
use borrow.Author.Tests.{ltb-true, ltb-false, lt-ltb, ne_eqb, eq-eqb}
use lib.Dec.{eqb, ltb}
use lib.ListN.{length, get_or, length-set}
use Rattle.tree.specs.Node.{level}
use Rattle.tree.specs.Held.{one_if}
use Rattle.layout.specs.Layout.{pages}
use Rattle.layout.specs.Change.{one_block_more}
use Rattle.table.specs.Table.{node_at, counts_of}
use Rattle.table.proofs.Order.{in_order_fits}
use Rattle.rules.specs.Call.{Call, tenant_of}
use Rattle.rules.specs.Step.{Outcome, refused, first, counts_but, repeats, grant_holdings, holdings, step}
use Rattle.rules.specs.History.{Book, write, enter, at_level, held}
use Rattle.rules.specs.Demand.{Valid, Asks, by_level, by_pages, Releases, releases, Grows, grows, Unchanged}
use Rattle.rules.specs.Demand.{with_one, NoLegalSet, NoPlacement, NoExchange}
use Rattle.std.proofs.Math.Nat.{ne_of_gt}
use Rattle.rules.proofs.Checks.{answer_valid, valid_tenant, valid_size, asked_in_height, grown_in_height}
use Rattle.rules.proofs.Room.{pages_one_more, count_one_more}
use Rattle.rules.proofs.Kept.{Kept, sound, held_is_count, level_in_counts, no_room_no_set, room_some_set}
use Rattle.rules.proofs.Exchanged.{held_exchanged}
use Rattle.rules.proofs.Releasing.{counts_before, level_in_fewer, growth_coming}
use Rattle.rules.proofs.Cases.{Case, by_grant, by_repetition, by_release, by_growth, by_refusal, case, repeated_unchanged}
use Rattle.rules.proofs.OneKind.{entered_grant, grants_do_not_release, grants_do_not_grow, releases_do_not_grow, one_level_grown}
use Rattle.rules.proofs.Same.{same_level_unchanged}
use Rattle.rules.proofs.Repeats.{repeats_if_holder, never_repeats}

pub asked_holdings : (h : ℕ) (T : List ℕ) (c : Call) (l : ℕ) → Asks h c l → holdings h T c ≡ grant_holdings h T (tenant_of c) l
asked_holdings h T c l by_level = refl
asked_holdings h T c l by_pages = refl

eqb_turned : (n m : ℕ) → eqb n m ≡ eqb m n
eqb_turned n m = go (ℕ_discrete n m)
  where
    go : Dec (n ≡ m) → eqb n m ≡ eqb m n
    go (yes e) = rw (eq-eqb n m e, eq-eqb m n (sym e))
    go (no ne) = rw (ne_eqb n m ne, ne_eqb m n (λ e. ne (sym e)))

module _ (h : ℕ) (T : List ℕ) (B : Book) (K : Kept h T B) where
  pub has_node : (t k : ℕ) → B t ≡ some k → 0 < node_at T t
  has_node t k e = (rw e at (K.agrees t)).0.above_zero

  pub has_nothing : (t : ℕ) → B t ≡ none → node_at T t ≡ 0
  has_nothing t e = rw e at (K.agrees t)

  -- the level that the book has is that of the tenant's node
  level_in_book : (t k : ℕ) → B t ≡ some k → level h (node_at T t) ≡ k
  level_in_book t k e = (rw e at (K.agrees t)).1

  -- so a grant is a repeated one exactly if it asks for that level
  pub repeats_by_book : (t l k : ℕ) → B t ≡ some k → repeats h T t l ≡ eqb k l
  repeats_by_book t l k e = repeats_if_holder h T t l (has_node t k e) ∙ ap (λ (x : ℕ). eqb x l) (level_in_book t k e)

  pub holder_asks : (c : Call) (l k : ℕ) → Asks h c l → Valid h c → B (tenant_of c) ≡ some k → ¬ (k ≡ l) → (step h T c).answer ≡ 8
  holder_asks c l k a v e other =
      let t = tenant_of c in
      answer_valid h T (sound h T B K) c v
      ∙ ap first (asked_holdings h T c l a)
      ∙ rw (repeats_by_book t l k e, ne_eqb k l other, lt-ltb 0 (node_at T t) (has_node t k e))

  pub holder_repeats : (c : Call) (l : ℕ) → Asks h c l → Valid h c → B (tenant_of c) ≡ some l → Unchanged (tenant_of c) T (step h T c)
  holder_repeats c l a v e = go (case h T (sound h T B K) c)
    where
      t : ℕ
      t = tenant_of c

      done : (step h T c).answer ≡ 0
      done =
          answer_valid h T (sound h T B K) c v
          ∙ ap first (asked_holdings h T c l a)
          ∙ rw (repeats_by_book t l l e, eq-eqb l l refl)

      go : Case h T c → Unchanged t T (step h T c)
      go (by_grant k g) = absurd (ne_of_gt (has_node t l e) g.nothing)
      go (by_repetition k r) = repeated_unchanged r
      go (by_release r) = absurd (grants_do_not_release h c l a r.asks)
      go (by_growth k g) = absurd (grants_do_not_grow h c l k a g.asks)
      go (by_refusal n o) = absurd (omega (arith, done, ap (λ (x : Outcome). x.answer) o))

  -- a holder's level is written down again, or nothing is
  pub book_stays : (c : Call) (l k : ℕ) → Asks h c l → Valid h c → B (tenant_of c) ≡ some k → (u : ℕ) → enter h c (step h T c).answer B u ≡ B u
  book_stays c l k a v e u = go (ℕ_discrete k l)
    where
      t : ℕ
      t = tenant_of c

      written : B t ≡ some l → Dec (u ≡ t) → write t (some l) B u ≡ B u
      written same (yes is) = rw (is, eq-eqb t t refl) (sym same)
      written same (no is_not) = rw (ne_eqb u t is_not)

      go : Dec (k ≡ l) → enter h c (step h T c).answer B u ≡ B u
      go (yes is) =
          let same : B t ≡ some l = e ∙ ap some is in
          ap (λ (n : ℕ). enter h c n B u) (holder_repeats c l a v same).answer
          ∙ ap (λ (b : Book). b u) (entered_grant h c l a B)
          ∙ written same (ℕ_discrete u t)
      go (no is_not) = ap (λ (n : ℕ). enter h c n B u) (holder_asks c l k a v e is_not)

  -- 10 if the pages after the call are too many, and 0 otherwise: so 10 exactly when no legal set has their sizes
  by_pages_after : (n : ℕ) (cs : List ℕ) (sized : ℕ → ℕ) → ((m : ℕ) → sized m ≡ get_or cs m 0) → n ≡ cond (ltb (2 ^ h) (pages cs)) 10 0
      → ((n ≡ 10) ↔ NoLegalSet h sized) × ((n ≡ 10) ⊎ (n ≡ 0))
  by_pages_after n cs sized same e = go (ltb (2 ^ h) (pages cs)) refl
    where
      go : (b : Bool) → ltb (2 ^ h) (pages cs) ≡ b → ((n ≡ 10) ↔ NoLegalSet h sized) × ((n ≡ 10) ⊎ (n ≡ 0))
      go true p =
          let ten : n ≡ 10 = e ∙ rw p in
          ((λ _. no_room_no_set h cs sized same (ltb-true (2 ^ h) (pages cs) p), λ _. ten), inl ten)
      go false p =
          let done : n ≡ 0 = e ∙ rw p in
          ((λ ten. absurd (omega arith), λ none_legal. absurd (room_some_set h cs sized same (ltb-false (2 ^ h) (pages cs) p) none_legal)), inr done)

  pub other_asks : (c : Call) (l : ℕ) → Asks h c l → Valid h c → B (tenant_of c) ≡ none
      → (((step h T c).answer ≡ 10) ↔ NoPlacement h B l) × (((step h T c).answer ≡ 10) ⊎ ((step h T c).answer ≡ 0))
  other_asks c l a v e =
      by_pages_after (step h T c).answer (one_block_more (counts_of h T) l) (with_one B l) sized
      (answer_valid h T (sound h T B K) c v
      ∙ ap first (asked_holdings h T c l a)
      ∙ rw (never_repeats h T (tenant_of c) l (has_nothing (tenant_of c) e), has_nothing (tenant_of c) e, pages_one_more (counts_of h T) l in_counts))
    where
      in_counts : l < length (counts_of h T)
      in_counts = level_in_counts h T B K l (asked_in_height h c l a (valid_size h c v))

      sized : (m : ℕ) → with_one B l m ≡ get_or (one_block_more (counts_of h T) l) m 0
      sized m = ap (λ (n : ℕ). n + one_if (eqb m l)) (held_is_count h T B K m) ∙ sym (count_one_more (counts_of h T) l in_counts m)

  pub holder_releases : (c : Call) (k : ℕ) → Releases c → Valid h c → B (tenant_of c) ≡ some k → (step h T c).answer ≡ 0
  holder_releases c k (releases {t = t} {m = m}) v e =
      answer_valid h T (sound h T B K) c v ∙ rw (ne_eqb (node_at T t) 0 (ne_of_gt (has_node t k e)))

  pub other_releases : (c : Call) → Releases c → Valid h c → B (tenant_of c) ≡ none → (step h T c).answer ≡ 9
  other_releases c (releases {t = t} {m = m}) v e = answer_valid h T (sound h T B K) c v ∙ rw (has_nothing t e)

  pub other_grows : (c : Call) (l : ℕ) → Grows c l → Valid h c → B (tenant_of c) ≡ none → (step h T c).answer ≡ 9
  other_grows c l (grows {t = t} {l = k} {m = m}) v e = answer_valid h T (sound h T B K) c v ∙ rw (has_nothing t e)

  -- the sizes with the tenant's level exchanged are the counts with one fewer and one more
  exchanged_sizes : (t l k : ℕ) → t < 4096 → l ≤ h → B t ≡ some k → (m : ℕ)
      → held (write t (some l) B) m ≡ get_or (one_block_more (counts_but h T t) l) m 0
  exchanged_sizes t l k q l≤h e m =
      let x = level h (node_at T t) in
      let holds = has_node t k e in
      let fewer = level_in_fewer h T B K t q holds in
      let in_fewer : l < length (counts_but h T t) = rw (length-set (counts_of h T) x _) (level_in_counts h T B K l l≤h) in
      let before : get_or (counts_of h T) m 0 ≡ get_or (counts_but h T t) m 0 + one_if (eqb m x) =
      ap (λ (cs : List ℕ). get_or cs m 0) (sym (counts_before h T B K t q holds)) ∙ count_one_more (counts_but h T t) x fewer m in
      let stood : at_level (B t) m ≡ eqb m x = rw (e, level_in_book t k e) (eqb_turned k m) in
      omega (
        arith,
        held_exchanged B t (some l) m q,
        ap one_if stood,
        ap one_if (eqb_turned l m),
        held_is_count h T B K m,
        before,
        count_one_more (counts_but h T t) l in_fewer m,
      )

  pub holder_grows : (c : Call) (l k : ℕ) → Grows c l → Valid h c → B (tenant_of c) ≡ some k
      → (((step h T c).answer ≡ 10) ↔ NoExchange h B (tenant_of c) l) × (((step h T c).answer ≡ 10) ⊎ ((step h T c).answer ≡ 0))
  holder_grows c l k (grows {t = t} {l = j} {m = m}) v e =
      by_pages_after (step h T c).answer (one_block_more (counts_but h T t) j) (held (write t (some j) B))
      (exchanged_sizes t j k (valid_tenant h c v) low e)
      (answer_valid h T (sound h T B K) c v ∙ rw (ne_eqb (node_at T t) 0 (ne_of_gt (has_node t k e)), pages_one_more (counts_but h T t) j in_fewer))
    where
      low : j ≤ h
      low = grown_in_height h c j grows (valid_size h c v)

      in_fewer : j < length (counts_but h T t)
      in_fewer = rw (length-set (counts_of h T) (level h (node_at T t)) _) (level_in_counts h T B K j low)

  -- at its own level a growth is accepted, and changes nothing
  pub same_level : (c : Call) (l : ℕ) → Grows c l → Valid h c → B (tenant_of c) ≡ some l → Unchanged (tenant_of c) T (step h T c)
  same_level c l g v e = go (case h T (sound h T B K) c)
    where
      t : ℕ
      t = tenant_of c

      -- the pages after it are those before it
      fits : pages (one_block_more (counts_but h T t) l) ≤ 2 ^ h
      fits =
          rw (← level_in_book t l e, counts_before h T B K t (valid_tenant h c v) (has_node t l e))
          (in_order_fits h T K.height K.in_order)

      some_legal : ¬ ((step h T c).answer ≡ 10)
      some_legal ten =
          room_some_set h (one_block_more (counts_but h T t) l) (held (write t (some l) B))
          (exchanged_sizes t l l (valid_tenant h c v) (grown_in_height h c l g (valid_size h c v)) e) fits
          ((holder_grows c l l g v e).0.0 ten)

      not_refused : (n : ℕ) → step h T c ≡ refused (suc n) T → ((step h T c).answer ≡ 10) ⊎ ((step h T c).answer ≡ 0) → ⊥
      not_refused n o (inl ten) = some_legal ten
      not_refused n o (inr done) = omega (arith, done, ap (λ (x : Outcome). x.answer) o)

      go : Case h T c → Unchanged (tenant_of c) T (step h T c)
      go (by_grant k d) = absurd (grants_do_not_grow h c k l d.asks g)
      go (by_repetition k d) = absurd (grants_do_not_grow h c k l d.asks g)
      go (by_release d) = absurd (releases_do_not_grow h c l d.asks g)
      go (by_growth k d) =
          let same = one_level_grown h c k l d.asks g in
          rw d.outcome
          (same_level_unchanged h T B K t d.tenant d.holds k (level_in_book t l e ∙ sym same)
          (growth_coming h T B K t d.tenant d.holds k d.in_height d.fits))
      go (by_refusal n o) = absurd (not_refused n o (holder_grows c l l g v e).1)
