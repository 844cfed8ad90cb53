-- Every history keeps its table and its line in order, and its book in agreement with both.
use mathlib.Core.Path.{◌≡◌, refl, sym, ap, subst, ◌∙◌}
use mathlib.Core.Bool.{true, not}
use mathlib.Core.List.{List, [], ◌∷◌, ◌++◌}
use mathlib.Core.Logic.{◌⊎◌, inl, inr}
use mathlib.Core.Option.{none}
use Prim.Native.Nat.{ℕ, zero, suc, ◌≤◌, zero-le}
use native.Mathlib.Omega.{arith}
use lib.Dec.{eqb}
use lib.ListN.{length, replicate, length-append}
use Rattle.line.specs.Line.{Waiting, line_of, waiting_in}
use Rattle.line.specs.Order.{waits, MayWait, Orderly, nobody}
use Rattle.line.specs.Changes.{joined, leave}
use Rattle.line.proofs.Numbers.{read_of_line}
use Rattle.line.proofs.Ordered.{line_of_orderly}
use Rattle.line.proofs.Places.{orderly_joined, orderly_withdrawn}
use Rattle.passes.specs.Events.{Event, joins, withdraws, waiting_after}
use Rattle.passes.proofs.Events.{after_join, after_leaving, by_withdrawal, changing}
use Rattle.rules.specs.Step.{check, first}
use Rattle.rules.proofs.Checks.{height_passed}
use Rattle.rules.proofs.Demand.{kept_at_opening}
use Rattle.admission.specs.Call.{State, Call, direct, join, admit, withdraw}
use Rattle.admission.specs.Step.{Outcome, refused, reserve_checks, line_changed, unless, step, open_reserve}
use Rattle.boxes.specs.History.{History, reply, state_from, replies_from, state_after, Book, enter_event, enter, book_from, book_after}
use Rattle.admission.proofs.Numbers.{MayJoin, join_way, withdraw_way}
use Rattle.boxes.proofs.Leaving.{length_left}
use Rattle.boxes.proofs.Kept.{Kept, sound_state, direct_kept}
use Rattle.boxes.proofs.Admitting.{admit_kept}

module _ (h : ℕ) (S : State) (B : Book) (K : Kept h S B) where
  -- the table stays, and the line W is what the book then says
  line_kept : (e : Event) (W : List Waiting) → length W ≤ 64 → Orderly h S.table W → W ≡ waiting_after (B.events ++ e ∷ [])
      → Kept h (line_changed S W).state (enter_event e B)
  line_kept e W few o says = record { table = K.table; line = line_of_orderly h S.table W few o; says = read_of_line W ∙ says }

  join_kept : (t l : ℕ) → Kept h (step h S (join t l)).state (enter h (join t l) (reply (step h S (join t l))) B)
  join_kept t l = go (join_way h S (sound_state h S B K) t l)
    where
      go : ((n : ℕ) × (step h S (join t l) ≡ refused (suc n) S))
          ⊎ (MayJoin S h t l × (step h S (join t l) ≡ line_changed S (joined t l (waiting_in S.line))))
          → Kept h (step h S (join t l)).state (enter h (join t l) (reply (step h S (join t l))) B)
      go (inl q) = rw q.1 K
      go (inr q) =
          let may = q.0 in
          let W = waiting_in S.line in
          let one : MayWait h S.table (record { tenant = t; level = l; passed = 0 }) =
          record { passed = zero-le; level = may.level; tenant = omega (arith, may.tenant); holds_none = may.holds_none } in
          rw q.1
          (line_kept (joins t l) (joined t l W) (omega (arith, length-append W (record { tenant = t; level = l; passed = 0 } ∷ []), may.room))
          (orderly_joined h S.table t l W one may.not_waiting K.line.orderly)
          (ap (joined t l) K.says ∙ sym (after_join t l B.events)))

  withdraw_kept : (t : ℕ) → Kept h (step h S (withdraw t)).state (enter h (withdraw t) (reply (step h S (withdraw t))) B)
  unfolding changing
  withdraw_kept t = go (withdraw_way h S (sound_state h S B K) t)
    where
      go : ((n : ℕ) × (step h S (withdraw t) ≡ refused (suc n) S))
          ⊎ ((waits t (waiting_in S.line) ≡ true) × (step h S (withdraw t) ≡ line_changed S (leave (λ w. w) t (waiting_in S.line))))
          → Kept h (step h S (withdraw t)).state (enter h (withdraw t) (reply (step h S (withdraw t))) B)
      go (inl q) = rw q.1 K
      go (inr q) =
          let W = waiting_in S.line in
          rw q.1 (line_kept (withdraws t) (leave (λ w. w) t W) (omega (arith, length_left (λ w. w) t W q.0, K.line.few))
          (orderly_withdrawn h S.table t W K.line.orderly)
          (ap (leave (λ w. w) t) K.says
          ∙ sym (after_leaving h S.table t (withdraws t) by_withdrawal B.events (subst (Orderly h S.table) K.says K.line.orderly)
          (ap (waits t) (sym K.says) ∙ q.0))))

  pub call_kept : (c : Call) → Kept h (step h S c).state (enter h c (reply (step h S c)) B)
  call_kept (direct c) = direct_kept h S B K c
  call_kept (join t l) = join_kept t l
  call_kept (admit m) = admit_kept h S B K m
  call_kept (withdraw t) = withdraw_kept t

pub calls_kept : (h : ℕ) (S : State) (B : Book) (cs : List Call) → Kept h S B → Kept h (state_from h S cs) (book_from h B cs (replies_from h S cs))
unfolding state_from replies_from book_from
calls_kept h S B [] K = K
calls_kept h S B (c ∷ cs) K = calls_kept h (step h S c).state (enter h c (reply (step h S c)) B) cs (call_kept h S B K c)

-- an accepted opening leaves an empty table and nobody in line, and the height is at most 12
record Opened (h : ℕ) (S : State) : Type 0 where
  height : h ≤ 12
  state : (open_reserve h S).state ≡ record { table = replicate 4096 0; line = line_of [] }

opened : (h : ℕ) (S : State) → (open_reserve h S).answer ≡ 0 → Opened h S
unfolding open_reserve
opened h S e = go (first (reserve_checks h S)) refl
  where
    done : Outcome
    done = record { answer = 0; node = 0; named = none; moves = []; state = record { table = replicate 4096 0; line = line_of [] } }

    go : (n : ℕ) → first (reserve_checks h S) ≡ n → Opened h S
    go zero p = record {
      height = height_passed h (check 2 (not (eqb (length S.table) 4096)) ∷ check 2 (not (eqb (length S.line) 193)) ∷ []) p;
      state = ap (λ (n : ℕ). (unless n S done).state) p;
    }
    go (suc n) p = absurd (omega (arith, e, ap (λ (m : ℕ). (unless m S done).answer) p))

pub history_kept : (h : ℕ) (H : History h) → Kept h (state_after h H) (book_after h H)
unfolding waiting_after
history_kept h H =
    let o = opened h H.lent H.opened in
    calls_kept h (open_reserve h H.lent).state (record { holdings = λ t. none; events = [] }) H.calls
    (rw o.state (record {
      table = kept_at_opening h 4096 o.height refl;
      line = line_of_orderly h (replicate 4096 0) [] zero-le nobody;
      says = read_of_line [];
    }))
