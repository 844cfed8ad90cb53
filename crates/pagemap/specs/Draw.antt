-- What drawing the map answers, and the lent map afterwards, for every height, table and map. Document 01, "Calls" and "Refusals by place".
use Rattle.std.specs.Prelude.{not, List, [], ◌∷◌, ◌++◌, ℕ, zero, suc, ltb, length, drop}
use Rattle.table.specs.Table.{in_order?}
use Rattle.rules.specs.Step.{Check, check, first, reserve_checks}
use Rattle.pagemap.specs.Map.{page_map}

-- the answer's number, and the map afterwards
pub record Drawing : Type 0 where
  pub answer : ℕ
  pub map : List ℕ

-- an answer, and the map afterwards
abbrev pub drawing : ℕ → List ℕ → Drawing
drawing number m = record { answer = number; map = m }

-- 7 and 15, after 1 and 2
abbrev pub map_checks : ℕ → List ℕ → List ℕ → List Check
map_checks h T m = check 7 (not (in_order? h T)) ∷ check 15 (ltb (length m) 512) ∷ []

-- a refusal leaves the map m as it was
abbrev pub unless_refused : ℕ → List ℕ → List ℕ → Drawing
unless_refused zero m done = drawing 0 done
unless_refused (suc n) m done = drawing (suc n) m

-- the page map in the first 512 bytes of m, and its later bytes untouched
unfoldable pub drawn : ℕ → List ℕ → List ℕ → Drawing
drawn h T m = unless_refused (first (reserve_checks h T ++ map_checks h T m)) m (page_map h T ++ drop 512 m)
