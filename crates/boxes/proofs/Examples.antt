-- After each row of the worked examples those wait by the book whom the row names.
use mathlib.Core.Path.{◌≡◌, refl}
use mathlib.Core.List.{List, [], ◌∷◌}
use native.Mathlib.Omega.{arith}
use Rattle.tree.specs.Node.{depth}
use Rattle.sizes.specs.Level.{least_level, level_for}
use Rattle.admission.specs.Examples.{examples}
use Rattle.passes.specs.Events.{left, among, passes, waiting_after}
use Rattle.boxes.specs.Examples.{WaitAsWritten, AllWaitAsWritten}

-- somebody waits
not_empty : {A : Type 0} {x : A} {xs : List A} → x ∷ xs ≡ [] → ⊥
not_empty e = grind arith

pub waiting_as_written : AllWaitAsWritten examples
unfolding AllWaitAsWritten WaitAsWritten left among passes waiting_after depth least_level level_for
waiting_as_written = (
  λ e. (refl, (refl, (refl, (refl, (refl, (refl, (refl, (refl, tt)))))))),
  (
    λ e. (refl, (refl, tt)),
    (
      λ e. (refl, tt),
      (
        λ e. (refl, (refl, (refl, (refl, (refl, (refl, (refl, (refl, (refl, (refl, (refl, (refl, (refl, (refl, (refl, (refl, tt)))))))))))))))),
        (
          λ e. absurd (not_empty e),
          (
            λ e. (refl, (refl, (refl, (refl, (refl, (refl, (refl, (refl, (refl, (refl, tt)))))))))),
            (
              λ e. (refl, (refl, (refl, (refl, (refl, (refl, (refl, (refl, (refl, (refl, (refl, (refl, (refl, tt))))))))))))),
              (
                λ e. absurd (not_empty e),
                (
                  λ e. (refl, (refl, tt)),
                  (
                    λ e. (refl, (refl, (refl, tt))),
                    (
                      λ e. absurd (not_empty e),
                      tt,
                    ),
                  ),
                ),
              ),
            ),
          ),
        ),
      ),
    ),
  ),
)
