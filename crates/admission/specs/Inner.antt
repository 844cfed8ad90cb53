-- What the inner functions of a call ask and give.
use Rattle.std.specs.Prelude.{List, [], ◌∷◌, ◌++◌, ℕ, ltb}
use Rattle.rules.specs.Step.{Check, check, length_checks, validity}
use Rattle.rules.specs.Value.{call_of}
use Rattle.rules.specs.declared.Call.TheVariants.{GrantLevel, GrantPages, Release, Grow}
use Rattle.admission.specs.Step.{lent_checks}
use Rattle.admission.specs.declared.Request.{Request}
use Rattle.admission.specs.declared.Request.TheVariants.{Direct, Admit}

-- those that the arguments of a request on m entries decide, the lengths of table and line among them; a release and a growth take no line
abbrev pub argument_checks : ℕ → ℕ → ℕ → Request → ℕ → List Check
argument_checks h n k (Direct (GrantLevel t l)) m = lent_checks h n k ++ validity h (call_of (GrantLevel t l) m)
argument_checks h n k (Direct (GrantPages t p)) m = lent_checks h n k ++ validity h (call_of (GrantPages t p) m)
argument_checks h n k (Direct (Release t)) m = length_checks h n ++ validity h (call_of (Release t) m)
argument_checks h n k (Direct (Grow t l)) m = length_checks h n ++ validity h (call_of (Grow t l) m)
argument_checks h n k Admit m = lent_checks h n k ++ check 3 (ltb m 4) ∷ []
