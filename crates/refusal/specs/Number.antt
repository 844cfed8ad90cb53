-- The numbers of the refusals. Document 01, "Refusals by place"; 17 and 18 as document 02, L7, has them.
use Rattle.std.specs.Prelude.{ℕ, Result, Ok, Err}
use Rattle.refusal.specs.declared.Refusal.{Refusal}
use Rattle.refusal.specs.declared.Refusal.TheVariants.{Height, TableLength, Moves, Tenant, Level, Pages, NotInOrder, Holds, HoldsNone}
use Rattle.refusal.specs.declared.Refusal.TheVariants.{NoRoom, NoOpen, UnknownKind, CutOff, OpenAgain, TooShort, TooLong, LineFull, Waits}

abbrev pub number_of : Refusal → ℕ
number_of Height = 1
number_of TableLength = 2
number_of Moves = 3
number_of Tenant = 4
number_of Level = 5
number_of Pages = 6
number_of NotInOrder = 7
number_of Holds = 8
number_of HoldsNone = 9
number_of NoRoom = 10
number_of NoOpen = 11
number_of UnknownKind = 12
number_of CutOff = 13
number_of OpenAgain = 14
number_of TooShort = 15
number_of TooLong = 16
number_of LineFull = 17
number_of Waits = 18

-- 0 for what was done, else the refusal's number
abbrev pub number_in : {A : Type 0} → Result A Refusal → ℕ
number_in (Ok a) = 0
number_in (Err r) = number_of r
