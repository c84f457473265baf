-- The reasons of a refusal by name, and the code of a verdict: 0, or the number of its reason.
use Rattle.std.specs.Prelude.{ℕ, Bool, List, map, Result, Ok, Err}
use Rattle.refusals.specs.Refusals.{Refusal, refuse}
use Rattle.refusals.specs.declared.Reason.{Reason}
use Rattle.refusals.specs.declared.Reason.TheVariants.{UnknownKind, WrongAddress, NoPosition, Malformed, OutOfTurn, PastLimit, TooLarge, NoRoom, NoOutput, WrongDevice, NoVersion, StoreFull}

abbrev pub number : Reason → ℕ
number UnknownKind = 1
number WrongAddress = 2
number NoPosition = 3
number Malformed = 4
number OutOfTurn = 5
number PastLimit = 6
number TooLarge = 7
number NoRoom = 8
number NoOutput = 9
number WrongDevice = 10
number NoVersion = 11
number StoreFull = 12

abbrev pub code_in : {A : Type 0} → Result A Reason → ℕ
code_in (Ok v) = 0
code_in (Err reason) = number reason

-- and its value, which is 0 where there is a reason
abbrev pub value_in : Result ℕ Reason → ℕ
value_in (Ok v) = v
value_in (Err reason) = 0

-- reasons, each with whether it holds
abbrev pub refusals_of : List (Reason × Bool) → List Refusal
refusals_of checks = map (λ c. refuse (number c.0) c.1) checks
