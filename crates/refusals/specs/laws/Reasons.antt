-- A reason's number is above 0.
use Rattle.std.specs.Prelude.{◌<◌}
use Rattle.std.proofs.Common.{arith}
use Rattle.refusals.specs.Reasons.{number}
use Rattle.refusals.specs.declared.Reason.{Reason}
use Rattle.refusals.specs.declared.Reason.TheVariants.{UnknownKind, WrongAddress, NoPosition, Malformed, OutOfTurn, PastLimit, TooLarge, NoRoom, NoOutput, WrongDevice, NoVersion, StoreFull}

pub number_positive : (reason : Reason) → 0 < number reason
number_positive UnknownKind = omega arith
number_positive WrongAddress = omega arith
number_positive NoPosition = omega arith
number_positive Malformed = omega arith
number_positive OutOfTurn = omega arith
number_positive PastLimit = omega arith
number_positive TooLarge = omega arith
number_positive NoRoom = omega arith
number_positive NoOutput = omega arith
number_positive WrongDevice = omega arith
number_positive NoVersion = omega arith
number_positive StoreFull = omega arith
