-- The answer to a question, by what it is; an output that is not refused is a byte.
use Rattle.std.proofs.Common.{arith}
use Rattle.bus.proofs.laws.Place.{lit_byte, pin_byte}
use Rattle.bus.proofs.place.value_of.Goals as goal

pub overflow_cast-out : goal.overflow_cast-out
overflow_cast-out c =
    omega (arith, lit_byte _ _ _ _ c.in-Lit.is c.requires)

pub overflow_cast-out-in-Pin : goal.overflow_cast-out-in-Pin
overflow_cast-out-in-Pin c =
    omega (arith, pin_byte _ _ _ c.in-Pin.is c.requires)
