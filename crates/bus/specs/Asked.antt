-- Who is asked: the device at a position, where one stands on a well-formed bus of so many devices.
use Rattle.std.specs.Prelude.{Option, Some, None, ℕ, Bool, ◌&&◌, cond, ltb}
use Rattle.bus.specs.declared.Asked.{Asked}
use Rattle.bus.specs.declared.Event.{Event}
use Rattle.bus.specs.declared.Event.TheVariants.{Add, Signal, Change, Ask}

unfoldable pub asked_by : Bool → ℕ → Event → Option Asked
asked_by ok count (Add chip addr) = None
asked_by ok count (Signal s) = None
asked_by ok count (Change dev c) = None
asked_by ok count (Ask dev q) = cond (ok && (ltb dev count && ltb dev 8)) (Some (record { dev = dev; question = q })) None

unfoldable pub asked_of : Bool → ℕ → Option Event → Option Asked
asked_of ok count (Some e) = asked_by ok count e
asked_of ok count None = None
