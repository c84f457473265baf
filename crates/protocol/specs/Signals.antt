-- What goes over the bus for all devices alike: START, STOP, a byte put and a get. The message's phase follows them alone, never an acknowledgement.
use Rattle.std.specs.Prelude.{ℕ, Bool, true, false}
use Rattle.device.specs.WellFormed.{is_read}
use Rattle.device.specs.declared.Device.{Device}
use Rattle.device.specs.declared.Phase.{Phase}
use Rattle.device.specs.declared.Phase.TheVariants as P
use Rattle.protocol.specs.Selection.{after_start, phase_after_address}
use Rattle.protocol.specs.Put.{after_put}
use Rattle.protocol.specs.Read.{after_get, phase_after_get}
use Rattle.protocol.specs.Stop.{after_stop}
use Rattle.protocol.specs.declared.Signal.{Signal}
use Rattle.protocol.specs.declared.Signal.TheVariants.{Start, Stop, Put, Get}

abbrev pub takes_put : Phase → Bool
takes_put P.Idle = false
takes_put P.Address = true
takes_put P.Write = true
takes_put P.Read = false
takes_put P.Ended = false

abbrev pub is_open : Phase → Bool
is_open P.Idle = false
is_open P.Address = true
is_open P.Write = true
is_open P.Read = true
is_open P.Ended = true

-- not "out of turn" (RULES, Refusals): stop, put or get with no message open; put in a read after its address; get before the address, in a write, or after a get with ack 0
abbrev pub in_turn : Phase → Signal → Bool
in_turn p Start = true
in_turn p Stop = is_open p
in_turn p (Put byte) = takes_put p
in_turn p (Get ack) = is_read p

-- the phase after a put, which its address byte decides
abbrev pub phase_after_put : Phase → ℕ → Phase
phase_after_put P.Address byte = phase_after_address byte
phase_after_put P.Idle byte = P.Idle
phase_after_put P.Write byte = P.Write
phase_after_put P.Read byte = P.Read
phase_after_put P.Ended byte = P.Ended

unfoldable pub phase_after_signal : Phase → Signal → Phase
phase_after_signal p Start = P.Address
phase_after_signal p Stop = P.Idle
phase_after_signal p (Put byte) = phase_after_put p byte
phase_after_signal p (Get ack) = phase_after_get ack

unfoldable pub after_signal : Phase → Signal → Device → Device
after_signal p Start d = after_start d
after_signal p Stop d = after_stop d
after_signal p (Put byte) d = after_put p byte d
after_signal p (Get ack) d = after_get ack d
