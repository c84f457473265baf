-- START, STOP, a put and a get, as events: the numbers that they come with may be too large.
use Rattle.std.specs.Prelude.{ℕ, Bool, false, not, List, [], ◌∷◌, ltb, eqb}
use Rattle.basics.specs.Bits.{mask_first}
use Rattle.protocol.specs.Put.{acks_to}
use Rattle.protocol.specs.Read.{talk_of}
use Rattle.protocol.specs.Signals.{in_turn}
use Rattle.protocol.specs.declared.Signal.{Signal}
use Rattle.protocol.specs.declared.Signal.TheVariants as P
use Rattle.refusals.specs.Refusals.{Refusal, refuse}
use Rattle.basics.specs.First.{and_first}
use Rattle.bus.specs.Devices.{bus_ok}
use Rattle.bus.specs.declared.Bus.{Bus}
use Rattle.bus.specs.declared.SignalEvent.{SignalEvent}
use Rattle.bus.specs.declared.SignalEvent.TheVariants.{Start, Stop, Put, Get}

-- what goes over the bus
abbrev pub signal_of : SignalEvent → Signal
signal_of Start = P.Start
signal_of Stop = P.Stop
signal_of (Put byte) = P.Put byte
signal_of (Get ack) = P.Get (eqb ack 1)

-- a byte above 255, an ack above 1
abbrev pub is_too_large : SignalEvent → Bool
is_too_large Start = false
is_too_large Stop = false
is_too_large (Put byte) = ltb 255 byte
is_too_large (Get ack) = ltb 1 ack

-- 4 a bus that is not well formed; 5 out of turn; 7 a number that is too large
abbrev pub signal_refusals : Bus → SignalEvent → List Refusal
signal_refusals b s =
    refuse 4 (not (bus_ok b)) ∷ refuse 5 (not (in_turn b.phase (signal_of s))) ∷ refuse 7 (is_too_large s) ∷ []

-- the positions of the devices that acknowledge, as a set: bit i for the device at position i
abbrev pub ack_set : Bus → ℕ → ℕ
ack_set b byte = mask_first b.count (acks_to b.phase byte) b.devices

-- a put's value: the set of those that acknowledge; a get's: the bitwise AND of all devices talking
abbrev pub signal_value : Bus → SignalEvent → ℕ
signal_value b Start = 0
signal_value b Stop = 0
signal_value b (Put byte) = ack_set b byte
signal_value b (Get ack) = and_first b.count talk_of b.devices
