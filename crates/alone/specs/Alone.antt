-- One device of a bus with every other removed, and what is left of a sequence of events: the words of the theorems.
use Rattle.std.specs.Prelude.{◌≡◌, ℕ, Bool, true, false, cond, List, [], ◌∷◌, ◌++◌, eqb, length}
use Rattle.device.specs.declared.Phase.{Phase}
use Rattle.totals.specs.declared.Record.{Record}
use Rattle.bus.specs.Devices.{bus_ok, has_device, record_at, with_record, empty_bus}
use Rattle.bus.specs.Events.{step_reply}
use Rattle.bus.specs.declared.Bus.{Bus}
use Rattle.bus.specs.declared.Event.{Event}
use Rattle.bus.specs.declared.Event.TheVariants.{Add, Signal, Change, Ask}
use Rattle.bus.specs.declared.Reply.{Reply}
use Rattle.bus.specs.declared.SignalEvent.{SignalEvent}
use Rattle.bus.specs.declared.SignalEvent.TheVariants.{Start, Stop, Put, Get}

-- a bus with one device, at position 0; the other places are as on an empty bus
unfoldable pub only : Phase → Record → Bus
only p r =
    with_record (record { phase = p; count = 1; devices = empty_bus.devices; lit = empty_bus.lit; unlit = empty_bus.unlit }) 0 r

-- the device at a position alone, in the same phase of a message
abbrev pub alone : ℕ → Bus → Bus
alone i b = only b.phase (record_at b i)

-- a well-formed bus with a device at a position; that it has eight places holds of every bus
abbrev pub Present : ℕ → Bus → Type 0
Present i b = (bus_ok b ≡ true) × ((has_device b i ≡ true) × (length b.devices ≡ 8))

-- ---- events

-- START, STOP, a put and a get are for all; an add is for the device that comes, and the rest for the position that they name
abbrev pub concerns : ℕ → Event → Bool
concerns i (Add chip addr) = false
concerns i (Signal s) = true
concerns i (Change dev c) = eqb dev i
concerns i (Ask dev q) = eqb dev i

-- the device alone is at position 0
abbrev pub renamed : Event → Event
renamed (Add chip addr) = Add chip addr
renamed (Signal s) = Signal s
renamed (Change dev c) = Change 0 c
renamed (Ask dev q) = Ask 0 q

-- those that concern the device at a position, for the device alone
unfoldable pub shortened : ℕ → List Event → List Event
shortened i [] = []
shortened i (e ∷ l) = cond (concerns i e) (renamed e ∷ []) [] ++ shortened i l

-- nothing goes over the bus: no START, STOP, put or get
abbrev pub is_silent : Event → Bool
is_silent (Add chip addr) = true
is_silent (Signal s) = false
is_silent (Change dev c) = true
is_silent (Ask dev q) = true

abbrev pub is_add : Event → Bool
is_add (Add chip addr) = true
is_add (Signal s) = false
is_add (Change dev c) = false
is_add (Ask dev q) = false

-- ---- replies

-- to the device alone as to all: the same code, and the device alone of the bus that all leave
abbrev pub AsAlone : ℕ → Reply → Reply → Type 0
AsAlone i own common = (own.code ≡ common.code) × (own.bus ≡ alone i common.bus)

-- a byte goes over the bus, so that the value comes from all devices
abbrev pub has_byte : SignalEvent → Bool
has_byte Start = false
has_byte Stop = false
has_byte (Put byte) = true
has_byte (Get ack) = true

abbrev pub is_transfer : Event → Bool
is_transfer (Add chip addr) = false
is_transfer (Signal s) = has_byte s
is_transfer (Change dev c) = false
is_transfer (Ask dev q) = false

abbrev pub get_reply : Bus → ℕ → Reply
get_reply b ack = step_reply b (Signal (Get ack))
