-- A bus: its records, its well-formedness, and the bus with one or all of its devices changed.
use Rattle.std.specs.Prelude.{ℕ, ◌+◌, Bool, ◌&&◌, List, leb, ltb, get_or, set, replicate}
use Rattle.chip.specs.declared.Chip.TheVariants.{Pca9635}
use Rattle.device.specs.Reset.{fresh}
use Rattle.device.specs.WellFormed.{well_formed}
use Rattle.device.specs.declared.Device.{Device}
use Rattle.device.specs.declared.Phase.TheVariants.{Idle}
use Rattle.protocol.specs.Signals.{phase_after_signal, after_signal}
use Rattle.protocol.specs.declared.Signal.{Signal}
use Rattle.basics.specs.Below.{all_below}
use Rattle.basics.specs.First.{map_first, all_first}
use Rattle.basics.specs.Parts.{part, with_part}
use Rattle.totals.specs.Totals.{record_of, zeros, totals_fit}
use Rattle.totals.specs.declared.Record.{Record}
use Rattle.bus.specs.declared.Bus.{Bus}

-- whether a device stands at a position
abbrev pub has_device : Bus → ℕ → Bool
has_device b dev = ltb dev b.count && ltb dev 8

-- the device at a position; a fresh one where there is none, which every call refuses
abbrev pub device_at : Bus → ℕ → Device
device_at b dev = get_or b.devices dev (fresh Pca9635 0)

-- its record: the device, and of all totals the 16 of its outputs, from 16 times the position on
abbrev pub record_at : Bus → ℕ → Record
record_at b dev = record_of (device_at b dev) (part 16 dev b.lit) (part 16 dev b.unlit)

-- at most 8 devices, each well formed in the message's phase, and with totals that can be handed in; places past the count hold no device
unfoldable pub bus_ok : Bus → Bool
bus_ok b =
    leb b.count 8
    && (all_first b.count (well_formed b.phase) b.devices && all_below b.count (λ i. totals_fit (record_at b i) 0))

-- the bus with other devices, and with other totals beside them
abbrev pub with_devices : Bus → List Device → Bus
with_devices b ds = record { phase = b.phase; count = b.count; devices = ds; lit = b.lit; unlit = b.unlit }

abbrev pub with_device : Bus → ℕ → Device → Bus
with_device b dev d = with_devices b (set b.devices dev d)

abbrev pub with_record : Bus → ℕ → Record → Bus
with_record b dev r =
    record { phase = b.phase; count = b.count; devices = set b.devices dev r.device; lit = with_part 8 16 dev r.lit b.lit; unlit = with_part 8 16 dev r.unlit b.unlit }

-- a further device at the next free position, its totals 0
abbrev pub with_added : Bus → Device → Bus
with_added b d =
    record { phase = b.phase; count = b.count + 1; devices = set b.devices b.count d; lit = with_part 8 16 b.count zeros b.lit; unlit = with_part 8 16 b.count zeros b.unlit }

-- what a signal does: one function at every device; no total changes
abbrev pub bus_after : Signal → Bus → Bus
bus_after s b =
    record { phase = phase_after_signal b.phase s; count = b.count; devices = map_first b.count (after_signal b.phase s) b.devices; lit = b.lit; unlit = b.unlit }

-- no device, no message; the places hold a record that no call looks at
abbrev pub empty_bus : Bus
empty_bus = record { phase = Idle; count = 0; devices = replicate 8 (fresh Pca9635 0); lit = replicate 128 0; unlit = replicate 128 0 }
