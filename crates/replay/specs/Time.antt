-- The time between two entries of a recording, and what it does to a bus (RULES, Replay).
use Rattle.std.specs.Prelude.{Option, Some, None, ℕ, zero, suc, ◌+◌, ◌-◌, ◌%◌, ◌^◌, Bool, cond, not, ◌&&◌}
use Rattle.basics.specs.Below.{all_below}
use Rattle.lamp.specs.declared.DriverTicks.{DriverTicks}
use Rattle.chip.specs.Kinds.{is_driver}
use Rattle.totals.specs.Wait.{exceeds, waited}
use Rattle.totals.specs.declared.Record.{Record}
use Rattle.bus.specs.Devices.{bus_ok, record_at, with_record}
use Rattle.bus.specs.declared.Bus.{Bus}

-- the stamp of the last accepted entry, or none yet
abbrev pub Clock : Type 0
Clock = Option ℕ

-- later minus earlier, around the roll-over of a stamp of 32 bits
unfoldable pub between : ℕ → ℕ → ℕ
between later earlier = (later + (2 ^ 32 - earlier)) % 2 ^ 32

-- the ticks since the last accepted entry; until one is accepted, none
abbrev pub since : Clock → ℕ → DriverTicks
since None at = record { 0 = 0 }
since (Some last) at = record { 0 = between at last }

-- a driver's count and totals have room for the time; a blinker takes none of it
abbrev pub fits : DriverTicks → Record → Bool
fits ticks r = not (is_driver r.device.chip && exceeds r ticks.0)

-- some driver's count, or the totals of one of its outputs, would pass the limit
abbrev pub overruns_any : DriverTicks → Bus → Bool
overruns_any ticks b = bus_ok b && not (all_below b.count (λ i. fits ticks (record_at b i)))

-- a driver waits where it has that room; where not, every entry is refused
abbrev pub takes : DriverTicks → Record → Bool
takes ticks r = is_driver r.device.chip && not (exceeds r ticks.0)

-- the drivers below position n have waited
unfoldable pub time_below : DriverTicks → Bus → ℕ → Bus
time_below ticks b zero = b
time_below ticks b (suc n) =
    cond (takes ticks (record_at b n)) (with_record (time_below ticks b n) n (waited (record_at b n) ticks.0)) (time_below ticks b n)

-- every driver waits; a bus that is not well formed, which every entry refuses, stays
unfoldable pub after_time : DriverTicks → Bus → Bus
after_time ticks b = cond (bus_ok b) (time_below ticks b b.count) b
