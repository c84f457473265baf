-- Time (RULES, Events, and Refusals, 6). The count is in the device's own unit: ticks of a driver, steps of a blinker.
use Rattle.std.specs.Prelude.{ℕ, ◌+◌, Bool, not, ◌&&◌, ◌||◌, cond, leb, ltb}
use Rattle.lamp.specs.Window.{count_limit}
use Rattle.lamp.specs.Duration.{amount}
use Rattle.lamp.specs.declared.Duration.{Duration}
use Rattle.lamp.specs.declared.Duration.TheVariants.{Ticks, Steps}
use Rattle.chip.specs.Kinds.{is_driver}
use Rattle.chip.specs.declared.Chip.{Chip}
use Rattle.device.specs.Fields.{with_count}
use Rattle.device.specs.Registers.{is_awake}
use Rattle.device.specs.declared.Device.{Device}

-- ---- a number of the device's own unit

-- an awake device's count would pass the limit
unfoldable pub overruns : Device → ℕ → Bool
overruns d w = is_awake d && not (leb (d.count + w) count_limit)

-- as well, or a wait that is longer than 2^48 by itself: a lit question for it is refused
abbrev pub is_too_long : Device → ℕ → Bool
is_too_long d w = ltb count_limit w || overruns d w

-- the count after a wait; one that would pass the limit, which every call refuses, leaves it
unfoldable pub advanced : ℕ → ℕ → ℕ
advanced t w = cond (leb (t + w) count_limit) (t + w) t

-- asleep the count stands still
unfoldable pub after_wait : Device → ℕ → Device
after_wait d w = cond (is_awake d) (with_count d (advanced d.count w)) d

-- ---- a duration, which says its unit

-- whether it is in the unit of a kind of chip
abbrev pub is_own : Chip → Duration → Bool
is_own chip (Ticks ticks) = is_driver chip
is_own chip (Steps steps) = not (is_driver chip)

-- so many of the unit of a kind of chip
abbrev pub own_duration : Chip → ℕ → Duration
own_duration chip n = cond (is_driver chip) (Ticks (record { 0 = n })) (Steps (record { 0 = n }))

-- ticks are never added to a blinker's count, nor steps to a driver's
abbrev pub overruns_for : Device → Duration → Bool
overruns_for d w = is_own d.chip w && overruns d (amount w)

abbrev pub is_too_long_for : Device → Duration → Bool
is_too_long_for d w = ltb count_limit (amount w) || overruns_for d w

abbrev pub after_wait_for : Device → Duration → Device
after_wait_for d w = cond (is_own d.chip w) (after_wait d (amount w)) d
