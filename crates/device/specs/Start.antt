-- The blink-start question (RULES, Lamps).
use Rattle.std.specs.Prelude.{ℕ, ◌+◌}
use Rattle.blink.specs.Start.{common_start}
use Rattle.chip.specs.Registers.{psc0}
use Rattle.device.specs.Registers.{held}
use Rattle.device.specs.declared.Device.{Device}

-- by the present prescalers, whatever the count
abbrev pub common_start_of : Device → ℕ
common_start_of d = common_start (held d psc0) (held d (psc0 + 2))
