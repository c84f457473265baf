-- The totals that a recording leaves, as a row of 256 numbers (RULES, Totals).
use Rattle.std.specs.Prelude.{None, ℕ, ◌/◌, ◌%◌, ◌&&◌, cond, List, ◌++◌, map, ltb, eqb, length, get_or, drop}
use Rattle.basics.specs.Tabulate.{tabulate}
use Rattle.chip.specs.Kinds.{outputs_of}
use Rattle.bus.specs.Devices.{has_device, device_at, record_at, empty_bus}
use Rattle.bus.specs.declared.Bus.{Bus}
use Rattle.replay.specs.Replay.{replay_bus}
use Rattle.text.specs.Lines.{lines_of}
use Rattle.script.specs.Parser.{parsed_entry}

-- the bus that a recording leaves, from an empty one
unfoldable pub recorded_bus : List ℕ → Bus
recorded_bus log = replay_bus empty_bus None (map parsed_entry (lines_of log))

-- number k is of the device at position k / 32 and its output k % 32 / 2: the lit total where k is even, else the unlit one; 0 where there is no such output
unfoldable pub total_at : Bus → ℕ → ℕ
total_at b k =
    cond (has_device b (k / 32) && ltb (k % 32 / 2) (outputs_of (device_at b (k / 32)).chip))
    (get_or (cond (eqb (k % 2) 0) (record_at b (k / 32)).lit (record_at b (k / 32)).unlit) (k % 32 / 2) 0) 0

-- 8 for a row of fewer than 256, which stays; numbers past the 256 stay, too
abbrev pub totals_code : ℕ → ℕ
totals_code n = cond (ltb n 256) 8 0

unfoldable pub totals_after : List ℕ → List ℕ → List ℕ
totals_after log row = cond (ltb (length row) 256) row (tabulate 256 (total_at (recorded_bus log)) ++ drop 256 row)
