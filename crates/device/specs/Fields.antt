-- A device record with one field replaced. Every other definition says an update by these, so a new field of `Device` changes this file and `fresh` alone.
use Rattle.std.specs.Prelude.{ℕ, Bool, List}
use Rattle.device.specs.declared.Stage.{Stage}
use Rattle.device.specs.declared.Device.{Device}

abbrev pub with_stage : Device → Stage → Device
with_stage d x = record d { stage = x }

abbrev pub with_control : Device → ℕ → Device
with_control d x = record d { control = x }

abbrev pub with_count : Device → ℕ → Device
with_count d x = record d { count = x }

abbrev pub with_oe : Device → Bool → Device
with_oe d x = record d { oe = x }

abbrev pub with_levels : Device → ℕ → Device
with_levels d x = record d { levels = x }

abbrev pub with_written : Device → List ℕ → Device
with_written d x = record d { written = x }

abbrev pub with_effective : Device → List ℕ → Device
with_effective d x = record d { effective = x }
