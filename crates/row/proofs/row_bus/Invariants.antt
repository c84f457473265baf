-- The devices so far are in their places.
use Rattle.std.specs.Prelude.{◌≡◌, ◌++◌, take, drop}
use Rattle.bus.specs.Devices.{with_devices}
use Rattle.row.specs.Row.{devices_of}
use Rattle.row.proofs.row_bus.Given as goal

abbrev pub invariant-loop-i : goal.invariant-loop-i
invariant-loop-i l = l.bus ≡ with_devices l.initial.bus (devices_of (take l.i l.row) ++ drop l.i l.initial.bus.devices)
