-- The records so far have the devices that the bus leaves.
use Rattle.std.specs.Prelude.{◌≡◌, ◌++◌, take, drop}
use Rattle.row.specs.Row.{refitted}
use Rattle.row.proofs.event.Given as goal

abbrev pub invariant-loop-i : goal.invariant-loop-i
invariant-loop-i l = l.row ≡ refitted (take l.i l.initial.row) l.devices ++ drop l.i l.initial.row
