-- The loop: the lines from here on lead to what all lines lead to.
use Rattle.std.specs.Prelude.{◌-◌, ◌≡◌, length}
use Rattle.bus.specs.Devices.{bus_ok}
use Rattle.script.specs.Totals.{recorded_bus}
use Rattle.script.specs.laws.Totals.{ahead}
use Rattle.script.proofs.recording.recorded.Given as goal

abbrev pub invariant-loop-from : goal.invariant-loop-from
invariant-loop-from l = (l.judged.0 ≡ bus_ok l.judged.1.0) × (ahead l.log l.from l.judged.1.0 l.clock ≡ recorded_bus l.log)

abbrev pub decreases-loop-from : goal.decreases-loop-from
decreases-loop-from l = length l.log - l.from
