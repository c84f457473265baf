-- `run`: from line to line, the lines so far are answered at the start of the buffer, and the bus is as well formed as it was.
use Rattle.std.specs.Prelude.{length, ◌≡◌, ◌-◌}
use Rattle.bus.specs.Devices.{bus_ok}
use Rattle.script.specs.Twin.{twin}
use Rattle.text.specs.laws.Run.{Did}
use Rattle.script.proofs.twin.run.Given as goal

abbrev pub invariant-loop-out : goal.invariant-loop-out
invariant-loop-out l =
    let bus = l.judged.1.0 in
    Did twin l.fn.first l.input l.initial.out l.out l.read l.wrote (record { lines = l.lines; bus = bus; form = l.form }) × (l.judged.0 ≡ bus_ok bus) × (length l.out ≡ length l.initial.out) × (length bus.devices ≡ 8)

abbrev pub decreases-loop-out : goal.decreases-loop-out
decreases-loop-out l = length l.input - l.read
