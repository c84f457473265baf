-- The loop: the devices before this one have taken the signal.
use Rattle.std.specs.Prelude.{◌≡◌, take}
use Rattle.basics.specs.First.{map_first}
use Rattle.protocol.specs.Signals.{after_signal}
use Rattle.bus.proofs.devices.all_after.Given as goal

abbrev pub invariant-loop-d : goal.invariant-loop-d
invariant-loop-d l = l.d-items ≡ map_first l.d-index (after_signal l.phase l.signal) (take l.n l.fn.devices)
