-- The signal has been at the first i devices, and what they answer is gathered.
use Rattle.std.specs.Prelude.{◌≡◌}
use Rattle.basics.specs.Bits.{mask_first}
use Rattle.basics.specs.First.{map_first, and_first}
use Rattle.engine.specs.Lens.{devices_of}
use Rattle.engine.specs.Signals.{acks_at, talks_at}
use Rattle.protocol.specs.Signals.{after_signal}
use Rattle.engine.proofs.Lent.signal.Given as goal

abbrev pub invariant-loop-i : goal.invariant-loop-i
invariant-loop-i l = record {
  acks : l.acks ≡ mask_first l.i (acks_at l.phase l.signal) (devices_of l.initial.bytes l.initial.counts);
  byte : l.byte ≡ and_first l.i (talks_at l.signal) (devices_of l.initial.bytes l.initial.counts);
  devices : devices_of l.bytes l.counts ≡ map_first l.i (after_signal l.phase l.signal) (devices_of l.initial.bytes l.initial.counts);
}
