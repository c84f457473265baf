-- The loop: the set of the first i positions is gathered, and the weight is that of the next.
use Rattle.std.specs.Prelude.{take, ◌^◌, ◌≡◌}
use Rattle.basics.specs.Bits.{mask_first}
use Rattle.protocol.specs.Put.{acks_to}
use Rattle.bus.proofs.devices.ack_set.Given as goal

abbrev pub invariant-loop-d : goal.invariant-loop-d
invariant-loop-d l = (l.weight ≡ 2 ^ l.d-index) × (l.set ≡ mask_first l.d-index (acks_to l.phase l.byte) (take l.n l.fn.devices))
