-- The bytes so far are put.
use Rattle.std.specs.Prelude.{◌+◌, ◌≤◌, ◌≡◌, map, take}
use Rattle.bus.specs.declared.SignalEvent.TheVariants.{Put}
use Rattle.message.specs.Sent.{sent_by}
use Rattle.message.proofs.sent.Sent.put_all.Given as goal

abbrev pub invariant-loop-byte : goal.invariant-loop-byte
invariant-loop-byte l = (l.sent.acks ≤ l.byte-index + 1) × (l.sent ≡ sent_by l.initial.sent (map Put (take l.byte-index l.bytes)))
