use Rattle.std.proofs.Common.{length, ◌-◌, ◌≡◌}
use Rattle.stream.specs.Steps.{HandedOver}
use Rattle.stream.proofs.buffers.drain.Given as goal

-- what is handed over so far are the answers to the lines so far; each batch goes on from there
abbrev pub invariant-loop-read : goal.invariant-loop-read
invariant-loop-read g l =
    HandedOver l.initial.output l.text l.read l.output × (length l.out ≡ length l.initial.out) × (l.place ≡ l.output.sent)

abbrev pub decreases-loop-read : goal.decreases-loop-read
decreases-loop-read g l = length l.text - l.read
