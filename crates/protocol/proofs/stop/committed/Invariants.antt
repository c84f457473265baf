-- `protocol::stop::committed` meets its contract. The loop's invariant: the registers from PWM0 up to i are copied.
use Rattle.std.specs.Prelude.{◌≡◌, ℕ, ◌≤◌, length, get_or}
use Rattle.basics.specs.laws.Lists.{copied}
use Rattle.protocol.proofs.stop.committed.Given as goal

abbrev pub invariant-loop-i : goal.invariant-loop-i
invariant-loop-i l = (2 ≤ l.i) × (l.i ≤ l.i-end) × (l.i-end ≤ 24) × (length l.next ≡ 28) × ((k : ℕ) → get_or l.next k 0 ≡ copied 2 l.written l.initial.next l.i k)
