-- The shape of every reply: refused with the least number that holds, or done.
use Rattle.std.specs.Prelude.{ℕ, List}
use Rattle.refusals.specs.Refusals.{Refusal, outcome}
use Rattle.bus.specs.declared.Bus.{Bus}
use Rattle.bus.specs.declared.Reply.{Reply}

-- refused: the number, the value 0, and the bus as it was
abbrev pub refused_with : Bus → ℕ → Reply
refused_with b k = record { code = k; value = 0; bus = b }

abbrev pub done_with : ℕ → Bus → Reply
done_with v b = record { code = 0; value = v; bus = b }

unfoldable pub answer : List Refusal → Bus → Reply → Reply
answer l b done = outcome l (refused_with b) done
