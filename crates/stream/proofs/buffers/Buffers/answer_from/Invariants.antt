use Rattle.std.proofs.Common.{[]}
use Rattle.stream.specs.Loan.{IsSameLoan}
use Rattle.stream.specs.Stream.{Stands, Turns}
use Rattle.stream.proofs.Turns.{left}
use Rattle.stream.proofs.buffers.Buffers.answer_from.Given as goal

-- turns one after the other are one long turn, and each reads a byte at least
abbrev pub invariant-loop-self : goal.invariant-loop-self
invariant-loop-self g l = Turns l.initial.s [] l.s l.self.buf.now × Stands l.self.read l.self.sent l.s × IsSameLoan l.initial.self l.self

abbrev pub decreases-loop-self : goal.decreases-loop-self
decreases-loop-self g l = left l.s
