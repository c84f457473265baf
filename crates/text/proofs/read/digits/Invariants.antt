-- `digits`: the number so far takes the further digits.
use Rattle.std.proofs.Common.{◌≡◌, drop}
use Rattle.text.specs.Read.{digits_of}
use Rattle.text.proofs.read.digits.Given as goal

abbrev pub invariant-loop-i : goal.invariant-loop-i
invariant-loop-i l = digits_of l.number (drop l.i l.rest) ≡ digits_of l.first l.rest
