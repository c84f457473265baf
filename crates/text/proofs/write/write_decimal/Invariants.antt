-- `write_decimal`: the last digits stand from the place after `first` on, and those before them are still to be put.
use Rattle.std.specs.Prelude.{length, ◌≡◌, ◌≤◌}
use Rattle.text.proofs.Writing.{Digits}
use Rattle.text.proofs.write.write_decimal.Given as goal

abbrev pub invariant-loop-rest : goal.invariant-loop-rest
invariant-loop-rest l = (l.first ≤ 19) × (length l.digits ≡ 20) × Digits l.n l.digits l.first l.rest

abbrev pub decreases-loop-rest : goal.decreases-loop-rest
decreases-loop-rest l = l.first
