-- The loop: the least reason that holds of those looked at.
use Rattle.std.specs.Prelude.{◌≡◌, ◌≤◌, length, take}
use Rattle.refusals.specs.Refusals.{code_of}
use Rattle.refusals.specs.Reasons.{code_in, refusals_of}
use Rattle.refusals.proofs.verdict.judge.Given as goal

abbrev pub invariant-loop-reason : goal.invariant-loop-reason
invariant-loop-reason l = code_in l.verdict ≡ code_of (refusals_of (take l.reason-index l.checks))
