-- One refusal more: its number, or none, beside the code.
use Rattle.refusals.specs.laws.Refusals.{least_zero}
use Rattle.refusals.proofs.verdict.or_refused.Goals as goal

pub returns-else-holds : goal.returns-else-holds
returns-else-holds c =
    simp (c.if-holds.false, least_zero)
