-- The loop: the least reason that holds of those looked at.
use Rattle.std.proofs.Common.{rules}
use Rattle.std.specs.Prelude.{◌≡◌, refl, false}
use Rattle.refusals.specs.Refusals.{code_of}
use Rattle.refusals.specs.declared.Reason.TheVariants.{UnknownKind}
use Rattle.refusals.proofs.Judged.{judged_more}
use Rattle.refusals.proofs.verdict.judge.Goals as goal

pub loop-reason-init : goal.loop-reason-init
unfolding code_of
loop-reason-init c = refl

pub loop-reason-preserved : goal.loop-reason-preserved
loop-reason-preserved c =
    judged_more c.args.checks.now c.loop-reason.reason-index (UnknownKind, false) _ _ (search rules) c.loop-reason.invariant c.with_reason-verdict.ensures
