-- Judged, then done or refused.
use Rattle.std.proofs.Common.{rules}
use Rattle.std.specs.Prelude.{◌≡◌, refl, Err}
use Rattle.bus.specs.Events.{step_reply}
use Rattle.bus.proofs.laws.Replies.{turned_by}
use Rattle.engine.proofs.Lent.step.Goals as goal

pub returns-in_err-check-clause-reply : goal.returns-in_err-check-clause-reply
unfolding step_reply
returns-in_err-check-clause-reply c =
    let e : c.from_residual.result ≡ Err c.in_err-check.field-0.0 = search rules in
    turned_by _ _ _ _ _ c.in_err-check.ensures (rw e refl)
