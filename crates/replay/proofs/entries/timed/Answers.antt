-- The event after the time, by the code of both.
use Rattle.std.proofs.Common.{◌∙◌}
use Rattle.replay.proofs.laws.Late.{timed_done, timed_refused}
use Rattle.replay.proofs.entries.timed.Goals as goal

pub returns-then-code-eq0 : goal.returns-then-code-eq0
returns-then-code-eq0 c =
    let a = c.args in
    timed_done a.ticks a.judged.bus a.event _ (rw c.pass-room.ensures.after at c.step-reply.ensures) _ c.pass-room.ensures.room _ (rw c.from.ensures at c.or_refused-code.ensures) c.if-code-eq0.true

pub returns-else-code-eq0 : goal.returns-else-code-eq0
returns-else-code-eq0 c =
    let a = c.args in
    c.refused.ensures ∙ timed_refused a.ticks a.judged.bus a.event _ (rw c.pass-room.ensures.after at c.step-reply.ensures) _ c.pass-room.ensures.room _ (rw c.from.ensures at c.or_refused-code.ensures) c.if-code-eq0.false
