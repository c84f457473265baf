-- A question goes to the device at the position, where there is one.
use Rattle.std.specs.Prelude.{refl}
use Rattle.std.proofs.Common.{sym, ◌∙◌}
use Rattle.bus.specs.Devices.{device_at}
use Rattle.bus.specs.Place.{question_refusals}
use Rattle.bus.specs.Events.{step_reply, step_refusals}
use Rattle.bus.proofs.laws.Place.{device_answers, position_refused, questions_above}
use Rattle.bus.proofs.laws.Replies.{turned_by}
use Rattle.bus.proofs.judged.Judged.ask.Goals as goal

pub returns : goal.returns
returns c =
    let a = c.args in
    let own = rw c.in_default.is at (c.place_check.ensures a.self.now.bus c.args.self.now.judged refl) in
    c.answered.ensures ∙ device_answers a.self.now.bus a.dev a.question _ _ _ (sym own) c.device_at.ensures c.answer_of.ensures.code c.answer_of.ensures.value

pub returns-in-Err : goal.returns-in-Err
unfolding step_reply step_refusals
returns-in-Err c =
    let a = c.args in
    turned_by _ _ _ _ _ (position_refused a.self.now.bus a.dev (question_refusals (device_at a.self.now.bus a.dev) a.question) _ (questions_above _ a.question) (c.in-Err.ensures a.self.now.bus c.args.self.now.judged refl)) c.refused_for.ensures
