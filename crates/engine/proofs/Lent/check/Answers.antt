-- A position's own numbers come first, and then those of what happens there.
use Rattle.std.specs.Prelude.{◌≡◌}
use Rattle.std.proofs.Common.{sym, ap, ◌∙◌, rules}
use Rattle.bus.specs.Devices.{record_at, device_at}
use Rattle.bus.specs.Events.{step_refusals}
use Rattle.bus.specs.Place.{change_refusals, question_refusals}
use Rattle.bus.proofs.laws.Place.{placed_code, position_refused, changes_above, questions_above}
use Rattle.device.specs.declared.Device.{Device}
use Rattle.refusals.specs.Reasons.{code_in, number}
use Rattle.refusals.specs.Refusals.{code_of}
use Rattle.engine.specs.Lens.{lent_bus}
use Rattle.engine.proofs.Lent.check.Goals as goal

pub returns-in_err-place-in-Change : goal.returns-in_err-place-in-Change
unfolding step_refusals
returns-in_err-place-in-Change c =
    let b = lent_bus c.args.self.now in
    let e : code_in c.from_residual-in_err-place-in-Change.result ≡ number c.in_err-place-in-Change.field-0.0 = search rules in
    rw c.in-Change.is (e ∙ position_refused b _ (change_refusals (record_at b c.in-Change.dev) c.in-Change.change) _ (changes_above _ _) c.in_err-place-in-Change.ensures.code)

pub returns-in_ok-place-in-Change : goal.returns-in_ok-place-in-Change
unfolding step_refusals
returns-in_ok-place-in-Change c =
    let b = lent_bus c.args.self.now in
    let at = c.in_ok-place-in-Change.ensures in
    rw c.in-Change.is (placed_code b _ _ (change_refusals (record_at b c.in-Change.dev) c.in-Change.change) (sym at.code) (rw at.there.0 at c.change_check.ensures))

pub returns-in_err-place-in-Ask : goal.returns-in_err-place-in-Ask
unfolding step_refusals
returns-in_err-place-in-Ask c =
    let b = lent_bus c.args.self.now in
    let e : code_in c.from_residual-in_err-place-in-Ask.result ≡ number c.in_err-place-in-Ask.field-0.0 = search rules in
    rw c.in-Ask.is (e ∙ position_refused b _ (question_refusals (device_at b c.in-Ask.dev) c.in-Ask.question) _ (questions_above _ _) c.in_err-place-in-Ask.ensures.code)

pub returns-in_ok-place-in-Ask : goal.returns-in_ok-place-in-Ask
unfolding step_refusals
returns-in_ok-place-in-Ask c =
    let b = lent_bus c.args.self.now in
    let at = c.in_ok-place-in-Ask.ensures in
    let d = rw at.there.0 at c.device.ensures in
    rw c.in-Ask.is (placed_code b _ _ (question_refusals (device_at b c.in-Ask.dev) c.in-Ask.question) (sym at.code) (c.question_check.ensures ∙ ap (λ (x : Device). code_of (question_refusals x c.in-Ask.question)) d))
