-- A position's own numbers come first.
use Rattle.std.specs.Prelude.{◌≡◌, refl, ◌∷◌, [], Bool}
use Rattle.std.proofs.Common.{sym, ap, ◌∙◌, rules}
use Rattle.refusals.specs.Refusals.{code_of, refuse}
use Rattle.refusals.specs.Reasons.{code_in, number}
use Rattle.chip.specs.Kinds.{is_driver}
use Rattle.device.specs.declared.Device.{Device}
use Rattle.bus.specs.Devices.{device_at}
use Rattle.bus.proofs.laws.Place.{placed_code, position_refused}
use Rattle.bus.proofs.judged.Judged.blink_check.Goals as goal

pub returns-in_err-place_check : goal.returns-in_err-place_check
returns-in_err-place_check c =
    let a = c.args in
    let e : code_in c.from_residual.result ≡ number c.in_err-place_check.field-0.0 = search rules in
    e ∙ position_refused a.self.now.bus a.dev (refuse 10 (is_driver (device_at a.self.now.bus a.dev).chip) ∷ []) _ refl (c.in_err-place_check.ensures a.self.now.bus c.args.self.now.judged refl)

pub returns : goal.returns
returns c =
    let a = c.args in
    placed_code a.self.now.bus a.dev _ (refuse 10 (is_driver (device_at a.self.now.bus a.dev).chip) ∷ []) (sym (c.in_ok-place_check.ensures a.self.now.bus c.args.self.now.judged refl))
    (c.judge.ensures ∙ ap (λ (b : Bool). code_of (refuse 10 b ∷ [])) (c.is_driver.ensures ∙ ap (λ (d : Device). is_driver d.chip) c.device_at.ensures))
