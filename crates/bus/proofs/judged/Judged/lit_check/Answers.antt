-- A position's own numbers come first.
use Rattle.std.specs.Prelude.{◌≡◌, refl, ◌∷◌, []}
use Rattle.std.proofs.Common.{sym, ◌∙◌, rules}
use Rattle.refusals.specs.Refusals.{refuse}
use Rattle.refusals.specs.Reasons.{code_in, number}
use Rattle.device.specs.Wait.{is_too_long_for}
use Rattle.bus.specs.Devices.{device_at}
use Rattle.bus.specs.Place.{is_missing}
use Rattle.bus.specs.Units.{is_foreign}
use Rattle.bus.proofs.laws.Place.{placed_code, position_refused}
use Rattle.bus.proofs.judged.Judged.lit_check.Goals as goal

pub returns-in_err-place_check : goal.returns-in_err-place_check
returns-in_err-place_check c =
    let a = c.args in
    let d = device_at a.self.now.bus a.dev in
    let e : code_in c.from_residual.result ≡ number c.in_err-place_check.field-0.0 = search rules in
    e ∙ position_refused a.self.now.bus a.dev (refuse 6 (is_too_long_for d a.duration) ∷ refuse 9 (is_missing d a.out) ∷ refuse 10 (is_foreign d a.duration) ∷ []) _ refl (c.in_err-place_check.ensures a.self.now.bus c.args.self.now.judged refl)

pub returns : goal.returns
returns c =
    let a = c.args in
    let d = device_at a.self.now.bus a.dev in
    placed_code a.self.now.bus a.dev _ (refuse 6 (is_too_long_for d a.duration) ∷ refuse 9 (is_missing d a.out) ∷ refuse 10 (is_foreign d a.duration) ∷ []) (sym (c.in_ok-place_check.ensures a.self.now.bus c.args.self.now.judged refl))
    (rw c.device_at-d.ensures at rw (c.is_too_long.ensures, c.is_missing.ensures, c.is_foreign.ensures) at c.judge.ensures)
