-- Done where no number of its list holds.
use Rattle.std.specs.Prelude.{refl}
use Rattle.std.proofs.Common.{sym, arith}
use Rattle.refusals.specs.laws.Refusals.{accepted}
use Rattle.bus.specs.Devices.{device_at}
use Rattle.bus.specs.Units.{lit_for_refusals, lit_for_reply}
use Rattle.bus.proofs.laws.Place.{output_byte}
use Rattle.bus.proofs.laws.Replies.{answered, turned_by}
use Rattle.bus.proofs.judged.Judged.lit_for.Goals as goal

pub overflow_cast-out : goal.overflow_cast-out
overflow_cast-out c =
    let a = c.args in
    let none = accepted (lit_for_refusals a.self.now.bus a.dev a.out a.duration) refl (sym c.in-Ok.ensures) in
    omega (arith, output_byte (device_at a.self.now.bus a.dev) a.out none.1.1.1.0)

pub returns-in-Ok : goal.returns-in-Ok
unfolding lit_for_reply
returns-in-Ok c =
    answered _ _ _ _ _ c.in-Ok.ensures refl (simp (c.done.ensures, c.lit_value.ensures, c.device_at.ensures))

pub returns-in-Err : goal.returns-in-Err
unfolding lit_for_reply
returns-in-Err c =
    turned_by _ _ _ _ _ c.in-Err.ensures c.refused_for.ensures
