-- Done where no number of its list holds.
use Rattle.std.specs.Prelude.{refl}
use Rattle.bus.specs.Place.{blink_reply}
use Rattle.bus.proofs.laws.Replies.{answered, turned_by}
use Rattle.bus.proofs.judged.Judged.blink_start.Goals as goal

pub returns-in-Ok : goal.returns-in-Ok
unfolding blink_reply
returns-in-Ok c =
    answered _ _ _ _ _ c.in-Ok.ensures refl (simp (c.done.ensures, c.common_start.ensures, c.device_at.ensures))

pub returns-in-Err : goal.returns-in-Err
unfolding blink_reply
returns-in-Err c =
    turned_by _ _ _ _ _ c.in-Err.ensures c.refused_for.ensures
