-- By the check, the run of its events or a refusal; an accepted address has seven bits.
use Rattle.std.proofs.Common.{sym, ltb-false}
use Rattle.std.proofs.Math.Path.{refl}
use Rattle.bus.proofs.laws.Replies.{answered, turned_by}
use Rattle.message.specs.Write.{write_refusals, write_reply}
use Rattle.refusals.specs.laws.Refusals.{accepted}
use Rattle.message.proofs.write.write_message.Goals as goal

pub write_done-requires : goal.write_done-requires
write_done-requires c =
    let a = c.args in
    ltb-false 127 a.address (accepted (write_refusals a.bus a.address) refl (sym c.in-Ok.ensures)).1.1.0

pub returns-in-Ok : goal.returns-in-Ok
unfolding write_reply
returns-in-Ok c =
    answered _ _ _ _ _ c.in-Ok.ensures refl c.write_done.ensures

pub returns-in-Err : goal.returns-in-Err
unfolding write_reply
returns-in-Err c =
    turned_by _ _ _ _ _ c.in-Err.ensures c.refused_for.ensures
