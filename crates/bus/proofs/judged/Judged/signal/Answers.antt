-- A signal is done where no number of its list holds.
use Rattle.std.specs.Prelude.{refl}
use Rattle.std.proofs.Common.{sym}
use Rattle.refusals.specs.laws.Refusals.{accepted}
use Rattle.bus.specs.Signals.{signal_refusals}
use Rattle.bus.specs.Events.{step_reply, step_refusals, step_done}
use Rattle.bus.proofs.laws.Replies.{answered, turned_by, ok_count}
use Rattle.bus.proofs.judged.Judged.signal.Goals as goal

pub signal_value-requires : goal.signal_value-requires
signal_value-requires c =
    let a = c.args in
    let none = accepted (signal_refusals a.self.now.bus a.event) refl (sym (c.in-Ok.ensures a.self.now.bus c.args.self.now.judged refl)) in
    (ok_count a.self.now.bus none.0, none.1.1.0)

pub signal_of-requires : goal.signal_of-requires
signal_of-requires c =
    let a = c.args in
    (accepted (signal_refusals a.self.now.bus a.event) refl (sym (c.in-Ok.ensures a.self.now.bus c.args.self.now.judged refl))).1.1.0

pub after-requires : goal.after-requires
after-requires c =
    let a = c.args in
    ok_count a.self.now.bus (accepted (signal_refusals a.self.now.bus a.event) refl (sym (c.in-Ok.ensures a.self.now.bus c.args.self.now.judged refl))).0

pub returns-in-Ok : goal.returns-in-Ok
unfolding step_reply step_refusals step_done
returns-in-Ok c =
    answered _ _ _ _ _ (c.in-Ok.ensures c.args.self.now.bus c.args.self.now.judged refl) refl (simp (c.done.ensures, c.after.ensures, c.signal_of.ensures, c.signal_value.ensures))

pub returns-in-Err : goal.returns-in-Err
unfolding step_reply step_refusals
returns-in-Err c =
    turned_by _ _ _ _ _ (c.in-Err.ensures c.args.self.now.bus c.args.self.now.judged refl) c.refused_for.ensures
