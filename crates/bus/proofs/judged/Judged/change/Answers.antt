-- A position's own numbers come first.
use Rattle.std.specs.Prelude.{refl}
use Rattle.bus.specs.Devices.{record_at}
use Rattle.bus.specs.Place.{change_refusals}
use Rattle.bus.specs.Events.{step_reply, step_refusals}
use Rattle.bus.proofs.laws.Place.{changes_above, position_refused}
use Rattle.bus.proofs.laws.Replies.{turned_by}
use Rattle.bus.proofs.judged.Judged.change.Goals as goal

pub returns-in-Err : goal.returns-in-Err
unfolding step_reply step_refusals
returns-in-Err c =
    let a = c.args in
    turned_by _ _ _ _ _ (position_refused a.self.now.bus a.dev (change_refusals (record_at a.self.now.bus a.dev) a.change) _ (changes_above _ a.change) (c.in-Err.ensures a.self.now.bus c.args.self.now.judged refl)) c.refused_for.ensures
