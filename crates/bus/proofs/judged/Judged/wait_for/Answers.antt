-- A position's own numbers come first.
use Rattle.std.specs.Prelude.{refl}
use Rattle.std.proofs.Common.{sym}
use Rattle.bus.specs.Devices.{record_at}
use Rattle.bus.specs.Units.{wait_refusals, wait_for_reply}
use Rattle.bus.proofs.laws.Place.{position_there, position_refused}
use Rattle.bus.proofs.laws.Replies.{turned_by}
use Rattle.bus.proofs.judged.Judged.wait_for.Goals as goal

pub wait_at-requires : goal.wait_at-requires
wait_at-requires c =
    let own = rw c.in_default.is at (c.place_check.ensures c.args.self.now.bus c.args.self.now.judged refl) in
    let z = sym own in
    ((position_there c.args.self.now.bus c.args.dev z).2, z)

pub returns-in-Err : goal.returns-in-Err
unfolding wait_for_reply
returns-in-Err c =
    let a = c.args in
    turned_by _ _ _ _ _ (position_refused a.self.now.bus a.dev (wait_refusals (record_at a.self.now.bus a.dev) a.duration) _ refl (c.in-Err.ensures a.self.now.bus c.args.self.now.judged refl)) c.refused_for.ensures
