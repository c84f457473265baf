-- A turn lends a record, which comes back with the time where it has room.
use Rattle.std.specs.Prelude.{refl}
use Rattle.std.proofs.Common.{rules}
use Rattle.basics.specs.Below.{all_below}
use Rattle.replay.specs.Time.{time_below}
use Rattle.replay.proofs.laws.Passed.{turn_holds, turn_room}
use Rattle.replay.proofs.time.wait_all.Goals as goal

pub loop-i-init : goal.loop-i-init
unfolding time_below all_below
loop-i-init c =
    record { time = refl; room = refl; places = c.requires.0 }

pub loop-i-preserved : goal.loop-i-preserved
loop-i-preserved c =
    let l = c.loop-i in
    let w = c.wait_driver-room.ensures in
    record {
      time = turn_holds c.args.ticks c.args.bus.now l.bus l.i (search rules) (search rules) (search rules) _ (search rules) l.invariant.time _ _ _ w.after;
      room = turn_room c.args.ticks c.args.bus.now l.bus l.i (search rules) (search rules) (search rules) _ (search rules) l.invariant.time _ _ l.invariant.room w.room;
      places = search rules;
    }
