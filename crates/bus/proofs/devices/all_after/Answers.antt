-- The loop: the devices before this one have taken the signal.
use Rattle.std.proofs.Common.{rules}
use Rattle.basics.specs.laws.First.{map_none, map_more, map_whole}
use Rattle.bus.proofs.devices.all_after.Goals as goal

pub loop-d-init : goal.loop-d-init
loop-d-init c =
    map_none _ _

pub loop-d-preserved : goal.loop-d-preserved
loop-d-preserved c =
    map_more _ _ _ _ _ _ c.loop-d.invariant c.after_signal.ensures

pub returns : goal.returns
returns c =
    map_whole _ _ _ _ _ (search rules) c.loop-d.invariant
