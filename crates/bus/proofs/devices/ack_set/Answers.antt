-- The loop: the set of the positions before this one is gathered, and the weight is that of this one.
use Rattle.std.proofs.Common.{arith, rules}
use Rattle.basics.specs.laws.Bits.{mask_none, mask_more, mask_room, mask_whole, weight_more, weight_most}
use Rattle.bus.proofs.devices.ack_set.Goals as goal

pub loop-d-init : goal.loop-d-init
loop-d-init c =
    (search rules, mask_none _ _)

pub overflow_add-set : goal.overflow_add-set
overflow_add-set c =
    let most = weight_most c.acks.result c.weight_of-set.result c.loop-d.weight c.weight_of-set.ensures in
    let room = mask_room _ _ _ _ _ (search rules) c.loop-d.invariant.0 c.loop-d.invariant.1 in
    omega arith

pub loop-d-preserved : goal.loop-d-preserved
loop-d-preserved c =
    let inv = c.loop-d.invariant in
    (weight_more _ _ inv.0, mask_more _ _ _ _ _ _ _ _ (search rules) inv.0 inv.1 c.acks.ensures c.weight_of-set.ensures)

pub returns : goal.returns
returns c =
    mask_whole _ _ _ _ _ (search rules) c.loop-d.invariant.1
