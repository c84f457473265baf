-- `Group::lit_below` meets its contract: one duty inside another.
use Rattle.std.proofs.Common.{arith}
use Rattle.lamp.proofs.laws.Count.{from_zero, group_counts}
use Rattle.lamp.proofs.group.Group.lit_below.Goals as goal

pub returns : goal.returns
returns c =
    let h = c.self.invariant in
    simp (c.individual.ensures, c.duty.ensures, ← c.self.view_is) (from_zero (group_counts h.positive h.whole_period h.whole_on h.within (omega arith)) c.args.x)
