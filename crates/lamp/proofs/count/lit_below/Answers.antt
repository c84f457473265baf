-- `lamp::count::lit_below` meets its contract.
use Rattle.std.proofs.Common.{◌∙◌, arith}
use Rattle.lamp.proofs.laws.Count.{from_zero, below_counts}
use Rattle.lamp.proofs.count.lit_below.Goals as goal

pub returns : goal.returns
returns c =
    let a = c.args in
    c.duty.ensures ∙ from_zero (below_counts a.psc a.pwm (omega arith)) a.x
