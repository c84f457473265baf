-- `BlinkerMode::lit_before` meets its contract: each mode has its closed form.
use Rattle.std.proofs.Common.{arith}
use Rattle.lamp.specs.Blinker.{lit_below, blinker_lit}
use Rattle.lamp.proofs.laws.Count.{within, prefix, from_zero, never, every, from_counts}
use Rattle.lamp.proofs.blinker.BlinkerModeMode.lit_before.Goals as goal

pub overflow_sub-result : goal.overflow_sub-result
overflow_sub-result c =
    omega (arith, within (prefix (lit_below c.in-LitFrom.psc c.in-LitFrom.pwm)) c.args.end.0)

pub returns-in-Off : goal.returns-in-Off
unfolding blinker_lit
returns-in-Off c =
    rw c.in-Off.is (from_zero never c.args.end.0)

pub returns-in-On : goal.returns-in-On
unfolding blinker_lit
returns-in-On c =
    rw c.in-On.is (from_zero every c.args.end.0)

pub returns-in-LitFrom : goal.returns-in-LitFrom
unfolding blinker_lit
returns-in-LitFrom c =
    rw (c.in-LitFrom.is, c.lit_below-in-LitFrom.ensures) (from_zero (from_counts c.in-LitFrom.psc c.in-LitFrom.pwm) c.args.end.0)
