-- `DriverMode::lit_before` meets its contract: each mode has its closed form.
use Rattle.std.proofs.Common.{arith}
use Rattle.lamp.specs.Driver.{driver_lit}
use Rattle.lamp.proofs.laws.Count.{from_zero, never, every, individual_counts}
use Rattle.lamp.proofs.driver.DriverModeMode.lit_before.Goals as goal

pub returns-in-Off : goal.returns-in-Off
unfolding driver_lit
returns-in-Off c =
    rw c.in-Off.is (from_zero never c.args.end.0)

pub returns-in-On : goal.returns-in-On
unfolding driver_lit
returns-in-On c =
    rw c.in-On.is (from_zero every c.args.end.0)

pub returns-in-Individual : goal.returns-in-Individual
unfolding driver_lit
returns-in-Individual c =
    rw (c.in-Individual.is, c.individual.ensures) (from_zero (individual_counts (omega arith)) c.args.end.0)
