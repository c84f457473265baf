-- The counts of an output fit, whatever its LEDOUT bits.
use Rattle.totals.proofs.raise.fn.driver_raise.on.Goals as goal

pub shared_lit-requires : goal.shared_lit-requires
shared_lit-requires c = c.requires.2 c.pair-ledout.result
