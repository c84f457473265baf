-- An output's lit steps by its LS bits are its own.
use Rattle.std.proofs.Common.{refl, arith}
use Rattle.device.specs.Output.{ls_of}
use Rattle.totals.proofs.laws.Wait.{lits_give}
use Rattle.totals.proofs.raise.blinker_raise.Goals as goal

pub raise-requires-clause-right : goal.raise-requires-clause-right
raise-requires-clause-right c =
    λ out x h e. lits_give c.args.d out c.args.steps.0 (ls_of c.args.d out) x c.requires.2 refl (omega arith) (rw c.lits_of-by_bits.ensures at e)
