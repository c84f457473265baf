-- An output's lit ticks by what all outputs share are its own, and fit.
use Rattle.std.proofs.Common.{sym, ap, subst, arith}
use Rattle.chip.specs.laws.Registers.{outputs_few}
use Rattle.device.proofs.laws.Output.{driver_fits, shared_gives}
use Rattle.lamp.specs.laws.Shared.{Fits}
use Rattle.totals.proofs.raise.driver_raise.Goals as goal

pub raise-requires-clause-given : goal.raise-requires-clause-given
raise-requires-clause-given c =
    let most = outputs_few c.args.d.chip in
    let map = ap (λ m. m.ledout0) c.register_map.ensures in
    let shared = c.driver_shared-shared.ensures in
    λ out h. (omega arith, omega arith, λ ledout. subst (Fits ledout) (sym shared.value) (driver_fits c.args.d c.args.ticks.0 ledout shared.d_bound (omega arith)))

pub raise-requires-clause-right : goal.raise-requires-clause-right
raise-requires-clause-right c =
    let map = ap (λ m. m.ledout0) c.register_map.ensures in
    let shared = c.driver_shared-shared.ensures in
    λ out x h e. shared_gives _ _ _ _ _ c.requires.2 h (shared.value, shared.d_bound) e.1 (rw map at e.0)
