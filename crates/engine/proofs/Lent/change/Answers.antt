-- By the sort of the change: all but a wait leave the totals.
use Rattle.bus.specs.Devices.{record_at}
use Rattle.engine.specs.Lens.{lent_bus}
use Rattle.engine.specs.laws.Place.{wait_fits}
use Rattle.engine.proofs.Lent.change.Goals as goal

pub wait-requires-clause-fits : goal.wait-requires-clause-fits
wait-requires-clause-fits c =
    let a = c.args in
    rw (c.own_duration.ensures, c.device-d.ensures) (wait_fits (record_at (lent_bus a.self.now) a.dev) _ (rw c.in-Wait.is at c.requires.accepted))
