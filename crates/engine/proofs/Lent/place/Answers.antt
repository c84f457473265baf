-- A position without a number is one of the eight.
use Rattle.std.specs.Prelude.{refl}
use Rattle.std.proofs.Common.{sym}
use Rattle.bus.proofs.laws.Place.{position_there}
use Rattle.engine.specs.Lens.{lent_bus}
use Rattle.engine.proofs.Lent.place.Goals as goal

pub returns-clause-there : goal.returns-clause-there
returns-clause-there c =
    let bus = lent_bus c.args.self.now in
    (refl, (position_there bus c.args.dev (sym (c.in_ok-place_check.ensures bus c.requires refl))).2)
