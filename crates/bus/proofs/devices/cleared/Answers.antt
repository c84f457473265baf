-- A part that is lent, cleared and given back.
use Rattle.std.proofs.Common.{rules}
use Rattle.std.proofs.Math.Path.{refl}
use Rattle.bus.proofs.laws.Records.{given_back}
use Rattle.bus.proofs.devices.cleared.Goals as goal

pub returns : goal.returns
returns c =
    let a = c.args in
    rw c.clear.ensures (given_back a.totals a.dev (search rules) c.requires _ refl)
