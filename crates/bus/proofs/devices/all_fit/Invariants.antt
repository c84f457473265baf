-- The loop: the totals of the first i devices can be handed in.
use Rattle.std.specs.Prelude.{◌≤◌, ◌≡◌, true}
use Rattle.basics.specs.Below.{all_below}
use Rattle.bus.specs.laws.Records.{fits_at}
use Rattle.bus.proofs.devices.all_fit.Given as goal

abbrev pub invariant-loop-i : goal.invariant-loop-i
invariant-loop-i l = (l.i ≤ l.n) × (all_below l.i (fits_at l.devices l.lit l.unlit) ≡ true)
