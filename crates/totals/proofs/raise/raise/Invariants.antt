-- The loop: the totals of the first i outputs have grown.
use Rattle.std.proofs.Common.{◌≡◌, ◌-◌}
use Rattle.device.specs.Output.{lit_of}
use Rattle.totals.specs.Totals.{raised}
use Rattle.totals.proofs.raise.raise.Given as goal

abbrev pub invariant-loop-i : goal.invariant-loop-i
invariant-loop-i g l =
    let w = g.U.Unit.count l.wait in
    (l.lit ≡ raised l.i (λ out. lit_of l.fn.d out w) l.initial.lit) × (l.unlit ≡ raised l.i (λ out. w - lit_of l.fn.d out w) l.initial.unlit)
