-- The lit steps of a blinker's outputs, by their LS bits.
use Rattle.std.specs.Prelude.{ℕ, List, [], ◌∷◌}
use Rattle.lamp.specs.declared.BlinkerSteps.{BlinkerSteps}
use Rattle.device.specs.laws.Output.{lit_by}
use Rattle.device.specs.declared.Device.{Device}

abbrev pub steps : ℕ → BlinkerSteps
steps n = record { 0 = n }

abbrev pub lits_of : Device → ℕ → List BlinkerSteps
lits_of d w = steps (lit_by d 0 w) ∷ steps (lit_by d 1 w) ∷ steps (lit_by d 2 w) ∷ steps (lit_by d 3 w) ∷ []
