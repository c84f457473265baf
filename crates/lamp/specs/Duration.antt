-- A length of time in the unit of one oscillator (RULES, Events: ticks of a driver and steps of a blinker are separate units, and never added).
use Rattle.std.specs.Prelude.{ℕ}
use Rattle.lamp.specs.declared.Duration.{Duration}
use Rattle.lamp.specs.declared.Duration.TheVariants.{Ticks, Steps}

-- how many of its unit
abbrev pub amount : Duration → ℕ
amount (Ticks ticks) = ticks.0
amount (Steps steps) = steps.0
