-- When an output of a blinker (the PCA9531, the PCA9551) is lit (RULES, Lamps). Its ticks are the steps of its own oscillator.
use Rattle.std.specs.Prelude.{ℕ, ◌+◌, ◌/◌, ◌%◌, Bool, true, false, ltb, leb}
use Rattle.lamp.specs.declared.BlinkerMode.{BlinkerMode}
use Rattle.lamp.specs.declared.BlinkerMode.TheVariants.{Off, On, LitBelow, LitFrom}

-- the rules' step count c, with the prescaler S
abbrev pub step_count : ℕ → ℕ → ℕ
step_count S t = t / (S + 1) % 256

-- the sense of the PCA9531: lit while c < D, D in PWM
unfoldable pub lit_below : ℕ → ℕ → ℕ → Bool
lit_below S D t = ltb (step_count S t) D

-- the sense of the PCA9551: lit while c >= D
unfoldable pub lit_from : ℕ → ℕ → ℕ → Bool
lit_from S D t = leb D (step_count S t)

-- whether an output in this mode is lit at a step
unfoldable pub blinker_lit : BlinkerMode → ℕ → Bool
blinker_lit Off t = false
blinker_lit On t = true
blinker_lit (LitBelow S D) t = lit_below S D t
blinker_lit (LitFrom S D) t = lit_from S D t
