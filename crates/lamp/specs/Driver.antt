-- When an output of a driver (the PCA9635, the PCA9634) is lit (RULES, Lamps).
use Rattle.std.specs.Prelude.{ℕ, ◌+◌, ◌*◌, ◌%◌, Bool, true, false, ◌&&◌, cond, ltb, eqb}
use Rattle.lamp.specs.declared.DriverMode.{DriverMode}
use Rattle.lamp.specs.declared.DriverMode.TheVariants.{Off, On, Individual, Dimmed, Blinking}

-- individual brightness N: lit for the first N ticks of each 256
unfoldable pub individual : ℕ → ℕ → Bool
individual N t = ltb (t % 256) N

-- individual brightness N and a group test that holds for the first L ticks of each P
unfoldable pub grouped : ℕ → ℕ → ℕ → ℕ → Bool
grouped P L N t = individual N t && ltb (t % P) L

-- group dimming M (DMBLNK 0): the group test holds for 512 * M ticks of each 131,072
abbrev pub dimmed : ℕ → ℕ → ℕ → Bool
dimmed M N = grouped 131072 (512 * M) N

-- group blinking (DMBLNK 1) with GRPFREQ G and GRPPWM M: its period, and the first ticks of each for which its group test holds
abbrev pub blink_period : ℕ → ℕ
blink_period G = (G + 1) * 1048576

abbrev pub blink_on : ℕ → ℕ → ℕ
blink_on G M = M * (G + 1) * 4096

abbrev pub blinking : ℕ → ℕ → ℕ → ℕ → Bool
blinking G M N = grouped (blink_period G) (blink_on G M) N

-- an output's mode, with the registers that it looks at: its two LEDOUT bits, DMBLNK, PWM, GRPPWM, GRPFREQ
abbrev pub driver_mode : ℕ → Bool → ℕ → ℕ → ℕ → DriverMode
driver_mode ledout dmblnk N M G =
    cond (eqb ledout 0) Off
    (cond (eqb ledout 1) On
    (cond (eqb ledout 2) (Individual N)
    (cond dmblnk (Blinking N M G) (Dimmed N M))))

-- whether an output in this mode is lit at a tick
unfoldable pub driver_lit : DriverMode → ℕ → Bool
driver_lit Off t = false
driver_lit On t = true
driver_lit (Individual N) t = individual N t
driver_lit (Dimmed N M) t = dimmed M N t
driver_lit (Blinking N M G) t = blinking G M N t
