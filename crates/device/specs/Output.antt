-- What an output follows, whether it is lit, for how many ticks, and the level of its pin (RULES, Lamps, Lit counts and Pins).
use Rattle.std.specs.Prelude.{ℕ, ◌+◌, ◌/◌, ◌%◌, ◌^◌, Bool, not, ◌&&◌, cond, List, [], ◌∷◌, eqb}
use Rattle.basics.specs.Bits.{bit, mask_first}
use Rattle.lamp.specs.Window.{counted_ticks}
use Rattle.lamp.specs.Driver.{driver_mode, driver_lit}
use Rattle.lamp.specs.Blinker.{blinker_lit}
use Rattle.lamp.specs.Duration.{amount}
use Rattle.lamp.specs.declared.Duration.{Duration}
use Rattle.lamp.specs.declared.DriverMode.{DriverMode}
use Rattle.lamp.specs.declared.BlinkerMode.{BlinkerMode}
use Rattle.lamp.specs.declared.BlinkerMode.TheVariants.{Off, On, LitBelow, LitFrom}
use Rattle.chip.specs.Kinds.{is_driver, outputs_of}
use Rattle.chip.specs.Registers.{pwm0, grppwm, grpfreq, ledout0, psc0, blink_pwm0, ls0}
use Rattle.chip.specs.declared.Chip.{Chip}
use Rattle.chip.specs.declared.Chip.TheVariants.{Pca9635, Pca9634, Pca9531, Pca9551}
use Rattle.device.specs.Registers.{held, in_effect, is_awake, is_blinking, is_inverted, is_totem_pole, outne}
use Rattle.device.specs.Wait.{is_own}
use Rattle.device.specs.declared.Device.{Device}
use Rattle.device.specs.declared.Level.{Level}
use Rattle.device.specs.declared.Level.TheVariants.{Low, High, HighZ}

-- an output's two bits of a byte that holds those of four, the lowest output lowest
abbrev pub pair_of : ℕ → ℕ → ℕ
pair_of byte out = byte / 4 ^ (out % 4) % 4

-- ---- drivers, once over the number of outputs n

-- an output's mode: its two LEDOUT bits in effect
abbrev pub ledout_of : Device → ℕ → ℕ → ℕ
ledout_of d n out = pair_of (in_effect d (ledout0 n + out / 4)) out

unfoldable pub driver_output : Device → ℕ → ℕ → DriverMode
driver_output d n out =
    driver_mode (ledout_of d n out) (is_blinking d) (in_effect d (pwm0 + out)) (in_effect d (grppwm n)) (in_effect d (grpfreq n))

-- ---- blinkers

-- LS bits with PSC and PWM of the blink that they select. PCA9531: 00 unlit, 01 lit; PCA9551: 00 lit, 01 unlit; 10 and 11 blink, each chip in its own sense
abbrev pub blinker_mode : Chip → ℕ → ℕ → ℕ → BlinkerMode
blinker_mode Pca9635 ls S D = Off
blinker_mode Pca9634 ls S D = Off
blinker_mode Pca9531 ls S D = cond (eqb ls 0) Off (cond (eqb ls 1) On (LitBelow S D))
blinker_mode Pca9551 ls S D = cond (eqb ls 0) On (cond (eqb ls 1) Off (LitFrom S D))

abbrev pub ls_of : Device → ℕ → ℕ
ls_of d out = pair_of (held d (ls0 + out / 4)) out

-- 10 is BLINK0, 11 BLINK1, whose registers are two further
abbrev pub blink_of : ℕ → ℕ
blink_of ls = cond (eqb ls 3) 2 0

-- an output with these LS bits
abbrev pub blinker_by : Device → ℕ → BlinkerMode
blinker_by d ls = blinker_mode d.chip ls (held d (psc0 + blink_of ls)) (held d (blink_pwm0 + blink_of ls))

unfoldable pub blinker_output : Device → ℕ → BlinkerMode
blinker_output d out = blinker_by d (ls_of d out)

-- ---- any device

-- the rules' "lit", of an output at a count of ticks
unfoldable pub lamp_lit : Device → ℕ → ℕ → Bool
lamp_lit d out = cond (is_driver d.chip) (driver_lit (driver_output d (outputs_of d.chip) out)) (blinker_lit (blinker_output d out))

abbrev pub lit_now : Device → ℕ → Bool
lit_now d out = lamp_lit d out d.count

-- the question "lit", the lit ticks among the next w: tick by tick, or, asleep, w times the present state
unfoldable pub lit_of : Device → ℕ → ℕ → ℕ
lit_of d out w = cond (is_awake d) (counted_ticks (lamp_lit d out) d.count w) (cond (lit_now d out) w 0)

-- the same of a duration; 0 in the other kind's unit, which every call refuses
abbrev pub lit_for : Device → ℕ → Duration → ℕ
lit_for d out w = cond (is_own d.chip w) (lit_of d out (amount w)) 0

-- a pin is low, high or high-Z
abbrev pub low : ℕ
low = 0

abbrev pub high : ℕ
high = 1

abbrev pub high_z : ℕ
high_z = 2

abbrev pub level_number : Level → ℕ
level_number Low = low
level_number High = high
level_number HighZ = high_z

-- what a driver's pin does when it is not pulled low
abbrev pub undriven : Device → ℕ
undriven d = cond (is_totem_pole d) high high_z

-- with OE 1: by OUTNE
abbrev pub disabled_pin : Device → ℕ
disabled_pin d = cond (eqb (outne d) 0) low (cond (eqb (outne d) 1) (undriven d) high_z)

-- with OE 0: INVRT 0 lit low, INVRT 1 unlit low
abbrev pub driver_pin : Device → Bool → ℕ
driver_pin d lit =
    cond d.oe (disabled_pin d)
    (cond (is_inverted d) (cond lit (undriven d) low) (cond lit low (undriven d)))

unfoldable pub pin_of : Device → ℕ → ℕ
pin_of d out = cond (is_driver d.chip) (driver_pin d (lit_now d out)) (cond (lit_now d out) low high_z)

-- ---- INPUT of a blinker: 0 where the output is lit, else the outside level

abbrev pub input_bit : Device → ℕ → Bool
input_bit d i = not (lit_now d i) && bit i d.levels

-- the outputs of a blinker
abbrev pub blinker_outputs : List ℕ
blinker_outputs = 0 ∷ 1 ∷ 2 ∷ 3 ∷ 4 ∷ 5 ∷ 6 ∷ 7 ∷ []

unfoldable pub input_byte : Device → ℕ
input_byte d = mask_first 8 (input_bit d) blinker_outputs
