-- The register maps (RULES, Driver registers and Blinker registers). The drivers' is one map over the number of outputs n: 16 and 8 give the two columns of the rules' table (`Promises`).
use Rattle.std.specs.Prelude.{ℕ, ◌+◌, ◌/◌, ◌%◌, Bool, false, ◌&&◌, cond, leb, ltb}
use Rattle.chip.specs.Kinds.{is_driver, outputs_of}
use Rattle.chip.specs.declared.Chip.{Chip}
use Rattle.chip.specs.declared.RegisterMap.{RegisterMap}

abbrev pub mode1 : ℕ
mode1 = 0

abbrev pub mode2 : ℕ
mode2 = 1

-- PWM0; the others follow it
abbrev pub pwm0 : ℕ
pwm0 = 2

abbrev pub grppwm : ℕ → ℕ
grppwm n = n + 2

abbrev pub grpfreq : ℕ → ℕ
grpfreq n = n + 3

-- LEDOUT0, with the bits of outputs 0 to 3
abbrev pub ledout0 : ℕ → ℕ
ledout0 n = n + 4

-- SUBADR1; SUBADR2 and SUBADR3 follow it
abbrev pub subadr1 : ℕ → ℕ
subadr1 n = n + 4 + n / 4

abbrev pub allcalladr : ℕ → ℕ
allcalladr n = n + 7 + n / 4

abbrev pub register_map : ℕ → RegisterMap
register_map n =
    record {
      grppwm = grppwm n;
      grpfreq = grpfreq n;
      ledout0 = ledout0 n;
      subadr1 = subadr1 n;
      allcalladr = allcalladr n;
    }

-- the blinkers' registers
abbrev pub input : ℕ
input = 0

-- PSC0 and PWM0; PSC1 and PWM1 are two further
abbrev pub psc0 : ℕ
psc0 = 1

abbrev pub blink_pwm0 : ℕ
blink_pwm0 = 2

-- LS0, with the bits of outputs 0 to 3; LS1 follows it
abbrev pub ls0 : ℕ
ls0 = 5

-- the register that a control byte points at
unfoldable pub pointed : Chip → ℕ → ℕ
pointed chip control = cond (is_driver chip) (control % 32) (control % 8)

-- PWM0 through LEDOUT of a driver with n outputs, which it holds as written and as in effect
abbrev pub in_buffer : ℕ → ℕ → Bool
in_buffer n r = leb pwm0 r && ltb r (subadr1 n)

unfoldable pub is_buffered : Chip → ℕ → Bool
is_buffered chip r = cond (is_driver chip) (in_buffer (outputs_of chip) r) false

-- the first register that can be written, and how many there are from it on: all of a driver, of a blinker all but INPUT
abbrev pub first_writable : Chip → ℕ
first_writable chip = cond (is_driver chip) mode1 psc0

abbrev pub writables : Chip → ℕ
writables chip = cond (is_driver chip) (allcalladr (outputs_of chip) + 1) (ls0 + 1)
