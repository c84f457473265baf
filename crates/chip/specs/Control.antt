-- Control bytes: which are legal, and how the pointer moves after a byte (RULES, Driver registers and Blinker registers).
use Rattle.std.specs.Prelude.{ℕ, ◌+◌, ◌*◌, ◌/◌, ◌%◌, Bool, ◌&&◌, ◌||◌, cond, leb, eqb}
use Rattle.chip.specs.Kinds.{is_driver, outputs_of}
use Rattle.chip.specs.Registers.{pwm0, grppwm, grpfreq, allcalladr}
use Rattle.chip.specs.declared.Chip.{Chip}

-- ---- drivers, with n outputs: the auto-increment option in bits 7..5, the register in bits 4..0

abbrev pub option : ℕ → ℕ
option control = control / 32

-- legal options are 000 and 100 to 111
abbrev pub driver_legal : ℕ → ℕ → Bool
driver_legal n control = (eqb (option control) 0 || leb 4 (option control) && leb (option control) 7) && leb (control % 32) (allcalladr n)

-- the first and the last register of an option: 101 the PWMs, 110 GRPPWM and GRPFREQ, 111 PWM0 to GRPFREQ, any other all
abbrev pub option_first : ℕ → ℕ → ℕ
option_first n o = cond (eqb o 5) pwm0 (cond (eqb o 6) (grppwm n) (cond (eqb o 7) pwm0 0))

abbrev pub option_last : ℕ → ℕ → ℕ
option_last n o = cond (eqb o 5) (n + 1) (cond (eqb o 6) (grpfreq n) (cond (eqb o 7) (grpfreq n) (allcalladr n)))

-- the next register: at the option's last its first; else at the chip's last 0 (past it too, where no legal byte points); else one more
abbrev pub next_register : ℕ → ℕ → ℕ → ℕ
next_register n o r = cond (eqb r (option_last n o)) (option_first n o) (cond (leb (allcalladr n) r) 0 (r + 1))

-- option 000 does not move
abbrev pub driver_moved : ℕ → ℕ → ℕ
driver_moved n control =
    cond (eqb (option control) 0) control
    (option control * 32 + next_register n (option control) (control % 32))

-- ---- blinkers: 0 0 0 I 0 B2 B1 B0

abbrev pub blinker_legal : ℕ → Bool
blinker_legal control = eqb (control / 32) 0 && eqb (control / 8 % 2) 0 && leb (control % 8) 6

-- with I = 1 one register further, from 6 to 0; with I = 0 it stays
abbrev pub blinker_moved : ℕ → ℕ
blinker_moved control =
    cond (eqb (control / 16 % 2) 0) control
    (cond (leb 6 (control % 8)) (control / 8 * 8) (control + 1))

-- ---- any chip

unfoldable pub control_legal : Chip → ℕ → Bool
control_legal chip control = cond (is_driver chip) (driver_legal (outputs_of chip) control) (blinker_legal control)

-- the control byte after its register was written or read
unfoldable pub control_moved : Chip → ℕ → ℕ
control_moved chip control = cond (is_driver chip) (driver_moved (outputs_of chip) control) (blinker_moved control)
