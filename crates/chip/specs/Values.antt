-- What registers hold after reset, what a write leaves in one, and what a stored byte reads as (RULES, Driver registers and Blinker registers).
use Rattle.std.specs.Prelude.{ℕ, ◌+◌, ◌*◌, ◌/◌, ◌%◌, cond, List, [], ◌∷◌, ◌++◌, leb, eqb, replicate}
use Rattle.chip.specs.Kinds.{is_driver, outputs_of}
use Rattle.chip.specs.Registers.{mode1, mode2, subadr1, input, pointed}
use Rattle.chip.specs.Control.{option}
use Rattle.chip.specs.declared.Chip.{Chip}
use Rattle.chip.specs.declared.Chip.TheVariants.{Pca9635, Pca9634, Pca9531, Pca9551}

-- ---- after reset

abbrev pub reset_control : Chip → ℕ
reset_control chip = cond (is_driver chip) 128 0

-- a driver with n outputs: MODE1 91h, MODE2 05h; the PWMs; GRPPWM FFh, GRPFREQ; LEDOUT; SUBADR1-3 E2h, E4h, E8h, ALLCALLADR E0h
abbrev pub driver_resets : ℕ → List ℕ
driver_resets n =
    145 ∷ 5 ∷ replicate n 0
    ++ 255 ∷ 0 ∷ replicate (n / 4) 0
    ++ 226 ∷ 228 ∷ 232 ∷ 224 ∷ []

-- a blinker: INPUT, PSC0, PWM0, PSC1, PWM1, LS0, LS1
abbrev pub blinker_resets : ℕ → ℕ → List ℕ
blinker_resets psc ls = 0 ∷ psc ∷ 128 ∷ psc ∷ 128 ∷ ls ∷ ls ∷ []

abbrev pub chip_resets : Chip → List ℕ
chip_resets Pca9635 = driver_resets 16
chip_resets Pca9634 = driver_resets 8
chip_resets Pca9531 = blinker_resets 0 0
chip_resets Pca9551 = blinker_resets 255 85

-- a record holds 28 registers; those that a chip does not have are 0
unfoldable pub reset_registers : Chip → List ℕ
reset_registers Pca9635 = chip_resets Pca9635
reset_registers Pca9634 = chip_resets Pca9634 ++ replicate 10 0
reset_registers Pca9531 = chip_resets Pca9531 ++ replicate 21 0
reset_registers Pca9551 = chip_resets Pca9551 ++ replicate 21 0

-- ---- read-only bits

-- the bits of a driver's register that can be written: MODE1 4..0, MODE2 5..0, address registers 7..1, of any other register all
abbrev pub writable_bits : ℕ → ℕ → ℕ → ℕ
writable_bits n r byte =
    cond (eqb r mode1) (byte % 32)
    (cond (eqb r mode2) (byte % 64)
    (cond (leb (subadr1 n) r) (byte / 2 * 2) byte))

-- what a register holds after a byte was written to it: read-only bits ignore writes and are stored as 0, and INPUT keeps what it holds
unfoldable pub stored_byte : Chip → ℕ → ℕ → ℕ → ℕ
stored_byte chip r old byte = cond (is_driver chip) (writable_bits (outputs_of chip) r byte) (cond (eqb r input) old byte)

-- what the register at which the control byte points reads as when it holds byte: MODE1 bits 7..5 are the control byte's, other read-only bits are 0
unfoldable pub read_byte : Chip → ℕ → ℕ → ℕ
read_byte chip control byte =
    cond (is_driver chip)
    (cond (eqb (pointed chip control) mode1) (byte % 32 + option control * 32) (writable_bits (outputs_of chip) (pointed chip control) byte))
    byte
