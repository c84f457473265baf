-- What the definitions of this crate come to: the rules' tables as they are printed, and that the pointer never leaves the chip's registers.
use Rattle.std.specs.Prelude.{Some, ◌≡◌, refl, Bool, true, not, ◌&&◌, ◌||◌, ℕ, ◌<◌, leb}
use Rattle.basics.specs.laws.Table.{all_below, agree, follow}
use Rattle.chip.specs.Kinds.{number_of, chip_numbered}
use Rattle.chip.specs.Registers.{register_map}
use Rattle.chip.specs.Control.{control_legal, control_moved}
use Rattle.chip.specs.Values.{reset_control}
use Rattle.chip.specs.laws.Control.{driver_byte, blinker_byte}
use Rattle.chip.specs.declared.Chip.{Chip}
use Rattle.chip.specs.declared.Chip.TheVariants.{Pca9635, Pca9634, Pca9531, Pca9551}

-- 16 and 8 outputs give the two columns of the rules' register map
pub columns :
    (register_map 16 ≡ record { grppwm = 18; grpfreq = 19; ledout0 = 20; subadr1 = 24; allcalladr = 27 })
    × (register_map 8 ≡ record { grppwm = 10; grpfreq = 11; ledout0 = 12; subadr1 = 14; allcalladr = 17 })
columns = (refl, refl)

-- a chip is found by its number
pub found_by_number : (chip : Chip) → chip_numbered (number_of chip) ≡ Some chip
found_by_number Pca9635 = refl
found_by_number Pca9634 = refl
found_by_number Pca9531 = refl
found_by_number Pca9551 = refl

abbrev within : ℕ → ℕ → ℕ → Bool
within low high x = leb low x && leb x high

-- the legal control bytes of each chip, as ranges
abbrev pub listed_control : Chip → ℕ → Bool
listed_control Pca9635 x = within 0 27 x || within 128 155 x || within 160 187 x || within 192 219 x || within 224 251 x
listed_control Pca9634 x = within 0 17 x || within 128 145 x || within 160 177 x || within 192 209 x || within 224 241 x
listed_control Pca9531 x = within 0 6 x || within 16 22 x
listed_control Pca9551 x = within 0 6 x || within 16 22 x

-- a control byte is legal exactly where it is listed
pub legal_listed : (chip : Chip) (control : ℕ) → control < 256 → control_legal chip control ≡ listed_control chip control
unfolding control_legal
legal_listed Pca9635 = agree 256 (control_legal Pca9635) (listed_control Pca9635) refl
legal_listed Pca9634 = agree 256 (control_legal Pca9634) (listed_control Pca9634) refl
legal_listed Pca9531 = agree 256 (control_legal Pca9531) (listed_control Pca9531) refl
legal_listed Pca9551 = agree 256 (control_legal Pca9551) (listed_control Pca9551) refl

-- a legal control byte is a byte
pub legal_byte : (chip : Chip) (control : ℕ) → control_legal chip control ≡ true → control < 256
unfolding control_legal
legal_byte Pca9635 control h = driver_byte control 16 h
legal_byte Pca9634 control h = driver_byte control 8 h
legal_byte Pca9531 control h = blinker_byte control h
legal_byte Pca9551 control h = blinker_byte control h

-- from a legal control byte the pointer moves to a legal one
pub moved_legal : (chip : Chip) (control : ℕ) → control_legal chip control ≡ true → control_legal chip (control_moved chip control) ≡ true
unfolding control_legal control_moved
moved_legal chip control h = follow 256 (control_legal chip) (λ x. control_legal chip (control_moved chip x)) (computed chip) control (legal_byte chip control h) h
  where
    computed : (chip : Chip) → all_below 256 (λ x. not (control_legal chip x) || control_legal chip (control_moved chip x)) ≡ true
    computed Pca9635 = refl
    computed Pca9634 = refl
    computed Pca9531 = refl
    computed Pca9551 = refl

-- a chip's control byte is legal after reset
pub reset_legal : (chip : Chip) → control_legal chip (reset_control chip) ≡ true
unfolding control_legal
reset_legal Pca9635 = refl
reset_legal Pca9634 = refl
reset_legal Pca9531 = refl
reset_legal Pca9551 = refl
