-- The reader of a setting's text, line by line from the left. What it comes to is in `Promises`.
use Rattle.std.specs.Prelude.{Option, None, Some, Result, Ok, Err, ℕ, zero, suc, ◌+◌, ◌-◌, ◌%◌, Bool, true, false, not, ◌&&◌, cond, List, [], ◌∷◌, ◌++◌, leb, eqb, replicate}
use Rattle.chip.specs.Kinds.{chip_numbered, is_unknown}
use Rattle.chip.specs.Registers.{first_writable, writables}
use Rattle.chip.specs.Addresses.{is_barred}
use Rattle.chip.specs.declared.Chip.{Chip}
use Rattle.chip.specs.declared.Chip.TheVariants.{Pca9635}
use Rattle.refusals.specs.Refusals.{Refusal, refuse, outcome}
use Rattle.refusals.specs.declared.Reason.{Reason}
use Rattle.refusals.specs.declared.Reason.TheVariants.{UnknownKind, WrongAddress, Malformed}
use Rattle.text.specs.Text.{text}
use Rattle.text.specs.Read.{Rest, rest, number_in, is_end, key_of, field_of}
use Rattle.setting.specs.declared.Setting.{Setting}

abbrev pub is_read : Option Rest → Bool
is_read (Some (rest l n)) = true
is_read None = false

-- past a key, a number and a line feed
unfoldable pub line_of : List ℕ → Option Rest → Option Rest
line_of key s = key_of (text "\n") (field_of key s)

-- past the line of register r, which has a byte
unfoldable pub register_of : ℕ → Option Rest → Option Rest
register_of r s =
    let number = field_of (text "r") s in
    let value = line_of (text "=") number in
    cond (eqb (number_in number) r && leb (number_in value) 255) value None

-- past the lines of n registers, from register r on, and the values in them
unfoldable pub registers_of : ℕ → ℕ → Option Rest → Option Rest
registers_of r zero s = s
registers_of r (suc n) s = register_of (r + n) (registers_of r n s)

unfoldable pub values_of : ℕ → ℕ → Option Rest → List ℕ
values_of r zero s = []
values_of r (suc n) s = values_of r n s ++ number_in (registers_of r (suc n) s) ∷ []

-- past the line of the kind, and past that of the address behind it
abbrev pub kind_of : List ℕ → Option Rest
kind_of t = line_of (text "chip=") (Some (rest t 0))

abbrev pub address_of : List ℕ → Option Rest
address_of t = line_of (text "addr=") (kind_of t)

-- the chip that is named; any, where none is
abbrev pub chip_in : List ℕ → Option Chip
chip_in t = chip_numbered (number_in (kind_of t))

abbrev pub known_chip : Option Chip → Chip
known_chip (Some chip) = chip
known_chip None = Pca9635

abbrev pub unknown_in : List ℕ → Bool
unknown_in t = is_read (kind_of t) && is_unknown (chip_in t)

abbrev pub barred_in : List ℕ → Bool
barred_in t = is_read (address_of t) && is_barred (chip_in t) (number_in (address_of t))

-- past the lines of all writable registers of a chip, and the values in them with zeros behind
abbrev pub all_registers : Chip → Option Rest → Option Rest
all_registers chip s = registers_of (first_writable chip) (writables chip) s

abbrev pub all_values : Chip → Option Rest → List ℕ
all_values chip s = values_of (first_writable chip) (writables chip) s ++ replicate (28 - writables chip) 0

-- 1 an unknown kind; 2 an address that the kind cannot have; 4 any other text that is none
unfoldable pub text_refusals : List ℕ → List Refusal
text_refusals t =
    refuse 1 (unknown_in t)
    ∷ refuse 2 (barred_in t)
    ∷ refuse 4 (not (is_end (all_registers (known_chip (chip_in t)) (address_of t))))
    ∷ []

unfoldable pub setting_of : List ℕ → Setting
setting_of t =
    record {
      chip = known_chip (chip_in t);
      addr = number_in (address_of t) % 256;
      values = all_values (known_chip (chip_in t)) (address_of t);
    }

-- the reason with one of these numbers
abbrev pub reason_of : ℕ → Reason
reason_of k = cond (eqb k 1) UnknownKind (cond (eqb k 2) WrongAddress Malformed)

-- the setting of a text, or the reason with the least number
abbrev pub reading_of : List ℕ → Result Setting Reason
reading_of t = outcome (text_refusals t) (λ k. Err (reason_of k)) (Ok (setting_of t))
