-- Which hardware addresses a chip can have (RULES, Refusals, 2).
use Rattle.std.specs.Prelude.{Option, Some, None, ℕ, Bool, false, not, ◌&&◌, cond, leb, eqb}
use Rattle.chip.specs.Kinds.{is_driver}
use Rattle.chip.specs.declared.Chip.{Chip}

-- drivers: 7 bits, and neither 3 (the software reset call) nor 112; blinkers: the pins A2..A0
unfoldable pub address_allowed : Chip → ℕ → Bool
address_allowed chip address =
    cond (is_driver chip)
    (not (eqb address 3) && not (eqb address 112) && leb address 127)
    (leb address 7)

-- an address that the chip of a number cannot have
abbrev pub is_barred : Option Chip → ℕ → Bool
is_barred None address = false
is_barred (Some chip) address = not (address_allowed chip address)
