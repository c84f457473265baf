-- The four chips: their numbers, which are drivers, and how many outputs each has (RULES, Chips).
use Rattle.std.specs.Prelude.{◌≡◌, Bool, true, false, cond, ℕ, eqb, Option, Some, None, is_none, Result}
use Rattle.std.specs.Result.{result_ok}
use Rattle.chip.specs.declared.Chip.{Chip}
use Rattle.chip.specs.declared.Chip.TheVariants.{Pca9635, Pca9634, Pca9531, Pca9551}
use Rattle.chip.specs.declared.UnknownChip.{UnknownChip}

abbrev pub number_of : Chip → ℕ
number_of Pca9635 = 9635
number_of Pca9634 = 9634
number_of Pca9531 = 9531
number_of Pca9551 = 9551

-- the chip with this number
abbrev pub chip_numbered : ℕ → Option Chip
chip_numbered n =
    cond (eqb n 9635) (Some Pca9635)
    (cond (eqb n 9634) (Some Pca9634)
    (cond (eqb n 9531) (Some Pca9531)
    (cond (eqb n 9551) (Some Pca9551) None)))

abbrev pub is_unknown : Option Chip → Bool
is_unknown found = is_none found

-- what the conversion from a number gives
abbrev pub Numbered : ℕ → Result Chip UnknownChip → Type 0
Numbered n r = result_ok r ≡ chip_numbered n

-- the byte that stands for a kind where boards are kept in bytes, and the kind that any byte stands for
abbrev pub kind_of : Chip → ℕ
kind_of Pca9635 = 0
kind_of Pca9634 = 1
kind_of Pca9531 = 2
kind_of Pca9551 = 3

abbrev pub chip_of : ℕ → Chip
chip_of kind = cond (eqb kind 0) Pca9635 (cond (eqb kind 1) Pca9634 (cond (eqb kind 2) Pca9531 Pca9551))

-- drivers; the others are blinkers (RULES, Chips)
abbrev pub is_driver : Chip → Bool
is_driver Pca9635 = true
is_driver Pca9634 = true
is_driver Pca9531 = false
is_driver Pca9551 = false

abbrev pub outputs_of : Chip → ℕ
outputs_of Pca9635 = 16
outputs_of Pca9634 = 8
outputs_of Pca9531 = 8
outputs_of Pca9551 = 8
