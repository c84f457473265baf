-- A chip's number has four digits, and the byte of a kind stands for that kind.
use Rattle.std.specs.Prelude.{◌≡◌, refl, ◌<◌}
use Rattle.std.proofs.Common.{lit<}
use Rattle.chip.specs.Kinds.{number_of, kind_of, chip_of}
use Rattle.chip.specs.declared.Chip.{Chip}
use Rattle.chip.specs.declared.Chip.TheVariants.{Pca9635, Pca9634, Pca9531, Pca9551}

pub number_few : (chip : Chip) → number_of chip < 10000
number_few Pca9635 = lit< tt
number_few Pca9634 = lit< tt
number_few Pca9531 = lit< tt
number_few Pca9551 = lit< tt

pub chip_back : (chip : Chip) → chip_of (kind_of chip) ≡ chip
chip_back Pca9635 = refl
chip_back Pca9634 = refl
chip_back Pca9531 = refl
chip_back Pca9551 = refl
