-- Every chip has at most 16 outputs, and so fewer than 28 registers up to SUBADR1, and at most 28 that can be written.
use Rattle.std.specs.Prelude.{◌+◌, ◌≤◌, ◌<◌}
use Rattle.std.proofs.Common.{arith, lit≤}
use Rattle.chip.specs.Kinds.{outputs_of}
use Rattle.chip.specs.Registers.{subadr1, first_writable, writables}
use Rattle.chip.specs.declared.Chip.{Chip}
use Rattle.chip.specs.declared.Chip.TheVariants.{Pca9635, Pca9634, Pca9531, Pca9551}

pub outputs_few : (chip : Chip) → outputs_of chip ≤ 16
outputs_few Pca9635 = lit≤ tt
outputs_few Pca9634 = lit≤ tt
outputs_few Pca9531 = lit≤ tt
outputs_few Pca9551 = lit≤ tt

pub registers_few : (chip : Chip) → subadr1 (outputs_of chip) < 28
registers_few chip = omega (arith, outputs_few chip)

pub writables_few : (chip : Chip) → (writables chip ≤ 28) × (first_writable chip ≤ 1) × (first_writable chip + writables chip ≤ 28)
writables_few Pca9635 = (lit≤ tt, lit≤ tt, lit≤ tt)
writables_few Pca9634 = (lit≤ tt, lit≤ tt, lit≤ tt)
writables_few Pca9531 = (lit≤ tt, lit≤ tt, lit≤ tt)
writables_few Pca9551 = (lit≤ tt, lit≤ tt, lit≤ tt)
