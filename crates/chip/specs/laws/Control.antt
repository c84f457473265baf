-- A legal control byte is a byte: of a driver by its option, of a blinker by its first three bits. The register to which the pointer moves has five bits.
use Rattle.std.specs.Prelude.{◌≡◌, true, ◌&&◌, ◌||◌, ℕ, ◌/◌, ◌≤◌, ◌<◌, leb, eqb}
use Rattle.std.proofs.Common.{⊎_elim, arith, lit<, eqb-true, leb-true, leb-false}
use Rattle.basics.specs.laws.Logic.{tested, holds, fails, and_left, and_right, or_cases, cond_below}
use Rattle.chip.specs.Kinds.{outputs_of}
use Rattle.chip.specs.Registers.{allcalladr}
use Rattle.chip.specs.Control.{option, driver_legal, blinker_legal, option_last, next_register}
use Rattle.chip.specs.laws.Registers.{outputs_few}
use Rattle.chip.specs.declared.Chip.{Chip}

small : (o : ℕ) → (eqb o 0 || leb 4 o && leb o 7) ≡ true → o < 8
small o h =
    ⊎_elim (λ z. omega (arith, eqb-true o 0 z)) (λ l. omega (arith, leb-true o 7 (and_right (leb 4 o) (leb o 7) l)))
    (or_cases (eqb o 0) (leb 4 o && leb o 7) h)

module _ (control : ℕ) where
  pub driver_byte : (n : ℕ) → driver_legal n control ≡ true → control < 256
  driver_byte n h = omega (arith, small (option control) (and_left _ _ h))

  pub blinker_byte : blinker_legal control ≡ true → control < 256
  blinker_byte h = omega (arith, eqb-true (control / 32) 0 (and_left _ _ (and_left _ _ h)))

-- the pointer's next register has five bits, so that the option keeps its own
pub next_register_below : (chip : Chip) (o r : ℕ) → next_register (outputs_of chip) o r < 32
next_register_below chip o r =
    let few : outputs_of chip ≤ 16 = outputs_few chip in
    cond_below (eqb r (option_last (outputs_of chip) o))
    (cond_below (eqb o 5) (lit< tt) (cond_below (eqb o 6) (omega arith) (cond_below (eqb o 7) (lit< tt) (lit< tt))))
    (elim (tested (leb (allcalladr (outputs_of chip)) r)) [
      | holds e ↦ rw e (lit< tt)
      | fails e ↦ rw e (omega (arith, leb-false (allcalladr (outputs_of chip)) r e))
    ])
