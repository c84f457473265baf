-- An address that a chip can have is a byte.
use Rattle.std.specs.Prelude.{Option, Some, None, ◌≡◌, false, not, ◌&&◌, ℕ, ◌<◌, leb, eqb}
use Rattle.std.proofs.Common.{true≢false, arith, leb-true}
use Rattle.std.proofs.lemmas.Bool.{not-false}
use Rattle.basics.specs.laws.Logic.{holds, fails, tested, and_right}
use Rattle.chip.specs.Kinds.{is_unknown, is_driver}
use Rattle.chip.specs.Addresses.{address_allowed, is_barred}
use Rattle.chip.specs.declared.Chip.{Chip}

pub allowed_byte : (found : Option Chip) (address : ℕ) → is_unknown found ≡ false → is_barred found address ≡ false → address < 256
unfolding address_allowed
allowed_byte None address u e = absurd (true≢false u)
allowed_byte (Some chip) address u e =
    let h = not-false (address_allowed chip address) e in
    elim (tested (is_driver chip)) [
      | holds t ↦ omega (arith, leb-true address 127 (and_right (not (eqb address 3) && not (eqb address 112)) (leb address 127) (rw t at h)))
      | fails t ↦ omega (arith, leb-true address 7 (rw t at h))
    ]
