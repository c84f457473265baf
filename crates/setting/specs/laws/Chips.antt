-- The chip of a number.
use Rattle.std.specs.Prelude.{Option, Some, None, ℕ, ◌≡◌, refl, false, eqb}
use Rattle.std.proofs.Common.{sym, true≢false, eqb-true}
use Rattle.basics.specs.laws.Logic.{holds, fails, tested}
use Rattle.chip.specs.Kinds.{number_of, chip_numbered, is_unknown}
use Rattle.chip.specs.declared.Chip.{Chip}
use Rattle.setting.specs.Reader.{known_chip}

pub known_is : (found : Option Chip) → is_unknown found ≡ false → found ≡ Some (known_chip found)
known_is (Some chip) u = refl
known_is None u = absurd (true≢false u)

pub known_number : (n : ℕ) → is_unknown (chip_numbered n) ≡ false → number_of (known_chip (chip_numbered n)) ≡ n
known_number n u =
    elim (tested (eqb n 9635)) [
      | holds a ↦ rw a (sym (eqb-true n 9635 a))
      | fails a ↦
          elim (tested (eqb n 9634)) [
            | holds b ↦ rw (a, b) (sym (eqb-true n 9634 b))
            | fails b ↦
                elim (tested (eqb n 9531)) [
                  | holds c ↦ rw (a, b, c) (sym (eqb-true n 9531 c))
                  | fails c ↦
                      elim (tested (eqb n 9551)) [
                        | holds d ↦ rw (a, b, c, d) (sym (eqb-true n 9551 d))
                        | fails d ↦ absurd (true≢false (rw (a, b, c, d) at u))
                      ]
                ]
          ]
    ]
