-- Laws of time: a count after a wait, and a bare number in the device's own unit.
use Rattle.std.specs.Prelude.{◌≡◌, Bool, true, false, ℕ, ◌+◌, leb}
use Rattle.std.proofs.Common.{sym, ◌∙◌, arith, leb-true, le-leb}
use Rattle.basics.specs.laws.Logic.{tested, holds, fails}
use Rattle.lamp.specs.Window.{count_limit}
use Rattle.lamp.specs.Duration.{amount}
use Rattle.chip.specs.Kinds.{is_driver}
use Rattle.chip.specs.declared.Chip.{Chip}
use Rattle.device.specs.Wait.{overruns, is_too_long, advanced, is_own, own_duration, overruns_for, is_too_long_for}
use Rattle.device.specs.declared.Device.{Device}

-- a count advances where the test of the limit holds, and stays where not
module _ (t w : ℕ) (b : Bool) (e : b ≡ leb (t + w) count_limit) where
  pub within_advanced : b ≡ true → t + w ≡ advanced t w
  unfolding advanced
  within_advanced h = rw (sym e ∙ h)

  pub beyond_stays : b ≡ false → t ≡ advanced t w
  unfolding advanced
  beyond_stays h = rw (sym e ∙ h)

-- a count is within the limit as it was before
pub advanced_within : (t w : ℕ) → leb (advanced t w) count_limit ≡ leb t count_limit
unfolding advanced
advanced_within t w =
    elim (tested (leb (t + w) count_limit)) [
      | holds e ↦ rw (e, e, le-leb t count_limit (omega (arith, leb-true (t + w) count_limit e)))
      | fails e ↦ rw e
    ]

-- a bare number in a chip's own unit is in its own unit, and is that number
pub own_is_own : (chip : Chip) (n : ℕ) → is_own chip (own_duration chip n) ≡ true
own_is_own chip n = elim (tested (is_driver chip)) [ holds e ↦ rw e e | fails e ↦ rw e (rw e) ]

pub own_amount : (chip : Chip) (n : ℕ) → amount (own_duration chip n) ≡ n
own_amount chip n = elim (tested (is_driver chip)) [ holds e ↦ rw e | fails e ↦ rw e ]

-- and so it overruns as the number does
module _ (d : Device) (n : ℕ) where
  pub bare_overruns : overruns_for d (own_duration d.chip n) ≡ overruns d n
  bare_overruns = rw (own_is_own d.chip n, own_amount d.chip n)

  pub bare_too_long : is_too_long_for d (own_duration d.chip n) ≡ is_too_long d n
  bare_too_long = rw (bare_overruns, own_amount d.chip n)
