-- When the two blinks of a blinker begin together again (RULES, Lamps).
use Rattle.std.specs.Prelude.{◌≡◌, ℕ, ◌+◌, ◌*◌, ◌/◌, ◌%◌, ◌≤◌, ◌<◌}
use Rattle.basics.specs.Divisors.{lcm_of}

-- the step at which the blinks with the prescalers S₀ and S₁ meet again
unfoldable pub common_start : ℕ → ℕ → ℕ
common_start S₀ S₁ = 256 * lcm_of (S₀ + 1) (S₁ + 1)

-- a blink with the prescaler S begins at step t: its step count is 0, and was not at the step before
abbrev pub AtStart : ℕ → ℕ → Type 0
AtStart S t = (t / (S + 1) % 256 ≡ 0) × (t % (S + 1) ≡ 0)

-- r is the first step above 0 at which both blinks begin
pub record FirstCommonStart (S₀ S₁ r : ℕ) : Type 0 where
  pub positive : 0 < r
  pub left : AtStart S₀ r
  pub right : AtStart S₁ r
  pub first : (t : ℕ) → 0 < t → AtStart S₀ t → AtStart S₁ t → r ≤ t
