-- The number that `common_start` gives is the first step above 0 at which both blinks begin, for any two prescalers.
use Rattle.std.specs.Prelude.{ℕ, ◌+◌, ◌*◌, ◌<◌}
use Rattle.std.proofs.Math.Nat.{mul-dvd-mul_left}
use Rattle.std.proofs.Common.{arith}
use Rattle.basics.specs.Divisors.{lcm_of}
use Rattle.basics.specs.laws.Divisors.{lcm_is}
use Rattle.blink.specs.Start.{common_start, FirstCommonStart}
use Rattle.blink.specs.laws.Start.{least_256, starts, started}

pub common_start_first : (S₀ S₁ : ℕ) → FirstCommonStart S₀ S₁ (common_start S₀ S₁)
unfolding common_start
common_start_first S₀ S₁ =
    let a = S₀ + 1 in
    let b = S₁ + 1 in
    let A : 0 < a = omega arith in
    let B : 0 < b = omega arith in
    let L = lcm_is a b A B in
    record {
      positive = omega (arith, L.positive);
      left = starts S₀ (256 * lcm_of a b) (mul-dvd-mul_left a 256 L.left);
      right = starts S₁ (256 * lcm_of a b) (mul-dvd-mul_left b 256 L.right);
      first = λ t T u v. least_256 a b A B t T (started S₀ t u) (started S₁ t v);
    }
