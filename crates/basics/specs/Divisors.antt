-- The greatest common divisor and the least common multiple.
use Rattle.std.specs.Prelude.{cond, ℕ, zero, suc, ◌*◌, ◌/◌, ◌%◌, eqb}

-- Euclid's algorithm, in at most n steps
unfoldable pub euclid : ℕ → ℕ → ℕ → ℕ
euclid zero a b = a
euclid (suc n) a b = cond (eqb b 0) a (euclid n b (a % b))

-- the greatest common divisor: each remainder is smaller than the last, so b steps are enough
unfoldable pub gcd_of : ℕ → ℕ → ℕ
gcd_of a b = euclid b a b

-- the least common multiple of numbers above 0
unfoldable pub lcm_of : ℕ → ℕ → ℕ
lcm_of a b = a / gcd_of a b * b
