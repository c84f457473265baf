-- Quotients and remainders.
use Rattle.std.specs.Prelude.{◌≡◌, ℕ, ◌+◌, ◌*◌, ◌/◌, ◌%◌, ◌<◌}
use Rattle.std.proofs.Math.Arith.{digits_div, digits_mod}

-- a number's quotient and remainder are those that make it up
pub div_mod_of : (q : ℕ) {n r x : ℕ} → r < n → x ≡ q * n + r → (x / n ≡ q) × (x % n ≡ r)
div_mod_of q h e = (rw e (digits_div q h), rw e (digits_mod q h))
