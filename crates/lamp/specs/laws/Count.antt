-- The closed form of a duty: how many of the first x ticks are lit.
use Rattle.std.specs.Prelude.{ℕ, min, ◌+◌, ◌*◌, ◌/◌, ◌%◌}

-- lit for the first L ticks of each P
unfoldable pub duty_count : ℕ → ℕ → ℕ → ℕ
duty_count P L x = x / P * L + min (x % P) L
