-- What it is to write into a lent buffer.
use Rattle.std.specs.Prelude.{ℕ, ◌+◌, ◌≤◌, ◌≡◌, List, ◌++◌, length, take, drop}

-- s is written from at on, up to r, in place of what was there, and nothing else changes
pub record Written (old : List ℕ) (at : ℕ) (s new : List ℕ) (r : ℕ) : Type 0 where
  pub room : at + length s ≤ length old
  pub text : new ≡ take at old ++ (s ++ drop (at + length s) old)
  pub stop : r ≡ at + length s
