-- The lines of an input.
use Rattle.std.specs.Prelude.{ℕ, zero, suc, ◌≡◌, cond, List, [], ◌∷◌, ◌++◌, eqb}

-- a byte in front of the first line
abbrev pub onto : ℕ → List (List ℕ) → List (List ℕ)
onto b [] = (b ∷ []) ∷ []
onto b (l ∷ ls) = (b ∷ l) ∷ ls

-- split at the byte 10; what follows the last one is a line if it has a byte
unfoldable pub lines_of : List ℕ → List (List ℕ)
lines_of [] = []
lines_of (b ∷ s) = cond (eqb b 10) ([] ∷ lines_of s) (onto b (lines_of s))

-- the place of the first line feed, or the length
unfoldable pub end_of : List ℕ → ℕ
end_of [] = zero
end_of (b ∷ s) = cond (eqb b 10) zero (suc (end_of s))

-- s ends with a line, so that what follows it has lines of its own
pub record Whole (s : List ℕ) : Type 0 where
  pub lines : (t : List ℕ) → lines_of (s ++ t) ≡ lines_of s ++ lines_of t
