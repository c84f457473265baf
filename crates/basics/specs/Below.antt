-- A test of each number below another, and the first of which it holds.
use Rattle.std.specs.Prelude.{ℕ, zero, suc, Bool, true, not, ◌&&◌, cond, ltb}

-- whether p holds of 0, 1, .., n - 1
unfoldable pub all_below : ℕ → (ℕ → Bool) → Bool
all_below zero p = true
all_below (suc n) p = all_below n p && p n

-- whether it holds of one of them
abbrev pub any_below : ℕ → (ℕ → Bool) → Bool
any_below n p = not (all_below n (λ i. not (p i)))

-- the first number below n of which p holds; n where there is none
unfoldable pub first_below : ℕ → (ℕ → Bool) → ℕ
first_below zero p = zero
first_below (suc n) p = cond (ltb (first_below n p) n) (first_below n p) (cond (p n) n (suc n))
