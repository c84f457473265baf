-- The lesser of two codes, by their order.
use Rattle.std.specs.Prelude.{◌≡◌, refl, ◌⊎◌, ℕ, zero, suc, min, ◌≤◌, ◌<◌}
use Rattle.std.proofs.Common.{arith, ⊎_elim}
use Rattle.refusals.specs.Refusals.{least}

pub first_lesser : (j k : ℕ) → 0 < j → j < k → j ≡ least j k
unfolding least
first_lesser zero k p h = absurd (omega arith)
first_lesser (suc j) zero p h = absurd (omega arith)
first_lesser (suc j) (suc k) p h = omega arith

pub second_lesser : (j k : ℕ) → 0 < k → k ≤ j → k ≡ least j k
unfolding least
second_lesser j zero p h = absurd (omega arith)
second_lesser zero (suc k) p h = absurd (omega arith)
second_lesser (suc j) (suc k) p h = omega arith
