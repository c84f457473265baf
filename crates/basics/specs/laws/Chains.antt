-- A test of each number below another, as a chain of iterators makes it of the first elements of a list.
use Rattle.std.specs.Prelude.{◌≡◌, ℕ, zero, suc, ◌≤◌, Bool, ◌&&◌, List, take, length, get_or}
use Rattle.std.specs.List.{list_all}
use Rattle.std.proofs.Common.{◌∙◌, refl, ap, add-one, arith}
use Rattle.std.proofs.lemmas.List.Folds.{list_all_more}
use Rattle.basics.specs.Below.{all_below}

pub all_of_first : {X : Type 0} (p : X → Bool) (xs : List X) (d : X) (n : ℕ) → n ≤ length xs → list_all p (take n xs) ≡ all_below n (λ i. p (get_or xs i d))
unfolding all_below
all_of_first p xs d zero h = refl
all_of_first p xs d (suc n) h =
    rw add-one at (list_all_more p xs n d (omega arith)) ∙ ap (λ (b : Bool). b && p (get_or xs n d)) (all_of_first p xs d n (omega arith))
