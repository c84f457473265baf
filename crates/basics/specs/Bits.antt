-- A number's bits, and a set as a number: bit i for what stands at position i.
use Rattle.std.specs.Prelude.{ℕ, ◌+◌, ◌/◌, ◌%◌, ◌^◌, Bool, cond, List, [], ◌∷◌, eqb, take}

-- bit k of a number is set
abbrev pub bit : ℕ → ℕ → Bool
bit k n = eqb (n / 2 ^ k % 2) 1

abbrev pub mask : {A : Type 0} → ℕ → (A → Bool) → List A → ℕ
mask weight p [] = 0
mask weight p (x ∷ l) = cond (p x) weight 0 + mask (weight + weight) p l

-- the set of the positions below n at which p holds
unfoldable pub mask_first : {A : Type 0} → ℕ → (A → Bool) → List A → ℕ
mask_first n p l = mask 1 p (take n l)
