-- The first n elements of a list: a function at each, a test of each, a byte of each.
use Rattle.std.specs.Prelude.{ℕ, Bool, List, ◌++◌, map, fold, take, drop}
use Rattle.std.specs.List.{list_all}
use Rattle.std.specs.Int.Bits.{bit_and}

-- f at each of the first n elements; the others stay
unfoldable pub map_first : {A : Type 0} → ℕ → (A → A) → List A → List A
map_first n f l = map f (take n l) ++ drop n l

-- whether p holds of each element
abbrev pub all : {A : Type 0} → (A → Bool) → List A → Bool
all p l = list_all p l

-- whether p holds of each of the first n elements
unfoldable pub all_first : {A : Type 0} → ℕ → (A → Bool) → List A → Bool
all_first n p l = all p (take n l)

abbrev pub and_of : {A : Type 0} → (A → ℕ) → List A → ℕ → ℕ
and_of f l byte = fold (λ b x. bit_and b (f x)) byte l

-- the bitwise AND of a byte of each of the first n elements; 255 of none
unfoldable pub and_first : {A : Type 0} → ℕ → (A → ℕ) → List A → ℕ
and_first n f l = and_of f (take n l) 255
