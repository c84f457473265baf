-- The numbers that a call can be refused with, each with its condition (RULES, Refusals): given is the least that holds.
use Rattle.std.specs.Prelude.{ℕ, zero, suc, min, Bool, false, ◌&&◌, ◌||◌, cond, List, [], ◌∷◌, eqb}

-- a number, and whether its condition holds
pub record Refusal : Type 0 where
  pub number : ℕ
  pub holds : Bool

abbrev pub refuse : ℕ → Bool → Refusal
refuse k b = record { number = k; holds = b }

-- the lesser of two numbers, where 0 is none
unfoldable pub least : ℕ → ℕ → ℕ
least zero k = k
least (suc j) zero = suc j
least (suc j) (suc k) = suc (min j k)

-- the number of a refusal that holds; 0 where it does not
abbrev pub number_of : Refusal → ℕ
number_of r = cond r.holds r.number 0

-- the least number whose condition holds; 0 where none does
unfoldable pub code_of : List Refusal → ℕ
code_of [] = 0
code_of (r ∷ l) = least (number_of r) (code_of l)

-- what a call comes to: done where no condition holds, else refused with the code
abbrev pub outcome : {A : Type 0} → List Refusal → (ℕ → A) → A → A
outcome l refused done = cond (eqb (code_of l) 0) done (refused (code_of l))

-- whether the condition of the number k is in the list and holds
abbrev pub holds_at : List Refusal → ℕ → Bool
holds_at [] k = false
holds_at (r ∷ l) k = eqb r.number k && r.holds || holds_at l k
