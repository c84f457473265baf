-- What is kept by the greatest version of each table, in a row of 64.
use Prim.Native.Nat.{ℕ, ◌<◌}
use Rattle.std.specs.Prelude.{◌≡◌, Bool, ◌||◌, List, eqb, get_or}
use Rattle.store.specs.Saved.{newest}
use Rattle.store.specs.Kept.{is_listed}
use Rattle.store.specs.Layout.{saved_of}

abbrev pub GreatestOf : List ℕ → List ℕ → Type 0
GreatestOf store greatest = (table : ℕ) → table < 64 → get_or greatest table 0 ≡ newest table (saved_of store)

-- what a list and such a row keep
abbrev pub kept_of : List ℕ → List ℕ → ℕ → ℕ → Bool
kept_of list greatest table version = eqb version (get_or greatest table 0) || is_listed list table version
