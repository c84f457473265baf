-- What a test says of its parts, and the case distinction by a test.
use Rattle.std.specs.Prelude.{◌≡◌, refl, ◌⊎◌, Bool, true, false, ◌&&◌, ◌||◌, cond, ℕ, ◌≤◌, ◌<◌, ltb}
use Rattle.std.proofs.Common.{inl, inr, true≢false, ltb-true, ltb-false}
use Rattle.std.proofs.lemmas.Bool.{false≢true}

-- a test, with what it says: a proof by cases is elim (tested b) [ holds e ↦ .. | fails e ↦ .. ]
pub data Tested (b : Bool) : Type 0 where
  holds : b ≡ true → Tested b
  fails : b ≡ false → Tested b

pub tested : (b : Bool) → Tested b
tested true = holds refl
tested false = fails refl

pub lt_or_ge : (a b : ℕ) → (a < b) ⊎ (b ≤ a)
lt_or_ge a b = elim (tested (ltb a b)) [ holds e ↦ inl (ltb-true a b e) | fails e ↦ inr (ltb-false a b e) ]

pub and_left : (a b : Bool) → (a && b) ≡ true → a ≡ true
and_left true b e = refl
and_left false b e = e

pub and_right : (a b : Bool) → (a && b) ≡ true → b ≡ true
and_right true b e = e
and_right false b e = absurd (false≢true e)

pub or_cases : (a b : Bool) → (a || b) ≡ true → (a ≡ true) ⊎ (b ≡ true)
or_cases true b e = inl refl
or_cases false b e = inr e

pub neither : (a b : Bool) → (a || b) ≡ false → (a ≡ false) × (b ≡ false)
neither true b e = (e, absurd (true≢false e))
neither false b e = (refl, e)

pub cond_below : {k : ℕ} (b : Bool) {x y : ℕ} → x < k → y < k → cond b x y < k
cond_below true h h' = h
cond_below false h h' = h'

-- a function of one of two is that of each
pub cond_of : {A B : Type 0} (f : A → B) (b : Bool) (x y : A) → f (cond b x y) ≡ cond b (f x) (f y)
cond_of f true x y = refl
cond_of f false x y = refl
