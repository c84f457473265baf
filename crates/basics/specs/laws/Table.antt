-- A rule over all numbers below a bound, shown by one test that is computed at each of them.
use Rattle.std.specs.Prelude.{◌≡◌, refl, Bool, true, false, not, ◌&&◌, ◌||◌, ℕ, zero, suc, ◌<◌}
use Rattle.std.proofs.Common.{⊎_elim, le_of_suc-le-suc, not-suc-le-zero, eq-or-lt_of_le}
use Rattle.std.specs.Bool.{beq}
use Rattle.std.proofs.lemmas.Bool.{false≢true}
use Rattle.std.proofs.Math.Nat.{suc_inj}
use Rattle.basics.specs.laws.Logic.{and_left, and_right}

-- the test passes at each number below n
abbrev pub all_below : ℕ → (ℕ → Bool) → Bool
all_below zero p = true
all_below (suc n) p = p n && all_below n p

pub at : (n : ℕ) (p : ℕ → Bool) → all_below n p ≡ true → (k : ℕ) → k < n → p k ≡ true
at zero p t k h = absurd (not-suc-le-zero h)
at (suc n) p t k h =
    ⊎_elim (λ (e : suc k ≡ suc n). rw (suc_inj e) (and_left (p n) (all_below n p) t))
    (λ (l : suc k < suc n). at n p (and_right (p n) (all_below n p) t) k (le_of_suc-le-suc l)) (eq-or-lt_of_le h)

same : (a b : Bool) → beq a b ≡ true → a ≡ b
same true true t = refl
same false false t = refl
same true false t = absurd (false≢true t)
same false true t = absurd (false≢true t)

follows : (a b : Bool) → (not a || b) ≡ true → a ≡ true → b ≡ true
follows true b t e = t
follows false b t e = absurd (false≢true e)

module _ (n : ℕ) (p q : ℕ → Bool) where
  -- two tests that are computed to agree are equal
  pub agree : all_below n (λ x. beq (p x) (q x)) ≡ true → (k : ℕ) → k < n → p k ≡ q k
  agree t k h = same (p k) (q k) (at n (λ x. beq (p x) (q x)) t k h)

  -- a test that is computed to follow from another
  pub follow : all_below n (λ x. not (p x) || q x) ≡ true → (k : ℕ) → k < n → p k ≡ true → q k ≡ true
  follow t k h = follows (p k) (q k) (at n (λ x. not (p x) || q x) t k h)
