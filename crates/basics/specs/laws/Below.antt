-- A test of each number below another: what a loop over them starts with, what a turn adds, what it ends with; what it says of each; and the first of which it holds.
use Prim.Native.Nat.{ℕ, zero, suc, ◌+◌, ◌≤◌, ◌<◌}
use Rattle.std.specs.Prelude.{◌≡◌, Bool, true, false, ◌&&◌, ltb}
use Rattle.std.proofs.Math.Path.{refl}
use Rattle.std.proofs.Common.{sym, add-one, not-suc-le-zero, le_of_suc-le-suc, eq-or-lt_of_le, arith}
use Rattle.std.proofs.Math.Logic.{⊎_elim}
use Rattle.std.proofs.Math.Bool.{not, and-false}
use Rattle.std.proofs.Math.Nat.{suc_inj}
use borrow.Author.Tests.{lt-ltb, le-ltb, ltb-true, not-true}
use Rattle.basics.specs.Below.{all_below, first_below}
use Rattle.basics.specs.laws.Logic.{tested, holds, fails, and_left, and_right}

module _ (p : ℕ → Bool) where
  pub below_none : all_below 0 p ≡ true
  unfolding all_below
  below_none = refl

  pub below_more : (i : ℕ) → all_below i p ≡ true → p i ≡ true → all_below (i + 1) p ≡ true
  unfolding all_below
  below_more i e q = rw (add-one i, e, q) refl

  pub below_done : (i n : ℕ) → i ≤ n → n ≤ i → all_below i p ≡ true → true ≡ all_below n p
  below_done i n h k e = let q : n ≡ i = omega arith in rw q (sym e)

  -- what holds of all holds of each
  pub below_at : (i n : ℕ) → i < n → all_below n p ≡ true → p i ≡ true
  unfolding all_below
  below_at i zero h e = absurd (not-suc-le-zero h)
  below_at i (suc n) h e =
      ⊎_elim (λ (q : suc i ≡ suc n). rw (suc_inj q) (and_right (all_below n p) (p n) e))
      (λ (l : suc i < suc n). below_at i n (le_of_suc-le-suc l) (and_left (all_below n p) (p n) e)) (eq-or-lt_of_le h)

  -- what holds of each holds of all
  pub below_all : (n : ℕ) → ((i : ℕ) → i < n → p i ≡ true) → all_below n p ≡ true
  unfolding all_below
  below_all zero h = refl
  below_all (suc n) h = rw (below_all n (λ i l. h i (omega arith)), h n (omega arith)) refl

  -- where one fails, not all hold
  fails_below : (i n : ℕ) → i < n → p i ≡ false → all_below n p ≡ false
  unfolding all_below
  fails_below i zero h e = absurd (not-suc-le-zero h)
  fails_below i (suc n) h e =
      ⊎_elim (λ (q : suc i ≡ suc n). rw (← suc_inj q, e) (and-false (all_below i p)))
      (λ (l : suc i < suc n). rw (fails_below i n (le_of_suc-le-suc l) e) refl) (eq-or-lt_of_le h)

  pub below_fails : (i n : ℕ) → i < n → p i ≡ false → false ≡ all_below n p
  below_fails i n h e = sym (fails_below i n h e)

-- a test of each, and another beside it, where there is one to test
pub below_and : (b : Bool) (p : ℕ → Bool) (n : ℕ) → 0 < n → all_below n (λ i. b && p i) ≡ (b && all_below n p)
below_and true p n h = refl
below_and false p n h = fails_below (λ i. false) 0 n h refl

-- two tests that agree at each
pub below_alike : (p q : ℕ → Bool) (n : ℕ) → ((i : ℕ) → i < n → p i ≡ q i) → all_below n p ≡ all_below n q
unfolding all_below
below_alike p q zero h = refl
below_alike p q (suc n) h = rw (below_alike p q n (λ i l. h i (omega arith)), h n (omega arith)) refl

-- ---- the first of which a test holds

module _ (p : ℕ → Bool) where
  -- it holds of none before it
  pub first_none : (n : ℕ) → all_below n (λ k. not (p k)) ≡ true → n ≡ first_below n p
  unfolding first_below all_below
  first_none zero a = refl
  first_none (suc n) a =
      let e = first_none n (and_left (all_below n (λ k. not (p k))) (not (p n)) a) in
      let no = not-true (p n) (and_right (all_below n (λ k. not (p k))) (not (p n)) a) in
      rw (← e, le-ltb n n (omega arith), no) refl

  pub first_here : (i n : ℕ) → i < n → all_below i (λ k. not (p k)) ≡ true → p i ≡ true → i ≡ first_below n p
  unfolding first_below
  first_here i zero h a e = absurd (omega arith)
  first_here i (suc n) h a e =
      ⊎_elim
      (λ (q : suc i ≡ suc n).
      let none : n ≡ first_below n p = rw (suc_inj q) at (first_none i a) in
      rw (← none, le-ltb n n (omega arith), ← suc_inj q, e) refl)
      (λ (l : suc i < suc n).
      let f = first_here i n (le_of_suc-le-suc l) a e in
      rw (← f, lt-ltb i n (le_of_suc-le-suc l)) refl)
      (eq-or-lt_of_le h)

  -- where there is one, it holds of the first
  pub first_holds : (n : ℕ) → first_below n p < n → p (first_below n p) ≡ true
  unfolding first_below
  first_holds zero h = absurd (omega arith)
  first_holds (suc n) h = elim (tested (ltb (first_below n p) n)) [
    | holds e ↦ rw e (first_holds n (ltb-true (first_below n p) n e))
    | fails e ↦ rw e (elim (tested (p n)) [ holds f ↦ rw f f | fails f ↦ absurd (omega (arith, rw (e, f) at h)) ])
  ]
