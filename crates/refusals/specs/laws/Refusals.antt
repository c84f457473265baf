-- The code of a list of refusals: how it is put together, what a code of 0 says, and that any other is the least number whose condition holds.
use Rattle.std.specs.Prelude.{◌≡◌, refl, ◌⊎◌, Bool, true, false, not, ◌&&◌, ◌||◌, List, [], ◌∷◌, ◌++◌, ℕ, zero, suc, min, ◌≤◌, ◌<◌, ltb, eqb}
use Rattle.std.proofs.Common.{sym, ap, ◌∙◌, inl, inr, ⊎_elim, arith, ltb-true, eqb-true, eq-eqb}
use Rattle.std.proofs.Math.Bool.{and-false, or-true, or_assoc}
use Rattle.std.proofs.lemmas.Bool.{false≢true, eqb-false, not-true}
use Rattle.basics.specs.laws.Logic.{holds, fails, tested, lt_or_ge, and_left, and_right, or_cases}
use Rattle.refusals.specs.Refusals.{Refusal, refuse, least, number_of, code_of, holds_at}

-- ---- the lesser of two numbers, where 0 is none

pub least_zero : (j : ℕ) → least j 0 ≡ j
unfolding least
least_zero zero = refl
least_zero (suc j) = refl

pub least_min : (j k : ℕ) → (j ≡ 0 → ⊥) → (k ≡ 0 → ⊥) → least j k ≡ min j k
unfolding least
least_min zero k p q = absurd (p refl)
least_min (suc j) zero p q = absurd (q refl)
least_min (suc j) (suc k) p q = omega arith

least_assoc : (i j k : ℕ) → least (least i j) k ≡ least i (least j k)
unfolding least
least_assoc zero j k = refl
least_assoc (suc i) zero k = refl
least_assoc (suc i) (suc j) zero = refl
least_assoc (suc i) (suc j) (suc k) = let e : min (min i j) k ≡ min i (min j k) = omega arith in ap suc e

least_left : (j k : ℕ) → 0 < j → (0 < least j k) × (least j k ≤ j)
unfolding least
least_left zero k h = absurd (omega arith)
least_left (suc j) zero h = (omega arith, omega arith)
least_left (suc j) (suc k) h = (omega arith, omega arith)

least_right : (j k : ℕ) → 0 < k → (0 < least j k) × (least j k ≤ k)
unfolding least
least_right zero k h = (h, omega arith)
least_right (suc j) zero h = absurd (omega arith)
least_right (suc j) (suc k) h = (omega arith, omega arith)

least_either : (j k : ℕ) → (least j k ≡ j) ⊎ (least j k ≡ k)
unfolding least
least_either zero k = inr refl
least_either (suc j) zero = inl refl
least_either (suc j) (suc k) = ⊎_elim (λ h. inl (omega arith)) (λ h. inr (omega arith)) (lt_or_ge j k)

-- where the lesser is none, both are
pub least_none : (j k : ℕ) → least j k ≡ 0 → (j ≡ 0) × (k ≡ 0)
unfolding least
least_none zero k e = (refl, e)
least_none (suc j) zero e = absurd (omega arith)
least_none (suc j) (suc k) e = absurd (omega arith)

-- ---- how a code is put together

pub code_both : (l m : List Refusal) → code_of (l ++ m) ≡ least (code_of l) (code_of m)
unfolding code_of least
code_both [] m = refl
code_both (r ∷ l) m = ap (least (number_of r)) (code_both l m) ∙ sym (least_assoc (number_of r) (code_of l) (code_of m))

-- the code of two lists, from the codes of each
pub refused_both : (l m : List Refusal) (a b k : ℕ) → a ≡ code_of l → b ≡ code_of m → k ≡ least a b → k ≡ code_of (l ++ m)
refused_both l m a b k p q e = rw (code_both l m, ← p, ← q) e

-- the code of a list with one refusal more, from the code of the list and whether that holds
pub refused_more : (l : List Refusal) (number : ℕ) (b : Bool) (code k : ℕ) (on : Bool) → code ≡ code_of l → on ≡ b → k ≡ least code (number_of (refuse number on)) → k ≡ code_of (l ++ refuse number b ∷ [])
unfolding code_of
refused_more l number b code k on p q e =
    refused_both l (refuse number b ∷ []) code (number_of (refuse number b)) k p (sym (least_zero (number_of (refuse number b)))) (rw q at e)

-- the code of one refusal
pub refused_first : (number : ℕ) (b : Bool) (k : ℕ) (on : Bool) → on ≡ b → k ≡ least 0 (number_of (refuse number on)) → k ≡ code_of (refuse number b ∷ [])
unfolding code_of
refused_first number b k on q e = refused_more [] number b 0 k on refl q e

-- whether all numbers of a list are above n
abbrev pub above : ℕ → List Refusal → Bool
above n [] = true
above n (r ∷ l) = ltb n r.number && above n l

-- the lesser of two numbers above n, of which the second may be none
least_above : (n j k : ℕ) → n < j → (k ≡ 0) ⊎ (n < k) → n < least j k
least_above n j k h (inl e) = rw (e, least_zero j) h
least_above n j k h (inr g) = ⊎_elim (λ e. rw e h) (λ e. rw e g) (least_either j k)

-- a list's code, where there is one, is among its numbers
code_above : (n : ℕ) (l : List Refusal) → above n l ≡ true → (code_of l ≡ 0) ⊎ (n < code_of l)
unfolding code_of least
code_above n [] h = inl refl
code_above n (r ∷ l) h =
    let rest = code_above n l (and_right (ltb n r.number) (above n l) h) in
    elim (tested r.holds) [
      | holds t ↦ inr (rw t (least_above n r.number (code_of l) (ltb-true n r.number (and_left (ltb n r.number) (above n l) h)) rest))
      | fails t ↦ rw t rest
    ]

-- the numbers of a list come before those of a second that are all larger
pub code_first : (l m : List Refusal) (n : ℕ) → (code_of l ≡ 0 → ⊥) → code_of l ≤ n → above n m ≡ true → code_of (l ++ m) ≡ code_of l
code_first l m n p h a =
    code_both l m ∙ ⊎_elim (λ e. rw e (least_zero (code_of l))) (λ g. least_min (code_of l) (code_of m) p (λ z. omega arith) ∙ omega arith) (code_above n m a)

-- a refusal that holds, before those with larger numbers
pub first_code : (k : ℕ) (m : List Refusal) → (k ≡ 0 → ⊥) → above k m ≡ true → code_of (refuse k true ∷ m) ≡ k
unfolding code_of
first_code k m n a =
    let own = least_zero k in
    code_first (refuse k true ∷ []) m k (λ z. n (sym own ∙ z)) (omega (arith, own)) a ∙ own

-- ---- a code of 0

-- no number of a list is 0, which would say that nothing is refused
abbrev pub positive : List Refusal → Bool
positive [] = true
positive (r ∷ l) = not (eqb r.number 0) && positive l

abbrev pub NoneHolds : List Refusal → Type 0
NoneHolds [] = Unit {0}
NoneHolds (r ∷ l) = (r.holds ≡ false) × NoneHolds l

pub none_at : (l : List Refusal) → NoneHolds l → (k : ℕ) → holds_at l k ≡ false
none_at [] n k = refl
none_at (r ∷ l) n k = rw (n.0, and-false (eqb r.number k)) (none_at l n.1 k)

pub accepted : (l : List Refusal) → positive l ≡ true → code_of l ≡ 0 → NoneHolds l
unfolding code_of
accepted [] h e = tt
accepted (r ∷ l) h e =
    elim (tested r.holds) [
      | holds t ↦
          absurd (eqb-false r.number 0 (not-true _ (and_left (not (eqb r.number 0)) (positive l) h)) (rw t at none.0))
      | fails t ↦ (t, accepted l (and_right (not (eqb r.number 0)) (positive l) h) none.1)
    ]
  where
    none : (number_of r ≡ 0) × (code_of l ≡ 0)
    none = least_none (number_of r) (code_of l) e

pub none_code : (l : List Refusal) → NoneHolds l → code_of l ≡ 0
unfolding code_of least
none_code [] n = refl
none_code (r ∷ l) n = rw (n.0, none_code l n.1) refl

-- ---- two lists, one after the other

pub positive_both : (l m : List Refusal) → positive l ≡ true → positive m ≡ true → positive (l ++ m) ≡ true
positive_both [] m h g = g
positive_both (r ∷ l) m h g =
    rw (and_left (not (eqb r.number 0)) (positive l) h) (positive_both l m (and_right (not (eqb r.number 0)) (positive l) h) g)

pub none_both : (l m : List Refusal) → NoneHolds (l ++ m) → NoneHolds l × NoneHolds m
none_both [] m n = (tt, n)
none_both (r ∷ l) m n = let h = none_both l m n.1 in ((n.0, h.0), h.1)

pub holds_both : (l m : List Refusal) (k : ℕ) → holds_at (l ++ m) k ≡ (holds_at l k || holds_at m k)
holds_both [] m k = refl
holds_both (r ∷ l) m k = rw (holds_both l m k) (sym (or_assoc (eqb r.number k && r.holds) (holds_at l k) (holds_at m k)))

-- ---- any other code

-- the code's condition holds, and no smaller one's does
abbrev pub IsLeast : List Refusal → ℕ → Type 0
IsLeast l k = (holds_at l k ≡ true) × ((j : ℕ) → 0 < j → j < k → holds_at l j ≡ false)

code_holds : (l : List Refusal) → 0 < code_of l → holds_at l (code_of l) ≡ true
unfolding code_of
code_holds [] h = absurd (omega arith)
code_holds (r ∷ l) h = ⊎_elim here (λ e. later e (code_holds l (omega arith))) (least_either (number_of r) (code_of l))
  where
    k : ℕ
    k = least (number_of r) (code_of l)

    here : k ≡ number_of r → holds_at (r ∷ l) k ≡ true
    here e =
        elim (tested r.holds) [
          | holds t ↦
              let n : number_of r ≡ r.number = rw t refl in
              rw (eq-eqb r.number k (sym (e ∙ n)), t) refl
          | fails t ↦ absurd (let n : number_of r ≡ 0 = rw t refl in omega arith)
        ]

    later : k ≡ code_of l → holds_at l (code_of l) ≡ true → holds_at (r ∷ l) k ≡ true
    later e t = rw (e, t) (or-true (eqb r.number (code_of l) && r.holds))

code_below : (l : List Refusal) (j : ℕ) → 0 < j → holds_at l j ≡ true → (0 < code_of l) × (code_of l ≤ j)
unfolding code_of
code_below [] j h e = absurd (false≢true e)
code_below (r ∷ l) j h e = ⊎_elim here (λ t. later (code_below l j h t)) (or_cases (eqb r.number j && r.holds) (holds_at l j) e)
  where
    k : ℕ
    k = least (number_of r) (code_of l)

    here : (eqb r.number j && r.holds) ≡ true → (0 < k) × (k ≤ j)
    here t =
        let q : r.number ≡ j = eqb-true r.number j (and_left (eqb r.number j) r.holds t) in
        let n : number_of r ≡ j = rw (and_right (eqb r.number j) r.holds t) q in
        let b = least_left (number_of r) (code_of l) (omega arith) in
        (b.0, omega (arith, b.1))

    later : (0 < code_of l) × (code_of l ≤ j) → (0 < k) × (k ≤ j)
    later i =
        let b = least_right (number_of r) (code_of l) i.0 in
        (b.0, omega (arith, b.1, i.1))

-- a code other than 0 is given exactly when its condition holds and no smaller one's does
abbrev pub Exact : List Refusal → ℕ → Type 0
Exact l code = (k : ℕ) → 0 < k → (code ≡ k → IsLeast l k) × (IsLeast l k → code ≡ k)

pub exact : (l : List Refusal) (code : ℕ) → code ≡ code_of l → Exact l code
exact l code e k p = (λ c. least_of (sym e ∙ c), λ i. e ∙ is_code i)
  where
    least_of : code_of l ≡ k → IsLeast l k
    least_of c =
        (rw c at (code_holds l (omega arith)), λ j q lt. elim (tested (holds_at l j)) [ holds t ↦ absurd (omega (arith, (code_below l j q t).1)) | fails t ↦ t ])

    is_code : IsLeast l k → code_of l ≡ k
    is_code i =
        let b = code_below l k p i.0 in
        ⊎_elim (λ lt. absurd (false≢true (sym (i.1 (code_of l) b.0 lt) ∙ code_holds l b.0))) (λ ge. omega (arith, b.1)) (lt_or_ge (code_of l) k)
