-- A number that is written is read back, and what is read as a number is one that is written.
use Rattle.std.specs.Prelude.{ℕ, zero, suc, ◌+◌, ◌*◌, ◌-◌, ◌/◌, ◌%◌, ◌^◌, ◌≤◌, ◌<◌, ◌≡◌, refl, Option, None, Some, Bool, true, false, ◌&&◌, List, [], ◌∷◌, ◌++◌, length, ltb, leb}
use Rattle.std.proofs.Common.{sym, ap, ◌∙◌, append_assoc, ⊎_elim, pow-suc, lt_of_lt_of_le, zero-add, arith, lt-ltb, le-ltb, le-leb, ltb-true, leb-true, length-append}
use Rattle.std.proofs.Math.Nat.{pow-le-pow_right}
use Rattle.std.proofs.lemmas.Option.{same_Some}
use Rattle.basics.specs.laws.Logic.{holds, fails, tested, lt_or_ge, and_left, and_right}
use Rattle.text.specs.Text.{spelled, decimal, Short}
use Rattle.text.specs.Read.{Rest, rest, is_digit, takes_digit, digits_of, first_of}

-- ---- how many digits a number has

pub spelled_one : (k n : ℕ) → n < 10 → spelled (suc k) n ≡ (48 + n) ∷ []
unfolding spelled
spelled_one k n h = rw (lt-ltb n 10 h)

pub spelled_more : (k n : ℕ) → 10 ≤ n → spelled (suc k) n ≡ spelled k (n / 10) ++ ((48 + n % 10) ∷ [])
unfolding spelled
spelled_more k n h = rw (le-ltb n 10 h)

-- places that are not needed change nothing
spelled_same : (k n : ℕ) → n < 10 ^ suc k → spelled (suc k) n ≡ spelled (suc (suc k)) n
spelled_same zero n h = let g : n < 10 = omega arith in rw (spelled_one 0 n g, spelled_one 1 n g)
spelled_same (suc k) n h =
    ⊎_elim (λ (g : n < 10). rw (spelled_one (suc k) n g, spelled_one (suc (suc k)) n g))
    (λ (g : 10 ≤ n). rw (spelled_more (suc k) n g, spelled_more (suc (suc k)) n g, spelled_same k (n / 10) (omega (arith, rw pow-suc at h))))
    (lt_or_ge n 10)

spelled_length : (k n : ℕ) → length (spelled k n) ≤ k
unfolding spelled
spelled_length zero n = omega arith
spelled_length (suc k) n = ⊎_elim (λ (g : n < 10). rw (spelled_one k n g) (omega arith)) (λ (g : 10 ≤ n). rw (spelled_more k n g, length-append) (omega (arith, spelled_length k (n / 10)))) (lt_or_ge n 10)

pub decimal_length : (n : ℕ) → length (decimal n) ≤ 20
decimal_length n = spelled_length 20 n

-- places that are not needed, however many
spelled_less : (d k n : ℕ) → n < 10 ^ suc k → spelled (suc k) n ≡ spelled (suc (d + k)) n
spelled_less zero k n h = rw (zero-add k) refl
spelled_less (suc d) k n h =
    let e : suc d + k ≡ suc (d + k) = omega arith in
    rw e (spelled_less d k n h ∙ spelled_same (d + k) n (lt_of_lt_of_le h (pow-le-pow_right {n = 10} (omega arith) (omega arith))))

-- a number below 10 ^ (k + 1) has at most k + 1 digits
pub few_digits : (k n : ℕ) → k < 20 → n < 10 ^ suc k → length (decimal n) ≤ suc k
few_digits k n h g =
    let e : suc (19 - k + k) ≡ 20 = omega arith in
    let same : spelled (suc k) n ≡ decimal n = spelled_less (19 - k) k n g ∙ ap (λ (m : ℕ). spelled m n) e in
    rw (← same) (spelled_length (suc k) n)

pub short : (n : ℕ) → Short n → length (decimal n) ≤ 15
short n h = few_digits 14 n (omega arith) (omega arith)

-- ---- what is read is what is written

-- a digit that goes on a number
grow : (n d : ℕ) → 0 < n → n < 100000000000000 → 48 ≤ d → d < 58 → decimal (n * 10 + (d - 48)) ≡ decimal n ++ (d ∷ [])
grow n d p h k g =
    let q : (n * 10 + (d - 48)) / 10 ≡ n = omega arith in
    let r : 48 + (n * 10 + (d - 48)) % 10 ≡ d = omega arith in
    spelled_more 19 (n * 10 + (d - 48)) (omega arith) ∙ rw (q, r, spelled_same 18 n (omega arith))

decimal_one : (d : ℕ) → 48 ≤ d → d < 58 → decimal (d - 48) ≡ d ∷ []
decimal_one d h g = let r : 48 + (d - 48) ≡ d = omega arith in spelled_one 19 (d - 48) (omega arith) ∙ rw r

digit_true : (d : ℕ) → is_digit d ≡ true → (48 ≤ d) × (d < 58)
digit_true d e = (leb-true _ _ (and_left (leb 48 d) _ e), ltb-true _ _ (and_right (leb 48 d) _ e))

pub takes_digit_true : (n d : ℕ) → takes_digit n d ≡ true → (0 < n) × (n < 100000000000000) × (48 ≤ d) × (d < 58)
takes_digit_true n d e =
    let h = and_right (ltb 0 n) _ e in
    let k = digit_true d (and_right (ltb n 100000000000000) _ h) in
    (ltb-true _ _ (and_left (ltb 0 n) _ e), ltb-true _ _ (and_left (ltb n 100000000000000) _ h), k.0, k.1)

-- from l on the number m is read, and r is rest
pub record Reads (l : List ℕ) (m : ℕ) (r : List ℕ) : Type 0 where
  pub line : l ≡ decimal m ++ r
  pub short : Short m

here : (l : List ℕ) (n : ℕ) {r : List ℕ} {m : ℕ} → Short n → rest l n ≡ rest r m → Reads (decimal n ++ l) m r
here l n {r} {m} s e =
    let q : n ≡ m = cc in
    let u : l ≡ r = cc in
    record { line = rw (q, u); short = rw (← q) s }

digits_sound : (l : List ℕ) (n : ℕ) {r : List ℕ} {m : ℕ} → Short n → digits_of n l ≡ rest r m → Reads (decimal n ++ l) m r
unfolding digits_of
digits_sound [] n s e = here [] n s e
digits_sound (d ∷ l) n s e =
    elim (tested (takes_digit n d)) [
      | holds t ↦
          let k = takes_digit_true n d t in
          let i = digits_sound l (n * 10 + (d - 48)) (omega arith) (rw t at e) in
          record { line = sym (append_assoc (decimal n) (d ∷ []) l) ∙ rw (grow n d k.0 k.1 k.2 k.3) at i.line; short = i.short }
      | fails t ↦ here (d ∷ l) n s (rw t at e)
    ]

pub never : {r : List ℕ} {m : ℕ} {A : Type 0} → ◌≡◌ {A = Option Rest} None (Some (rest r m)) → A
never e = absurd (let z : ◌≡◌ {A = ℕ} 0 1 = cc in omega arith)

pub number_sound : (l : List ℕ) {r : List ℕ} {m : ℕ} → first_of l ≡ Some (rest r m) → Reads l m r
unfolding first_of
number_sound [] e = never e
number_sound (d ∷ l) e =
    elim (tested (is_digit d)) [
      | holds t ↦
          let k = digit_true d t in
          rw (decimal_one d k.0 k.1) at (digits_sound l (d - 48) (omega arith) (same_Some _ _ (rw t at e)))
      | fails t ↦ never (rw t at e)
    ]

-- ---- what is written is read back

-- what follows a number is no digit
abbrev pub Stops : List ℕ → Type 0
Stops [] = Unit {0}
Stops (d ∷ l) = is_digit d ≡ false

no_more : (n d : ℕ) → is_digit d ≡ false → takes_digit n d ≡ false
no_more n d e = rw e (go (ltb 0 n) (ltb n 100000000000000))
  where
    go : (p q : Bool) → (p && (q && false)) ≡ false
    go true true = refl
    go true false = refl
    go false q = refl

digits_stop : (r : List ℕ) (n : ℕ) → Stops r → digits_of n r ≡ rest r n
unfolding digits_of
digits_stop [] n h = refl
digits_stop (d ∷ l) n h = rw (no_more n d h)

is_digit_lem : (e : ℕ) → e < 10 → is_digit (48 + e) ≡ true
is_digit_lem e h = let g : 48 + e < 58 = omega arith in let k : 48 ≤ 48 + e = omega arith in rw (le-leb 48 (48 + e) k, lt-ltb (48 + e) 58 g)

one_read : (n : ℕ) (r : List ℕ) → n < 10 → first_of ((48 + n) ∷ r) ≡ Some (digits_of n r)
unfolding first_of
one_read n r h = let q : 48 + n - 48 ≡ n = omega arith in rw (is_digit_lem n h, q)

more_read : (n : ℕ) (r : List ℕ) → 10 ≤ n → Short n → digits_of (n / 10) ((48 + n % 10) ∷ r) ≡ digits_of n r
unfolding digits_of
more_read n r h s =
    let q : n / 10 * 10 + (48 + n % 10 - 48) ≡ n = omega arith in
    let u : 0 < n / 10 = omega arith in
    let v : n / 10 < 100000000000000 = omega arith in
    let w : n % 10 < 10 = omega arith in
    rw (lt-ltb 0 (n / 10) u, lt-ltb (n / 10) 100000000000000 v, is_digit_lem (n % 10) w, q)

spelled_read : (k n : ℕ) (r : List ℕ) → n < 10 ^ suc k → Short n → first_of (spelled (suc k) n ++ r) ≡ Some (digits_of n r)
spelled_read zero n r h s = let g : n < 10 = omega arith in rw (spelled_one 0 n g) (one_read n r g)
spelled_read (suc k) n r h s =
    ⊎_elim (λ (g : n < 10). rw (spelled_one (suc k) n g) (one_read n r g))
    (λ (g : 10 ≤ n).
    rw (spelled_more (suc k) n g, append_assoc)
    (spelled_read k (n / 10) ((48 + n % 10) ∷ r) (omega (arith, rw pow-suc at h)) (omega arith) ∙ ap Some (more_read n r g s)))
    (lt_or_ge n 10)

pub number_read : (n : ℕ) (r : List ℕ) → Short n → Stops r → first_of (decimal n ++ r) ≡ Some (rest r n)
number_read n r s h = spelled_read 19 n r (omega arith) s ∙ ap Some (digits_stop r n h)
