-- A set of positions as a number: what a loop over them starts with, what a turn adds, what it ends with; and its bits.
use Rattle.std.proofs.lemmas.List.{take_all}
use Rattle.std.specs.Prelude.{ℕ, zero, suc, min, ◌+◌, ◌*◌, ◌/◌, ◌%◌, ◌^◌, ◌≤◌, ◌<◌, ◌≡◌, Bool, true, false, ◌&&◌, cond, List, [], ◌∷◌, eqb, ltb, length, take, get_or}
use Rattle.std.proofs.Math.Path.{refl}
use Rattle.std.proofs.Common.{◌∙◌, ⊎_elim, add-one, le_of_suc-le-suc, eq-zero-or-pos, mul-one, add-mul, pow-suc, mul_assoc, add_comm, div-one, arith, pow_mono, length-take-le, ltb-true, lt-ltb, le-ltb}
use Rattle.std.proofs.Math.Nat.{pow-succ', one-mul, zero-div, div-div-eq-div-mul}
use Rattle.std.specs.Int.{from_bool}
use Rattle.std.specs.Int.Bits.{bit_and, bit_or, and_step}
use Rattle.std.proofs.lemmas.Nat.{and_shr, or_comm, or_shifted}
use Rattle.std.proofs.Math.Dec.{leb-suc-suc}
use Rattle.std.proofs.Math.Seq.{get_or-take}
use Rattle.basics.specs.Bits.{bit, mask, mask_first}
use Rattle.basics.specs.laws.Division.{div_mod_of}
use Rattle.basics.specs.laws.Logic.{tested, holds, fails, cond_below, cond_of}

twice : (w i : ℕ) → (w + w) * 2 ^ i ≡ w * 2 ^ suc i
twice w i = simp (add-mul, pow-suc, ← mul_assoc) (omega arith)

cond_le : (b : Bool) (w : ℕ) → cond b w 0 ≤ w
cond_le true w = omega arith
cond_le false w = omega arith

bool_weight : (b : Bool) (w : ℕ) → from_bool b * w ≡ cond b w 0
bool_weight true w = omega arith
bool_weight false w = omega arith

byte_shifted : (b : Bool) (w : ℕ) → w ≤ 128 → from_bool b * w % 2 ^ 64 ≡ from_bool b * w
byte_shifted true w h = omega arith
byte_shifted false w h = omega arith

-- a bit weighs at most its weight
pub weight_most : (b : Bool) (r w : ℕ) → r ≡ cond b w 0 → r ≤ w
weight_most b r w e = rw e (cond_le b w)

-- the weight doubles from one position to the next
pub weight_more : (i w : ℕ) → w ≡ 2 ^ i → w + w ≡ 2 ^ (i + 1)
weight_more i w e = rw (add-one, pow-suc, e) (omega arith)

-- ---- a number's lowest bit, and the others

halves : (b : Bool) (m : ℕ) → ((cond b 1 0 + 2 * m) / 2 ≡ m) × ((cond b 1 0 + 2 * m) % 2 ≡ cond b 1 0)
halves b m = div_mod_of m (cond_below b (omega arith) (omega arith)) (omega arith)

bit_lowest : (b : Bool) (m : ℕ) → bit 0 (cond b 1 0 + 2 * m) ≡ b
bit_lowest b m = rw (div-one, (halves b m).1) (go b)
  where
    go : (b : Bool) → eqb (cond b 1 0) 1 ≡ b
    go true = refl
    go false = refl

bit_next : (b : Bool) (m i : ℕ) → bit (suc i) (cond b 1 0 + 2 * m) ≡ bit i m
bit_next b m i = rw (pow-succ' 2 i, ← div-div-eq-div-mul, (halves b m).0) refl

-- a bit that both of two numbers have
both_one : (a b : ℕ) → a < 2 → b < 2 → eqb (min a b) 1 ≡ (eqb a 1 && eqb b 1)
both_one a b h k =
    ⊎_elim (λ (z : a ≡ 0). let m : min a b ≡ 0 = omega arith in rw (m, z) refl)
    (λ p. let e : a ≡ 1 = omega arith in let m : min a b ≡ b = omega arith in rw (m, e) refl)
    (eq-zero-or-pos a)

pub and_bit : (k a b : ℕ) → bit k (bit_and a b) ≡ (bit k a && bit k b)
and_bit k a b =
    let x = a / 2 ^ k in
    let y = b / 2 ^ k in
    let m : bit_and x y % 2 ≡ min (x % 2) (y % 2) = omega (arith, and_step x y) in
    rw (and_shr a b k, m) (both_one (x % 2) (y % 2) (omega arith) (omega arith))

-- 0 has none
pub no_bit : (k : ℕ) → bit k 0 ≡ false
no_bit k = rw zero-div refl

-- ---- sets

module _ {A : Type 0} (p : A → Bool) where
  mask_suc : (z : A) (w : ℕ) (l : List A) (i : ℕ) → i < length l → mask w p (take (suc i) l) ≡ mask w p (take i l) + cond (p (get_or l i z)) (w * 2 ^ i) 0
  mask_suc z w [] i h = absurd (omega arith)
  mask_suc z w (x ∷ l) zero h = simp mul-one (omega arith)
  mask_suc z w (x ∷ l) (suc i) h = rw (mask_suc z (w + w) l i (le_of_suc-le-suc h), twice w i) (omega arith)

  mask_bound : (w : ℕ) (l : List A) (i : ℕ) → mask w p (take i l) + w ≤ w * 2 ^ i
  mask_bound w l zero = simp mul-one (omega arith)
  mask_bound w [] (suc i) = omega (arith, mask_bound w [] i, twice w i, add-mul w w (2 ^ i))
  mask_bound w (x ∷ l) (suc i) = omega (arith, mask_bound (w + w) l i, twice w i, cond_le (p x) w)

  pub mask_none : (l : List A) → 0 ≡ mask_first 0 p l
  unfolding mask_first
  mask_none l = refl

  -- no bit past the positions
  pub mask_small : (l : List A) (i : ℕ) → mask_first i p l < 2 ^ i
  unfolding mask_first
  mask_small l i = omega (arith, mask_bound 1 l i, one-mul (2 ^ i))

  -- below position 8 the set so far is less than the next weight, and that is at most 128
  pub mask_room : (l : List A) (i m w : ℕ) → i < 8 → w ≡ 2 ^ i → m ≡ mask_first i p l → (m < w) × (w ≤ 128)
  mask_room l i m w h e q =
      let k : 2 ^ i ≤ 2 ^ 7 = pow_mono (le_of_suc-le-suc h) in
      (omega (arith, mask_small l i), omega arith)

  -- the set of up to eight positions is a byte
  pub mask_byte : (l : List A) (i m : ℕ) → i ≤ 8 → m ≡ mask_first i p l → m < 256
  mask_byte l i m h q = let k : 2 ^ i ≤ 2 ^ 8 = pow_mono h in omega (arith, mask_small l i)

  -- a turn adds bit i where p holds of the element at i
  pub mask_more : (z : A) (l : List A) (i m w r : ℕ) (on : Bool) → i < length l → w ≡ 2 ^ i → m ≡ mask_first i p l → on ≡ p (get_or l i z) → r ≡ cond on w 0 → m + r ≡ mask_first (i + 1) p l
  unfolding mask_first
  mask_more z l i m w r on h e q u v = rw (add-one, mask_suc z 1 l i h, one-mul, v, u, q, e)

  -- and so does a turn that sets bit i in a word
  pub mask_or : (z : A) (l : List A) (i m : ℕ) (on : Bool) → i < length l → i < 8 → m ≡ mask_first i p l → on ≡ p (get_or l i z) → bit_or m (from_bool on * 2 ^ i % 2 ^ 64) ≡ mask_first (i + 1) p l
  mask_or z l i m on h k e q =
      let w : 2 ^ i ≤ 2 ^ 7 = pow_mono (le_of_suc-le-suc k) in
      let below : m < 2 ^ i = omega (arith, mask_small l i) in
      rw (byte_shifted on (2 ^ i) w, or_comm m (from_bool on * 2 ^ i), or_shifted (from_bool on) i m below, add_comm (from_bool on * 2 ^ i) m)
      (mask_more z l i m (2 ^ i) (from_bool on * 2 ^ i) on h refl e q (bool_weight on (2 ^ i)))

  pub mask_done : (l : List A) (m i n : ℕ) → i ≤ n → n ≤ i → m ≡ mask_first i p l → m ≡ mask_first n p l
  mask_done l m i n h k e = let q : n ≡ i = omega arith in rw q e

  -- over the first n elements alone
  pub mask_whole : (n : ℕ) (l : List A) (m i : ℕ) → length (take n l) ≤ i → m ≡ mask_first i p (take n l) → m ≡ mask_first n p l
  unfolding mask_first
  mask_whole n l m i h e = rw (e, take_all i (take n l) h) refl

  mask_twice : (w : ℕ) (l : List A) → mask (w + w) p l ≡ 2 * mask w p l
  mask_twice w [] = refl
  mask_twice w (x ∷ l) = omega (arith, mask_twice (w + w) l, cond_of (λ (v : ℕ). v + v) (p x) w 0)

  -- bit i is set exactly when there is an element i and p holds of it
  pub mask_bit : (z : A) (l : List A) (i : ℕ) → bit i (mask 1 p l) ≡ (ltb i (length l) && p (get_or l i z))
  mask_bit z [] i = rw (zero-div, le-ltb i 0 (omega arith)) refl
  mask_bit z (x ∷ l) zero = rw (mask_twice 1 l, lt-ltb 0 (length (x ∷ l)) (omega arith)) (bit_lowest (p x) (mask 1 p l))
  mask_bit z (x ∷ l) (suc i) = rw (mask_twice 1 l, leb-suc-suc (suc i) (length l)) (bit_next (p x) (mask 1 p l) i ∙ mask_bit z l i)

  -- and of the first n, exactly when i is below n and p holds there
  pub first_bit : (z : A) (l : List A) (n i : ℕ) → n ≤ length l → bit i (mask_first n p l) ≡ (ltb i n && p (get_or l i z))
  unfolding mask_first
  first_bit z l n i h =
      mask_bit z (take n l) i
      ∙ rw (length-take-le n l h) (elim (tested (ltb i n)) [
        | holds e ↦ rw (e, get_or-take n l i z (ltb-true i n e)) refl
        | fails e ↦ rw e refl
      ])
