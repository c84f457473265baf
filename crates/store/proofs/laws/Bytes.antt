-- Numbers in bytes, and bytes that are all 0.
use Rattle.std.specs.Prelude.{ℕ, zero, suc, ◌+◌, ◌*◌, ◌/◌, ◌^◌, ◌≤◌, ◌<◌, ◌≡◌, refl, Bool, ◌&&◌, List, [], ◌∷◌, ◌++◌, eqb, length, take, drop, get_or}
use Rattle.std.proofs.Common.{sym, ap, pow-suc, arith, drop-cons, take_all}
use Rattle.std.specs.Int.{w64, from_le_bytes, to_le_bytes}
use Rattle.std.proofs.Math.Nat.{div-div-eq-div-mul}
use Rattle.basics.specs.First.{all}
use Rattle.basics.specs.laws.First.{all_behind}
use Rattle.store.specs.Layout.{number, digits}

number_at : (l : List ℕ) (k n : ℕ) → k < length l → number (take (suc n) (drop k l)) ≡ get_or l k 0 + 256 * number (take n (drop (suc k) l))
unfolding number
number_at l k n h = rw (drop-cons l k 0 h) refl

-- the number of eight bytes, byte by byte
pub number_eight : (l : List ℕ) → 8 ≤ length l → number (take 8 l) ≡ get_or l 0 0 + 256 * (get_or l 1 0 + 256 * (get_or l 2 0
    + 256 * (get_or l 3 0 + 256 * (get_or l 4 0 + 256 * (get_or l 5 0 + 256 * (get_or l 6 0 + 256 * get_or l 7 0))))))
unfolding number
number_eight l h =
    let f = number_at l in
    omega (arith, f 0 7 (omega arith), f 1 6 (omega arith), f 2 5 (omega arith), f 3 4 (omega arith), f 4 3 (omega arith), f 5 2 (omega arith), f 6 1 (omega arith), f 7 0 (omega arith))

-- a number comes back from its n lowest bytes, if it has no more
pub number_digits : (n x : ℕ) → x < 256 ^ n → number (digits n x) ≡ x
unfolding number digits
number_digits zero x h = omega arith
number_digits (suc n) x h = omega (arith, number_digits n (x / 256) (omega (arith, rw pow-suc at h)))

pub digits_long : (n x : ℕ) → length (digits n x) ≡ n
unfolding digits
digits_long zero x = refl
digits_long (suc n) x = ap suc (digits_long n (x / 256))

-- the same as std's
pub number_bytes : (l : List ℕ) → length l ≡ 8 → from_le_bytes w64 l ≡ number l
number_bytes l h =
    let all : take 8 l ≡ l = take_all 8 l (omega arith) in
    omega (arith, rw all at (number_eight l (omega arith)))

pub digits_bytes : (x : ℕ) → to_le_bytes w64 x ≡ digits 8 x
unfolding digits
digits_bytes x = simp div-div-eq-div-mul

-- ---- zeros, byte by byte

pub zeros_more : (l : List ℕ) (x : ℕ) (b c : Bool) → b ≡ all (λ y. eqb y 0) l → c ≡ (b && eqb x 0) → c ≡ all (λ y. eqb y 0) (l ++ x ∷ [])
zeros_more l x b c e q = rw (q, e) (sym (all_behind (λ y. eqb y 0) l x))
