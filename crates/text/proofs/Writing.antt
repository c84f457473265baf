-- The loop that writes, and the one that makes digits.
use Prim.Native.Nat.{ℕ, zero, suc, ◌+◌, ◌-◌, ◌/◌, ◌%◌, ◌^◌, ◌≤◌, ◌<◌}
use mathlib.Core.Path.{◌≡◌, refl, sym, ◌∙◌}
use mathlib.Core.List.{List, ◌∷◌, ◌++◌, append_assoc}
use native.Mathlib.Numerals.{add-one}
use native.Mathlib.Nat.{pow-suc}
use native.Mathlib.Omega.{arith}
use lib.ListN.{length, get_or, set, take, drop, length-set, length-drop}
use lib.Seq.{paste, paste-suc, take_all, drop-cons, drop-set-lt, get_or-set_same}
use Rattle.text.specs.Text.{spelled, decimal}
use Rattle.text.specs.Write.{Written}
use Rattle.text.specs.laws.Decimal.{spelled_one, spelled_more, decimal_length}

pub write_done : (d s new : List ℕ) (at i : ℕ) → at + length s ≤ length d → i ≤ length s → length s ≤ i → new ≡ paste d at s i → Written d at s new (at + i)
write_done d s new at i m h k e =
    let q : i ≡ length s = omega arith in
    record { room = m; text = e ∙ rw (q, take_all (length s) s (omega arith), append_assoc); stop = rw q }

pub write_more : (d s new : List ℕ) (at i : ℕ) → at + length s ≤ length d → i < length s → new ≡ paste d at s i → set new (at + i) (get_or s i 0) ≡ paste d at s (i + 1)
write_more d s new at i h k e = rw (add-one, e) (paste-suc d at s i 0 (omega arith) k)

-- a digit put at its place stands before those behind it
put : (d : List ℕ) (k v : ℕ) → k < length d → drop k (set d k v) ≡ v ∷ drop (suc k) d
put d k v h = rw (drop-cons (set d k v) k 0 (rw length-set h), get_or-set_same d k v 0 h, drop-set-lt (suc k) d k v (omega arith)) refl

-- the digits of n that are not put yet are those of m, in the places up to k, and the last ones stand behind them
abbrev pub Digits : ℕ → List ℕ → ℕ → ℕ → Type 0
Digits n d k m = (m < 10 ^ suc k) × (spelled (suc k) m ++ drop (suc k) d ≡ decimal n)

pub digits_more : (n : ℕ) (d : List ℕ) (k m : ℕ) → k < length d → 10 ≤ m → Digits n d k m → (1 ≤ k) × Digits n (set d k (48 + m % 10)) (k - 1) (m / 10)
digits_more n d zero m h t s = absurd (omega (arith, s.0))
digits_more n d (suc k) m h t s =
    let e : suc k - 1 ≡ k = omega arith in
    rw e (omega arith, (omega (arith, rw pow-suc at s.0), rw (put d (suc k) (48 + m % 10) h) (sym (append_assoc (spelled (suc k) (m / 10)) _ _) ∙ rw (spelled_more (suc k) m t) at s.1)))

pub digits_all : (n : ℕ) (d : List ℕ) (k m : ℕ) → length d ≡ 20 → k < length d → m < 10 → Digits n d k m → take (20 - k) (drop k (set d k (48 + m))) ≡ decimal n
digits_all n d k m e h t s =
    let short : length (drop k (set d k (48 + m))) ≤ 20 - k = rw (length-drop, length-set) (omega arith) in
    rw (take_all (20 - k) (drop k (set d k (48 + m))) short, put d k (48 + m) h) (rw (spelled_one k m t) at s.1)

-- and are written
pub digits_written : (old s new : List ℕ) (at n q : ℕ) → s ≡ decimal n → Written old at s new q → Written old at (decimal n) new q × (q ≤ at + 20)
digits_written old s new at n q e p =
    let b : Written old at (decimal n) new q = rw e at p in
    (b, omega (arith, b.stop, decimal_length n))
