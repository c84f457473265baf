-- How a key and a number are read, byte by byte.
use Rattle.std.specs.Prelude.{ℕ, ◌+◌, ◌*◌, ◌-◌, ◌≤◌, ◌<◌, ◌≡◌, refl, None, Some, ◌&&◌, cond, List, [], ◌∷◌, length, drop, get_or, leb, ltb, eqb}
use Rattle.std.specs.List.{starts_with}
use Rattle.std.proofs.Common.{sym, add-one, ⊎_elim, arith, drop-cons, drop-drop, drop_of_length-le, eq-eqb, le-leb, le-ltb, lt-ltb}
use Rattle.std.proofs.lemmas.Bool.{cases_eq, ne_eqb, lt-leb}
use Rattle.basics.specs.laws.Logic.{lt_or_ge}
use Rattle.text.specs.Read.{rest, is_end, is_digit, takes_digit, after_key, digits_of, first_of}

-- the bytes begin with the key, and what follows it is left; or they do not
skipped : (key l : List ℕ) (n : ℕ) → after_key key l n ≡ cond (starts_with eqb l key) (Some (rest (drop (length key) l) n)) None
unfolding after_key
skipped [] l n = refl
skipped (k ∷ ks) [] n = refl
skipped (k ∷ ks) (x ∷ l) n =
    ⊎_elim (λ (e : x ≡ k). rw (eq-eqb x k e, eq-eqb k x (sym e)) (skipped ks l n))
    (λ (d : x ≡ k → ⊥). rw (ne_eqb x k d, ne_eqb k x (λ e. d (sym e))))
    (cases_eq x k)

pub skipped_at : (key line : List ℕ) (at n : ℕ) → after_key key (drop at line) n ≡ cond (starts_with eqb (drop at line) key) (Some (rest (drop (at + length key) line) n)) None
skipped_at key line at n = rw (← drop-drop (length key) at line) (skipped key (drop at line) n)

-- one digit further, or where the number ends
pub digits_at : (line : List ℕ) (i n : ℕ) → digits_of n (drop i line) ≡ cond (ltb i (length line) && takes_digit n (get_or line i 0)) (digits_of (n * 10 + (get_or line i 0 - 48)) (drop (i + 1) line)) (rest (drop i line) n)
unfolding digits_of
digits_at line i n =
    ⊎_elim (λ (h : i < length line). rw (lt-ltb i (length line) h, add-one, drop-cons line i 0 h))
    (λ (h : length line ≤ i). rw (le-ltb i (length line) h, drop_of_length-le line h))
    (lt_or_ge i (length line))

pub digits_end : (line left : List ℕ) (at i n : ℕ) → left ≡ drop at line → length left ≤ i → rest (drop (at + i) line) n ≡ digits_of n (drop i left)
digits_end line left at i n e h = grind (arith, digits_at, drop-drop)

-- a first digit, and those behind it
pub first_at : (line : List ℕ) (i : ℕ) → first_of (drop i line) ≡ cond (ltb i (length line) && is_digit (get_or line i 0)) (Some (digits_of (get_or line i 0 - 48) (drop (i + 1) line))) None
unfolding first_of
first_at line i =
    ⊎_elim (λ (h : i < length line). rw (lt-ltb i (length line) h, add-one, drop-cons line i 0 h))
    (λ (h : length line ≤ i). rw (le-ltb i (length line) h, drop_of_length-le line h))
    (lt_or_ge i (length line))

-- the end of a line
pub end_at : (line : List ℕ) (i n : ℕ) → leb (length line) i ≡ is_end (Some (rest (drop i line) n))
end_at line i n =
    ⊎_elim (λ (h : i < length line). rw (lt-leb (length line) i h, drop-cons line i 0 h))
    (λ (h : length line ≤ i). rw (le-leb (length line) i h, drop_of_length-le line h))
    (lt_or_ge i (length line))
