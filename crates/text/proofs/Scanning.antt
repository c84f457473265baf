-- Where a search for a line feed stops, and how many there are.
use Rattle.std.specs.Prelude.{Option, Some, None, ℕ, Bool, zero, suc, ◌+◌, ◌*◌, ◌-◌, ◌/◌, ◌≤◌, ◌≡◌, refl, List, [], ◌∷◌, length, slice_index, count_by, sum_by, cond, eqb, take, drop, unwrap_or, false, ◌||◌}
use Rattle.std.specs.Simd.{first_chunks}
use Rattle.std.proofs.Common.{ap, ◌∙◌, arith, drop-drop}
use Rattle.std.proofs.Math.Dec.{eqb-suc-zero}
use Rattle.std.proofs.lemmas.Bool.{false_from_ne_true}
use Rattle.std.proofs.lemmas.List.Sums.{sum_by-cons, sum_by-take-drop}
use Rattle.memchr.specs.Find.{IsFirstByte, is_byte}
use Rattle.text.specs.Lines.{end_of}
use Rattle.text.specs.laws.Lines.{counted, feeds, few_lines, unended}

abbrev pub is_feed : ℕ → Bool
is_feed b = eqb b 10

-- the end of a line, by what a search for a line feed answers
pub end_found : (l : List ℕ) (r : Option ℕ) → IsFirstByte (is_byte 10) l r → unwrap_or r (length l) ≡ end_of l
unfolding end_of
end_found [] None h = refl
end_found [] (Some k) h = absurd (omega (arith, h.0.high))
end_found (b ∷ l) None h =
    let e : is_feed b ≡ false = false_from_ne_true (is_feed b) (h 0 (omega arith) (omega arith)) in
    rw e (ap suc (end_found l None (λ k low high. h (suc k) (omega arith) (omega arith))))
end_found (b ∷ l) (Some zero) h = rw h.1 refl
end_found (b ∷ l) (Some (suc k)) h =
    let e : is_feed b ≡ false = false_from_ne_true (is_feed b) (h.0.before 0 (omega arith) (omega arith)) in
    rw e (ap suc (end_found l (Some k) (record { low = omega arith; high = omega (arith, h.0.high); before = λ j low high. h.0.before (suc j) (omega arith) (omega arith) }, h.1)))

pub feeds_counted : (l : List ℕ) → count_by is_feed l ≡ feeds l
unfolding feeds
feeds_counted [] = refl
feeds_counted (b ∷ l) = sum_by-cons (λ x. cond (is_feed x) 1 0) b l ∙ ap (λ n. cond (eqb b 10) 1 0 + n) (feeds_counted l)

feeds_split : (n : ℕ) (l : List ℕ) → feeds (take n l) + feeds (drop n l) ≡ feeds l
feeds_split n l = omega (arith, feeds_counted (take n l), feeds_counted (drop n l), feeds_counted l, sum_by-take-drop (λ x. cond (is_feed x) 1 0) l n)

feeds_of_parts : (n k : ℕ) (l : List ℕ) → sum_by feeds (first_chunks n k l) + feeds (drop (k * n) l) ≡ feeds l
feeds_of_parts n zero l = let e : zero * n ≡ 0 = omega arith in rw e (omega arith)
feeds_of_parts n (suc k) l =
    let more : suc k * n ≡ n + k * n = omega arith in
    let i = rw drop-drop at (feeds_of_parts n k (drop n l)) in
    rw more (omega (arith, sum_by-cons feeds (take n l) (first_chunks n k (drop n l)), i, feeds_split n l))

-- those of the parts, and those behind them
pub parts_counted : (n : ℕ) (l : List ℕ) {parts : List (List ℕ)} {rest : List ℕ} → parts ≡ first_chunks n (length l / n) l → rest ≡ drop (length l / n * n) l → sum_by feeds parts + feeds rest ≡ feeds l
parts_counted n l p r = rw (p, r) (feeds_of_parts n (length l / n) l)

pub few_feeds : (l : List ℕ) → feeds l ≤ length l
few_feeds l = omega (arith, counted l, few_lines l)

-- what a last byte says
pub open_end : (l : List ℕ) → unended l ≡ cond (eqb (length l) 0 || eqb (slice_index l (length l - 1)) 10) 0 1
open_end [] = refl
open_end (b ∷ l) = let q : length (b ∷ l) - 1 ≡ length l = omega arith in rw (eqb-suc-zero (length l), q)
