-- Laws of the lines of an input: bytes without a line feed are the start of its first line.
use Rattle.std.specs.Prelude.{ℕ, zero, suc, ◌+◌, ◌≤◌, ◌<◌, ◌≡◌, refl, false, cond, List, [], ◌∷◌, ◌++◌, length, take, drop, get_or, eqb}
use Rattle.std.proofs.Common.{sym, ap, ◌∙◌, append_assoc, append-nil, ⊎_elim, le_of_suc-le-suc, arith, take-append-drop, length-append, length-drop, drop_of_length-le, take_all}
use Rattle.std.proofs.lemmas.List.{drop-append-le}
use Rattle.basics.specs.laws.Logic.{holds, fails, tested, lt_or_ge}
use Rattle.text.specs.Lines.{lines_of, end_of, onto, Whole}

-- no line feed
unfoldable pub Free : List ℕ → Type 0
Free [] = Unit {0}
Free (b ∷ p) = (eqb b 10 ≡ false) × Free p

pub free : (p : List ℕ) → length p ≤ end_of p → Free p
unfolding Free end_of
free [] h = tt
free (b ∷ p) h =
    elim (tested (eqb b 10)) [
      | holds e ↦ absurd (omega (arith, rw e at h))
      | fails e ↦ (e, free p (le_of_suc-le-suc (rw e at h)))
    ]

free_end : (p : List ℕ) → Free p → end_of p ≡ length p
unfolding Free end_of
free_end [] f = refl
free_end (b ∷ p) f = rw f.0 (ap suc (free_end p f.1))

pub free_take : (n : ℕ) (p : List ℕ) → Free p → Free (take n p)
unfolding Free
free_take zero p f = tt
free_take (suc n) [] f = tt
free_take (suc n) (b ∷ p) f = (f.0, free_take n p f.1)

-- the start of a line whose end is still to come
pub begun_take : (n : ℕ) (p : List ℕ) → length p ≤ end_of p → end_of (take n p) ≡ length (take n p)
begun_take n p h = free_end (take n p) (free_take n p (free p h))

-- bytes without a line feed in front of the first line
unfoldable pub glue : List ℕ → List (List ℕ) → List (List ℕ)
glue [] ls = ls
glue (b ∷ p) ls = onto b (glue p ls)

pub lines_glue : (p t : List ℕ) → Free p → lines_of (p ++ t) ≡ glue p (lines_of t)
unfolding Free glue lines_of
lines_glue [] t f = refl
lines_glue (b ∷ p) t f = rw f.0 (ap (onto b) (lines_glue p t f.1))

pub glue_some : (p l : List ℕ) (ls : List (List ℕ)) → glue p (l ∷ ls) ≡ (p ++ l) ∷ ls
unfolding glue
glue_some [] l ls = refl
glue_some (b ∷ p) l ls = ap (onto b) (glue_some p l ls)

pub glue_none : (b : ℕ) (p : List ℕ) → glue (b ∷ p) [] ≡ (b ∷ p) ∷ []
unfolding glue
glue_none b [] = refl
glue_none b (d ∷ p) = ap (onto b) (glue_none d p)

-- bytes without a line feed are one line
pub one_line : (p : List ℕ) → 0 < length p → length p ≤ end_of p → lines_of p ≡ p ∷ []
unfolding lines_of
one_line [] n h = absurd (omega arith)
one_line (b ∷ p) n h = ap lines_of (sym (append-nil (b ∷ p))) ∙ lines_glue (b ∷ p) [] (free (b ∷ p) h) ∙ glue_none b p

-- some bytes have some line
pub some_line : (p : List ℕ) → 0 < length p → 1 ≤ length (lines_of p)
unfolding lines_of
some_line [] n = absurd (omega arith)
some_line (b ∷ p) n =
    elim (tested (eqb b 10)) [
      | holds e ↦ rw e (omega arith)
      | fails e ↦ rw e (put_some b (lines_of p))
    ]
  where
    put_some : (x : ℕ) (ls : List (List ℕ)) → 1 ≤ length (onto x ls)
    put_some x [] = omega arith
    put_some x (l ∷ ls) = omega arith

-- a line has a byte at least, its line feed
pub few_lines : (s : List ℕ) → length (lines_of s) ≤ length s
unfolding lines_of
few_lines [] = omega arith
few_lines (b ∷ s) =
    elim (tested (eqb b 10)) [
      | holds e ↦ rw e (omega (arith, few_lines s))
      | fails e ↦ rw e (omega (arith, few_lines s, put_few b (lines_of s)))
    ]
  where
    put_few : (x : ℕ) (ls : List (List ℕ)) → length (onto x ls) ≤ 1 + length ls
    put_few x [] = omega arith
    put_few x (l ∷ ls) = omega arith

-- ---- how many lines there are

-- the line feeds of an input
unfoldable pub feeds : List ℕ → ℕ
feeds [] = 0
feeds (b ∷ l) = cond (eqb b 10) 1 0 + feeds l

-- 1 where the last line lacks its line feed
abbrev pub unended : List ℕ → ℕ
unended [] = 0
unended (b ∷ l) = cond (eqb (get_or (b ∷ l) (length l) 0) 10) 0 1

-- a line for each line feed, and a last one that lacks it
pub counted : (l : List ℕ) → length (lines_of l) ≡ feeds l + unended l
unfolding lines_of feeds
counted [] = refl
counted (b ∷ []) = elim (tested (eqb b 10)) [ holds e ↦ rw e refl | fails e ↦ rw e refl ]
counted (b ∷ c ∷ l) =
    let i = counted (c ∷ l) in
    elim (tested (eqb b 10)) [
      | holds e ↦ rw e (omega (arith, i))
      | fails e ↦ rw e (omega (arith, i, kept (lines_of (c ∷ l)) (some_line (c ∷ l) (omega arith))))
    ]
  where
    kept : (ls : List (List ℕ)) → 1 ≤ length ls → length (onto b ls) ≡ length ls
    kept [] h = absurd (omega arith)
    kept (k ∷ ls) h = refl

-- a line ends by the end of the text
pub end_few : (s : List ℕ) → end_of s ≤ length s
unfolding end_of
end_few [] = omega arith
end_few (b ∷ s) = elim (tested (eqb b 10)) [ holds e ↦ rw e (omega arith) | fails e ↦ rw e (omega (arith, end_few s)) ]

-- the first line, up to its line feed
pub first_line : (l t : List ℕ) → end_of l < length l → lines_of (take (suc (end_of l)) l ++ t) ≡ take (end_of l) l ∷ lines_of t
unfolding end_of lines_of
first_line [] t h = absurd (omega arith)
first_line (b ∷ l) t h =
    elim (tested (eqb b 10)) [
      | holds e ↦ rw e
      | fails e ↦ rw e (ap (onto b) (first_line l t (le_of_suc-le-suc (rw e at h))))
    ]

-- the first line, with its line feed or without, and those behind it
pub next_line : (s : List ℕ) → 0 < length s → lines_of s ≡ take (end_of s) s ∷ lines_of (drop (suc (end_of s)) s)
unfolding lines_of
next_line s h =
    ⊎_elim (λ (g : end_of s < length s). ap lines_of (sym (take-append-drop (suc (end_of s)) s)) ∙ first_line s (drop (suc (end_of s)) s) g)
    (λ (g : length s ≤ end_of s). one_line s h g ∙ rw (take_all (end_of s) s g, drop_of_length-le s {i = suc (end_of s)} (omega arith)) refl) (lt_or_ge (end_of s) (length s))

-- two parts that end with a line
pub whole_both : (p q : List ℕ) → Whole p → Whole q → Whole (p ++ q)
whole_both p q a b = record { lines = λ t. rw (append_assoc, a.lines (q ++ t), b.lines t, a.lines q) (sym (append_assoc (lines_of p) (lines_of q) (lines_of t))) }

-- a last line that lacks its line feed is the line that it is with one
pub last_line : (p : List ℕ) → 0 < length p → length p ≤ end_of p → lines_of (p ++ (10 ∷ [])) ≡ lines_of p
unfolding lines_of
last_line p n h = lines_glue p (10 ∷ []) (free p h) ∙ glue_some p [] [] ∙ ap (λ (x : List ℕ). x ∷ []) (append-nil p) ∙ sym (one_line p n h)

-- where no complete line is left of a text that ends with a line feed, nothing is
pub fed_all : (p : List ℕ) (read : ℕ) → length (p ++ (10 ∷ [])) ≤ read + end_of (drop read (p ++ (10 ∷ []))) → take read (p ++ (10 ∷ [])) ≡ p ++ (10 ∷ [])
unfolding end_of
fed_all p read h =
    ⊎_elim
    (λ (g : read < length p + 1).
    let e = rw (drop-append-le read p (10 ∷ []) (omega arith), length-append) at h in
    absurd (omega (arith, e, end_fed (drop read p), length-drop read p)))
    (λ (g : length p + 1 ≤ read). take_all read (p ++ (10 ∷ [])) (rw length-append (omega arith)))
    (lt_or_ge read (length p + 1))
  where
    end_fed : (q : List ℕ) → end_of (q ++ (10 ∷ [])) ≤ length q
    end_fed [] = omega arith
    end_fed (b ∷ q) =
        elim (tested (eqb b 10)) [
          | holds e ↦ rw e (omega arith)
          | fails e ↦ rw e (omega (arith, end_fed q))
        ]
