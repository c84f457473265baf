-- A list in parts: its length, what stands in a part, and that a part lent, changed and given back is the list with that part.
use Rattle.std.specs.Prelude.{ℕ, zero, suc, ◌+◌, ◌-◌, ◌*◌, ◌/◌, ◌%◌, ◌≤◌, ◌<◌, ◌≡◌, refl, cond, List, ◌++◌, eqb, length, get_or, take, drop}
use Rattle.std.proofs.Math.Path.{sym}
use Rattle.std.proofs.Common.{ap, ◌∙◌, ⊎_elim, arith, mod-lt, mul-zero, mul-le-mul_right, div-add-mod', length-append, length-drop, length-take-le, get_or-take, get_or-drop, get_or-append-add, eq-eqb, ne_eqb, eqb-true}
use Rattle.std.proofs.Math.ListN.{get_or-append}
use Rattle.std.proofs.Math.Seq.{ext_get_or}
use Rattle.std.proofs.lemmas.Bool.{eqb-false}
use Rattle.basics.specs.Parts.{part, with_part}
use Rattle.basics.specs.laws.Division.{div_mod_of}
use Rattle.basics.specs.laws.Logic.{tested, holds, fails, lt_or_ge}
use Rattle.basics.specs.laws.Tabulate.{length-tabulate, get_or-tabulate, tabulated_below}

pub part_long : (n i : ℕ) (l : List ℕ) → length (part n i l) ≡ n
unfolding part
part_long n i l = length-tabulate n _

pub part_at : (n i k : ℕ) (l : List ℕ) → k < n → get_or (part n i l) k 0 ≡ get_or l (n * i + k) 0
unfolding part
part_at n i k l h = get_or-tabulate n _ k h

pub with_part_long : (m n i : ℕ) (p l : List ℕ) → length (with_part m n i p l) ≡ m * n
unfolding with_part
with_part_long m n i p l = length-tabulate (m * n) _

-- ---- what stands at place k of part j

inside : {m n j k : ℕ} → j < m → k < n → n * j + k < m * n
inside {m} {n} {j} {k} h g = let e : suc j * n ≤ m * n = mul-le-mul_right n h in omega arith

place : {n k : ℕ} (j : ℕ) → k < n → ((n * j + k) / n ≡ j) × ((n * j + k) % n ≡ k)
place {n} {k} j h = div_mod_of j h (omega arith)

with_at : (m n i j k : ℕ) (p l : List ℕ) → j < m → k < n → get_or (with_part m n i p l) (n * j + k) 0 ≡ cond (eqb j i) (get_or p k 0) (get_or l (n * j + k) 0)
unfolding with_part
with_at m n i j k p l h g = get_or-tabulate (m * n) _ (n * j + k) (inside h g) ∙ rw ((place j g).0, (place j g).1)

pub with_same_at : (m n i k : ℕ) (p l : List ℕ) → i < m → k < n → get_or (with_part m n i p l) (n * i + k) 0 ≡ get_or p k 0
with_same_at m n i k p l h g = with_at m n i i k p l h g ∙ rw (eq-eqb i i refl)

pub with_other_at : (m n i j k : ℕ) (p l : List ℕ) → j < m → k < n → (j ≡ i → ⊥) → get_or (with_part m n i p l) (n * j + k) 0 ≡ get_or l (n * j + k) 0
with_other_at m n i j k p l h g d = with_at m n i j k p l h g ∙ rw (ne_eqb j i d)

-- ---- a part of a list with a part replaced

pub part_same : (m n i : ℕ) (p l : List ℕ) → i < m → length p ≡ n → part n i (with_part m n i p l) ≡ p
part_same m n i p l h e =
    ext_get_or 0 _ p (part_long n i _ ∙ sym e)
    (λ k lt. let g : k < n = rw (part_long n i _) at lt in part_at n i k _ g ∙ with_same_at m n i k p l h g)

pub part_other : (m n i j : ℕ) (p l : List ℕ) → j < m → (j ≡ i → ⊥) → part n j (with_part m n i p l) ≡ part n j l
part_other m n i j p l h d =
    ext_get_or 0 _ _ (part_long n j _ ∙ sym (part_long n j l))
    (λ k lt. let g : k < n = rw (part_long n j _) at lt in part_at n j k _ g ∙ with_other_at m n i j k p l h g d ∙ sym (part_at n j k l g))

-- ---- a part that is lent, of a list of m parts

wide : (m n x : ℕ) → x < m * n → 0 < n
wide m zero x h = absurd (omega (arith, rw (mul-zero m) at h))
wide m (suc n) x h = omega arith

-- any place is place x % n of part x / n
split_place : (n x : ℕ) → 0 < n → n * (x / n) + x % n ≡ x
split_place n x pos = omega (arith, div-add-mod' x n)

module _ (m n i : ℕ) (l : List ℕ) (long : length l ≡ m * n) (there : i < m) where
  ends : n * i + n ≤ length l
  ends = let e : suc i * n ≤ m * n = mul-le-mul_right n there in omega arith

  lent_long : length (take n (drop (n * i) l)) ≡ n
  lent_long = length-take-le n (drop (n * i) l) (rw length-drop (omega (arith, ends)))

  lent_part : take n (drop (n * i) l) ≡ part n i l
  lent_part =
      ext_get_or 0 _ _ (lent_long ∙ sym (part_long n i l))
      (λ k lt. let g : k < n = rw lent_long at lt in get_or-take n (drop (n * i) l) k 0 g ∙ get_or-drop (n * i) l k 0 ∙ sym (part_at n i k l g))

  module _ (p : List ℕ) (same : length p ≡ n) where
    head_long : length (take (n * i) l) ≡ n * i
    head_long = length-take-le (n * i) l (omega (arith, ends))

    abbrev given : List ℕ
    given = take (n * i) l ++ (p ++ drop n (drop (n * i) l))

    given_long : length given ≡ m * n
    given_long =
        rw (length-append (take (n * i) l) (p ++ drop n (drop (n * i) l)), length-append p (drop n (drop (n * i) l)), head_long, same, length-drop n (drop (n * i) l), length-drop (n * i) l, long)
        (omega (arith, ends))

    before : (x : ℕ) → x < n * i → get_or given x 0 ≡ get_or l x 0
    before x h = get_or-append (take (n * i) l) _ 0 x (rw head_long h) ∙ get_or-take (n * i) l x 0 h

    within : (k : ℕ) → k < n → get_or given (n * i + k) 0 ≡ get_or p k 0
    within k h =
        (rw head_long at (get_or-append-add (take (n * i) l) (p ++ drop n (drop (n * i) l)) k 0))
        ∙ get_or-append p _ 0 k (rw same h)

    behind : (k : ℕ) → get_or given (n * i + (n + k)) 0 ≡ get_or l (n * i + (n + k)) 0
    behind k =
        (rw head_long at (get_or-append-add (take (n * i) l) (p ++ drop n (drop (n * i) l)) (n + k) 0))
        ∙ (rw same at (get_or-append-add p (drop n (drop (n * i) l)) k 0))
        ∙ get_or-drop n (drop (n * i) l) k 0
        ∙ get_or-drop (n * i) l (n + k) 0

    -- where part i of what is given back stands, and where not
    at_place : (x : ℕ) → x < m * n → get_or given x 0 ≡ cond (eqb (x / n) i) (get_or p (x % n) 0) (get_or l x 0)
    at_place x h =
        elim (tested (eqb (x / n) i)) [
          | holds e ↦
              let q : n * i + x % n ≡ x = ap (λ (j : ℕ). n * j + x % n) (sym (eqb-true (x / n) i e)) ∙ split_place n x pos in
              rw e (ap (λ (y : ℕ). get_or given y 0) (sym q) ∙ within (x % n) (mod-lt x pos))
          | fails e ↦ rw e (⊎_elim (before x) (past (eqb-false (x / n) i e)) (lt_or_ge x (n * i)))
        ]
      where
        pos : 0 < n
        pos = wide m n x h

        past : (x / n ≡ i → ⊥) → n * i ≤ x → get_or given x 0 ≡ get_or l x 0
        past d g =
            ⊎_elim (λ (lt : x < n * i + n). absurd (d (let c : x - n * i < n = omega arith in (div_mod_of i c (omega arith)).0)))
            (λ (ge : n * i + n ≤ x). let q : n * i + (n + (x - n * i - n)) ≡ x = omega arith in rw q at (behind (x - n * i - n)))
            (lt_or_ge x (n * i + n))

    -- a part that is lent and given back
    pub part_back : given ≡ with_part m n i p l
    unfolding with_part
    part_back =
        ext_get_or 0 given _ (given_long ∙ sym (length-tabulate (m * n) _))
        (λ x lt. let h : x < m * n = rw given_long at lt in at_place x h ∙ sym (get_or-tabulate (m * n) _ x h))

-- the same where code lends from n * i up to n * i + n
module _ (m n i : ℕ) (l : List ℕ) (long : length l ≡ m * n) (there : i < m) where
  width : n * i + n - n * i ≡ n
  width = omega arith

  pub slice_is : take (n * i + n - n * i) (drop (n * i) l) ≡ part n i l
  slice_is = rw width (lent_part m n i l long there)

  pub slice_long : length (take (n * i + n - n * i) (drop (n * i) l)) ≡ n
  slice_long = rw slice_is (part_long n i l)

  pub slice_back : (p : List ℕ) → length p ≡ n → take (n * i) l ++ (p ++ drop (n * i + n - n * i) (drop (n * i) l)) ≡ with_part m n i p l
  slice_back p e = rw width (part_back m n i l long there p e)

-- of two that are put in for the same part, the second stands
pub with_twice : (m n i : ℕ) (p q l : List ℕ) → with_part m n i p (with_part m n i q l) ≡ with_part m n i p l
unfolding with_part
with_twice m n i p q l =
    tabulated_below (m * n) _ _ (length-tabulate (m * n) _)
    (λ k h. get_or-tabulate (m * n) _ k h ∙ elim (tested (eqb (k / n) i)) [
      | holds e ↦ rw e
      | fails e ↦ rw e (get_or-tabulate (m * n) _ k h ∙ rw e)
    ])

-- a list with a part of its own for that part
pub with_own : (m n i : ℕ) (l : List ℕ) → length l ≡ m * n → with_part m n i (part n i l) l ≡ l
unfolding with_part
with_own m n i l long =
    sym (tabulated_below (m * n) _ l long (λ x h. own x (wide m n x h)))
  where
    own : (x : ℕ) → 0 < n → get_or l x 0 ≡ cond (eqb (x / n) i) (get_or (part n i l) (x % n) 0) (get_or l x 0)
    own x pos =
        elim (tested (eqb (x / n) i)) [
          | holds e ↦
              let q : n * i + x % n ≡ x = ap (λ (j : ℕ). n * j + x % n) (sym (eqb-true (x / n) i e)) ∙ split_place n x pos in
              rw (e, part_at n i (x % n) l (mod-lt x pos), q)
          | fails e ↦ rw e
        ]
