-- Lists that a loop fills or copies into, element by element.
use Rattle.std.specs.Prelude.{◌≡◌, refl, ◌&&◌, cond, List, [], ◌∷◌, ◌++◌, map, ℕ, zero, suc, ◌+◌, ◌-◌, ◌≤◌, ◌<◌, leb, ltb, eqb, length, get_or, set, take, drop, replicate}
use Rattle.std.proofs.Common.{sym, ap, ◌∙◌, append_assoc, append-nil, add-one, le_of_suc-le-suc, arith, length-drop, drop_of_length-le, get_or-set_same, get_or-set_other, drop-cons, take_all, drop-drop, le-leb, le-ltb, lt-ltb, leb-true, ltb-true, ltb-false, eqb-true}
use Rattle.std.proofs.lemmas.List.{length-map, length-replicate, set_at}
use Rattle.std.proofs.lemmas.Bool.{eqb-false}
use Rattle.basics.specs.laws.Logic.{tested, holds, fails}

-- an array that is a field is known by the list of its elements' values, which is as long
pub as_long : {X Y : Type 0} (f : X → Y) (l : List X) (n : ℕ) → length (map f l) ≡ n → length l ≡ n
as_long f l n e = sym (length-map l f) ∙ e

-- an element that is there does not depend on what would stand for a missing one
pub get_or_there : {A : Type 0} (y z : A) (l : List A) (i : ℕ) → i < length l → get_or l i y ≡ get_or l i z
get_or_there y z [] i h = absurd (omega arith)
get_or_there y z (x ∷ l) zero h = refl
get_or_there y z (x ∷ l) (suc i) h = get_or_there y z l i (le_of_suc-le-suc h)

-- an element is stored after those before it
pub filled_more : (g l : List ℕ) (i v : ℕ) → length g ≡ i → i < length l → set (g ++ drop i l) i v ≡ (g ++ v ∷ []) ++ drop (suc i) l
filled_more g l i v h k = rw (drop-cons l i 0 k, set_at g _ _ v i h, append_assoc)

-- and always the same one
replicate_next : (n v : ℕ) → replicate n v ++ v ∷ [] ≡ replicate (suc n) v
replicate_next zero v = refl
replicate_next (suc n) v = ap (λ (t : List ℕ). v ∷ t) (replicate_next n v)

pub filled_next : (v : ℕ) (l now : List ℕ) (i : ℕ) → i < length l → now ≡ replicate i v ++ drop i l → set now i v ≡ replicate (i + 1) v ++ drop (i + 1) l
filled_next v l now i h e =
    rw (e, add-one i, filled_more (replicate i v) l i v (length-replicate i v) h, replicate_next i v) refl

pub filled_all : (v : ℕ) (l now : List ℕ) (i : ℕ) → i ≤ length l → length l ≤ i → now ≡ replicate i v ++ drop i l → now ≡ replicate (length l) v
filled_all v l now i h k e =
    let q : i ≡ length l = omega arith in
    e ∙ rw (drop_of_length-le l {i = i} k, append-nil, q) refl

-- what stands before the rest of the tail at the place stands there in the whole list
pub tail_back : (l got part : List ℕ) (place n : ℕ) → part ≡ got ++ drop n (take (length l - place) (drop place l)) → take place l ++ (part ++ drop (length l - place) (drop place l)) ≡ take place l ++ got ++ drop (place + n) l
tail_back l got part place n e =
    let k : length (drop place l) ≤ length l - place = rw length-drop (omega arith) in
    rw (e, take_all (length l - place) (drop place l) k, drop_of_length-le (drop place l) k, append-nil, drop-drop, append_assoc)

-- ---- a copy of a part of one list into another

-- what stands at k once the elements from `low` up to i are copied
abbrev pub copied : ℕ → List ℕ → List ℕ → ℕ → ℕ → ℕ
copied low from onto i k = cond (leb low k && ltb k i) (get_or from k 0) (get_or onto k 0)

module _ (low : ℕ) (from onto : List ℕ) where
  pub copied_none : (k : ℕ) → get_or onto k 0 ≡ copied low from onto low k
  copied_none k = elim (tested (leb low k)) [
    | holds e ↦ rw (e, le-ltb k low (leb-true low k e))
    | fails e ↦ rw e
  ]

  module _ (next : List ℕ) (i : ℕ) (from_low : low ≤ i) (h : i < length next) (so_far : (k : ℕ) → get_or next k 0 ≡ copied low from onto i k) where
    at_next : (k : ℕ) → k ≡ i → get_or (set next i (get_or from i 0)) k 0 ≡ copied low from onto (i + 1) k
    at_next k e =
        rw (e, get_or-set_same next i (get_or from i 0) 0 h, le-leb low i from_low, lt-ltb i (i + 1) (omega arith)) refl

    elsewhere : (k : ℕ) → (k ≡ i → ⊥) → ltb k (i + 1) ≡ ltb k i
    elsewhere k n = elim (tested (ltb k i)) [
      | holds e ↦ rw (e, lt-ltb k (i + 1) (omega (arith, ltb-true k i e)))
      | fails e ↦ rw (e, le-ltb k (i + 1) (omega (arith, ltb-false k i e)))
    ]

    pub copied_more : (k : ℕ) → get_or (set next i (get_or from i 0)) k 0 ≡ copied low from onto (i + 1) k
    copied_more k = elim (tested (eqb k i)) [
      | holds e ↦ at_next k (eqb-true k i e)
      | fails e ↦ rw (get_or-set_other next i k (get_or from i 0) 0 (eqb-false k i e), elsewhere k (eqb-false k i e)) (so_far k)
    ]
