-- Lists that a loop maps or copies, element by element, and lists that are given by their elements.
use Rattle.std.specs.Prelude.{◌≡◌, refl, List, [], ◌∷◌, ◌++◌, ℕ, zero, suc, ◌+◌, ◌<◌, eqb, length, get_or, set, take, drop, map}
use Rattle.std.specs.List.{range_with_len}
use Rattle.std.proofs.Common.{sym, ap, ◌∙◌, append-nil, add-one, le_of_suc-le-suc, arith, drop_of_length-le, take_all, ext_get_or, eqb-true, get_or-set_same, get_or-set_other}
use Rattle.std.proofs.Math.ListN.{length-set}
use Rattle.std.proofs.lemmas.Bool.{eqb-false}
use Rattle.std.proofs.lemmas.List.FromFn.{length-map-range_with_len, get_or-map-range_with_len}
use Rattle.basics.specs.First.{map_first}
use Rattle.basics.specs.laws.Logic.{tested, holds, fails}

-- an element behind those that are mapped stays
pub map_rest : {A : Type 0} (f : A → A) (z : A) (l : List A) (i : ℕ) → get_or (map_first i f l) i z ≡ get_or l i z
unfolding map_first
map_rest f z [] zero = refl
map_rest f z [] (suc i) = refl
map_rest f z (x ∷ l) zero = refl
map_rest f z (x ∷ l) (suc i) = map_rest f z l i

-- ---- a copy of one list into another

module _ {A : Type 0} (z : A) where
  copy_suc : (from onto : List A) (i : ℕ) → i < length from → i < length onto → set (take i from ++ drop i onto) i (get_or from i z) ≡ take (suc i) from ++ drop (suc i) onto
  copy_suc [] onto i h k = absurd (omega arith)
  copy_suc (x ∷ l) [] i h k = absurd (omega arith)
  copy_suc (x ∷ l) (y ∷ m) zero h k = refl
  copy_suc (x ∷ l) (y ∷ m) (suc i) h k = ap (λ (t : List A). x ∷ t) (copy_suc l m i (le_of_suc-le-suc h) (le_of_suc-le-suc k))

  pub copy_more : (from onto now : List A) (i : ℕ) (y : A) → i < length from → i < length onto → now ≡ take i from ++ drop i onto → y ≡ get_or from i z → set now i y ≡ take (i + 1) from ++ drop (i + 1) onto
  copy_more from onto now i y h k e q = rw (add-one i, q, e) (copy_suc from onto i h k)

pub copy_done : {A : Type 0} (from onto now : List A) (i : ℕ) → length from ≡ i → length onto ≡ i → now ≡ take i from ++ drop i onto → now ≡ from
copy_done {A} from onto now i h k e =
    e ∙ ap (λ (t : List A). t ++ drop i onto) (take_all i from (omega arith)) ∙ rw (drop_of_length-le onto {i = i} (omega arith), append-nil) refl

-- ---- a list that is given by its elements, one of them replaced

pub range-set : {A : Type 0} (n : ℕ) (f g : ℕ → A) (i : ℕ) → i < n → ((j : ℕ) → j < n → (j ≡ i → ⊥) → g j ≡ f j) → map g (range_with_len 0 n) ≡ set (map f (range_with_len 0 n)) i (g i)
range-set {A} n f g i h others =
    ext_get_or (g i) (map g (range_with_len 0 n)) (set fs i (g i)) (length-map-range_with_len g 0 n ∙ sym (length-set fs i (g i) ∙ long))
    (λ j lt. let k : j < n = rw (length-map-range_with_len g 0 n) at lt in get_or-map-range_with_len g 0 n j j (g i) k (omega arith) ∙ elim (tested (eqb j i)) [
      | holds t ↦ rw (eqb-true j i t) (sym (get_or-set_same fs i (g i) (g i) (rw long h)))
      | fails t ↦ others j k (eqb-false j i t) ∙ sym (get_or-set_other fs i j (g i) (g i) (eqb-false j i t) ∙ get_or-map-range_with_len f 0 n j j (g i) k (omega arith))
    ])
  where
    fs : List A
    fs = map f (range_with_len 0 n)

    long : length fs ≡ n
    long = length-map-range_with_len f 0 n
