-- The first n elements of a list, for any element, function and test: what a loop over them starts with, what a turn adds, what it ends with; and what keeps a test of all.
use Rattle.std.proofs.lemmas.List.{drop_all, take_all, append-nil}
use Prim.Native.Nat.{ℕ, zero, suc, ◌+◌, ◌≤◌, ◌<◌}
use Rattle.std.specs.Prelude.{◌≡◌, Bool, true, false, not, ◌&&◌, length, take, get_or, set, replicate, drop, map}
use Rattle.std.proofs.Math.Path.{refl, sym, ap}
use Rattle.std.proofs.Common.{◌∙◌, add-one, le_of_suc-le-suc, arith, take-suc}
use Rattle.std.proofs.Math.Bool.{and-true, and-false, and_assoc}
use Rattle.std.proofs.lemmas.Bool.{false≢true}
use mathlib.Core.List.{List, [], ◌∷◌, ◌++◌}
use Rattle.std.specs.Int.Bits.{bit_and}
use Rattle.std.proofs.lemmas.Nat.{and_le_l}
use Rattle.basics.specs.laws.Logic.{tested, holds, fails, and_left, and_right}
use Rattle.basics.specs.laws.Bits.{and_bit}
use Rattle.basics.specs.Below.{all_below}
use Rattle.basics.specs.Bits.{bit, mask}
use Rattle.basics.specs.First.{map_first, all_first, and_first, all, and_of}

-- ---- a function at each

module _ {A : Type 0} (f : A → A) where
  pub map_none : (l : List A) → l ≡ map_first 0 f l
  unfolding map_first
  map_none l = refl

  map_suc : (z : A) (l : List A) (i : ℕ) → set (map_first i f l) i (f (get_or (map_first i f l) i z)) ≡ map_first (suc i) f l
  unfolding map_first
  map_suc z [] zero = refl
  map_suc z [] (suc i) = refl
  map_suc z (x ∷ l) zero = refl
  map_suc z (x ∷ l) (suc i) = ap (λ (t : List A). f x ∷ t) (map_suc z l i)

  -- a turn replaces the element at i of the list as it stands by f of it
  pub map_more : (z : A) (l now : List A) (i : ℕ) (y : A) → now ≡ map_first i f l → y ≡ f (get_or now i z) → set now i y ≡ map_first (i + 1) f l
  map_more z l now i y e q = rw (add-one, q, e) (map_suc z l i)

  pub map_long : (n : ℕ) (l : List A) → length (map_first n f l) ≡ length l
  unfolding map_first
  map_long zero l = refl
  map_long (suc n) [] = refl
  map_long (suc n) (x ∷ l) = ap suc (map_long n l)

  -- what f leaves of each element, it leaves of the element at any place
  pub map_keeps : {B : Type 0} (g : A → B) → ((x : A) → g (f x) ≡ g x) → (z : A) (n : ℕ) (l : List A) (i : ℕ) → g (get_or (map_first n f l) i z) ≡ g (get_or l i z)
  unfolding map_first
  map_keeps g h z zero l i = refl
  map_keeps g h z (suc n) [] i = refl
  map_keeps g h z (suc n) (x ∷ l) zero = h x
  map_keeps g h z (suc n) (x ∷ l) (suc i) = map_keeps g h z n l i

  -- an element among the first n that is there becomes f of it
  pub map_there : (z : A) (n : ℕ) (l : List A) (i : ℕ) → i < n → i < length l → get_or (map_first n f l) i z ≡ f (get_or l i z)
  unfolding map_first
  map_there z zero l i h k = absurd (omega arith)
  map_there z (suc n) [] i h k = absurd (omega arith)
  map_there z (suc n) (x ∷ l) zero h k = refl
  map_there z (suc n) (x ∷ l) (suc i) h k = map_there z n l i (le_of_suc-le-suc h) (le_of_suc-le-suc k)

  pub map_done : (l now : List A) (i n : ℕ) → i ≤ n → n ≤ i → now ≡ map_first i f l → now ≡ map_first n f l
  map_done l now i n h k e = let q : n ≡ i = omega arith in rw q e

  -- a loop over the first n elements alone, with what stands behind them
  pub map_whole : (n : ℕ) (l now : List A) (i : ℕ) → length (take n l) ≤ i → now ≡ map_first i f (take n l) → now ++ drop n l ≡ map_first n f l
  unfolding map_first
  map_whole n l now i h e = rw (e, take_all i (take n l) h, drop_all i (take n l) h, append-nil (map f (take n l))) refl

-- ---- a test of each

module _ {A : Type 0} (p : A → Bool) where
  pub all_none : (l : List A) → all_first 0 p l ≡ true
  unfolding all_first
  all_none l = refl

  all_suc : (z : A) (l : List A) (i : ℕ) → all_first i p l ≡ true → p (get_or l i z) ≡ true → all_first (suc i) p l ≡ true
  unfolding all_first
  all_suc z [] zero e q = refl
  all_suc z [] (suc i) e q = refl
  all_suc z (x ∷ l) zero e q = rw q
  all_suc z (x ∷ l) (suc i) e q =
      rw (and_left (p x) (all p (take i l)) e) (all_suc z l i (and_right (p x) (all p (take i l)) e) q)

  pub all_more : (z : A) (l : List A) (i : ℕ) → all_first i p l ≡ true → p (get_or l i z) ≡ true → all_first (i + 1) p l ≡ true
  all_more z l i e q = rw add-one (all_suc z l i e q)

  pub all_done : (l : List A) (i n : ℕ) → i ≤ n → n ≤ i → all_first i p l ≡ true → true ≡ all_first n p l
  all_done l i n h k e = let q : n ≡ i = omega arith in rw q (sym e)

  -- what holds of all, and of whatever stands for a missing one, holds of each
  pub all_at : (z : A) (l : List A) (i n : ℕ) → i < n → p z ≡ true → all_first n p l ≡ true → p (get_or l i z) ≡ true
  unfolding all_first
  all_at z [] i n h k e = k
  all_at z (x ∷ l) i zero h k e = absurd (omega arith)
  all_at z (x ∷ l) zero (suc n) h k e = and_left (p x) (all p (take n l)) e
  all_at z (x ∷ l) (suc i) (suc n) h k e = all_at z l i n (le_of_suc-le-suc h) k (and_right (p x) (all p (take n l)) e)

  fails_suc : (z : A) (l : List A) (i n : ℕ) → i < n → i < length l → p (get_or l i z) ≡ false → all_first n p l ≡ false
  unfolding all_first
  fails_suc z [] i n h k e = absurd (omega arith)
  fails_suc z (x ∷ l) i zero h k e = absurd (omega arith)
  fails_suc z (x ∷ l) zero (suc n) h k e = rw e
  fails_suc z (x ∷ l) (suc i) (suc n) h k e =
      rw (fails_suc z l i n (le_of_suc-le-suc h) (le_of_suc-le-suc k) e, and-false (p x)) refl

  -- where one fails, not all hold
  pub all_fails : (z : A) (l : List A) (i n : ℕ) → i < n → i < length l → p (get_or l i z) ≡ false → false ≡ all_first n p l
  all_fails z l i n h k e = sym (fails_suc z l i n h k e)

  -- one more element that passes, put in at any place or at the next
  pub all_set : (l : List A) (i n : ℕ) (y : A) → p y ≡ true → all_first n p l ≡ true → all_first n p (set l i y) ≡ true
  unfolding all_first
  all_set [] i n y q e = e
  all_set (x ∷ l) i zero y q e = refl
  all_set (x ∷ l) zero (suc n) y q e = rw q (and_right (p x) (all p (take n l)) e)
  all_set (x ∷ l) (suc i) (suc n) y q e =
      rw (and_left (p x) (all p (take n l)) e) (all_set l i n y q (and_right (p x) (all p (take n l)) e))

  pub all_added : (l : List A) (n : ℕ) (y : A) → p y ≡ true → all_first n p l ≡ true → all_first (suc n) p (set l n y) ≡ true
  unfolding all_first
  all_added [] n y q e = refl
  all_added (x ∷ l) zero y q e = rw q
  all_added (x ∷ l) (suc n) y q e =
      rw (and_left (p x) (all p (take n l)) e) (all_added l n y q (and_right (p x) (all p (take n l)) e))

  -- a test of all of two lists, one behind the other
  pub all_both : (l m : List A) → all p (l ++ m) ≡ (all p l && all p m)
  all_both [] m = refl
  all_both (x ∷ l) m = ap (λ (b : Bool). p x && b) (all_both l m) ∙ sym (and_assoc (p x) (all p l) (all p m))

  pub all_replicate : (n : ℕ) (x : A) → p x ≡ true → all p (replicate n x) ≡ true
  all_replicate zero x e = refl
  all_replicate (suc n) x e = rw e (all_replicate n x e)

  pub all_behind : (l : List A) (x : A) → all p (l ++ x ∷ []) ≡ (all p l && p x)
  all_behind l x = all_both l (x ∷ []) ∙ ap (λ (b : Bool). all p l && b) (and-true (p x))

  -- a test of each place is one of each element
  pub all_places : (z : A) (n : ℕ) (l : List A) → n ≤ length l → all_below n (λ i. p (get_or l i z)) ≡ all p (take n l)
  unfolding all_below
  all_places z zero l h = refl
  all_places z (suc n) l h =
      ap (λ (b : Bool). b && p (get_or l n z)) (all_places z n l (omega arith))
      ∙ sym (all_behind (take n l) (get_or l n z))
      ∙ ap (all p) (sym (take-suc l n z h))

-- a function that takes what passes one test to what passes another
pub all_mapped : {A : Type 0} (p q : A → Bool) (f : A → A) → ((x : A) → p x ≡ true → q (f x) ≡ true) → (n : ℕ) (l : List A) → all_first n p l ≡ true → all_first n q (map_first n f l) ≡ true
unfolding all_first map_first
all_mapped p q f h zero l e = refl
all_mapped p q f h (suc n) [] e = refl
all_mapped p q f h (suc n) (x ∷ l) e =
    rw (h x (and_left (p x) (all p (take n l)) e)) (all_mapped p q f h n l (and_right (p x) (all p (take n l)) e))

-- ---- a byte of each

module _ {A : Type 0} (f : A → ℕ) where
  pub and_none : (l : List A) → 255 ≡ and_first 0 f l
  unfolding and_first
  and_none l = refl

  and_suc : (z : A) (l : List A) (i b : ℕ) → i < length l → and_of f (take (suc i) l) b ≡ bit_and (and_of f (take i l) b) (f (get_or l i z))
  and_suc z [] i b h = absurd (omega arith)
  and_suc z (x ∷ l) zero b h = refl
  and_suc z (x ∷ l) (suc i) b h = and_suc z l i (bit_and b (f x)) (le_of_suc-le-suc h)

  pub and_more : (z : A) (l : List A) (i m r : ℕ) → i < length l → m ≡ and_first i f l → r ≡ f (get_or l i z) → bit_and m r ≡ and_first (i + 1) f l
  unfolding and_first
  and_more z l i m r h e q = rw (add-one, and_suc z l i 255 h, e, q)

  pub and_done : (l : List A) (m i n : ℕ) → i ≤ n → n ≤ i → m ≡ and_first i f l → m ≡ and_first n f l
  and_done l m i n h k e = let q : n ≡ i = omega arith in rw q e

  -- it is a byte
  pub and_byte : (l : List A) (byte : ℕ) → byte < 256 → and_of f l byte < 256
  and_byte [] byte h = h
  and_byte (x ∷ l) byte h = and_byte l (bit_and byte (f x)) (omega (arith, and_le_l byte (f x)))

  -- a bit of it is set exactly where the byte of each has it
  pub and_bits : (k : ℕ) (l : List A) (byte : ℕ) → bit k (and_of f l byte) ≡ (bit k byte && all (λ x. bit k (f x)) l)
  and_bits k [] byte = sym (and-true (bit k byte))
  and_bits k (x ∷ l) byte =
      and_bits k l (bit_and byte (f x))
      ∙ rw (and_bit k byte (f x)) (and_assoc (bit k byte) (bit k (f x)) (all (λ x. bit k (f x)) l))

-- ---- a set of positions is empty exactly when the test fails at each

pub empty_none : {A : Type 0} (w : ℕ) (p : A → Bool) (l : List A) → 0 < w → mask w p l ≡ 0 → all (λ x. not (p x)) l ≡ true
empty_none w p [] h e = refl
empty_none w p (x ∷ l) h e = elim (tested (p x)) [
  | holds t ↦ absurd (omega (arith, rw t at e))
  | fails t ↦ rw t (empty_none (w + w) p l (omega arith) (omega (arith, rw t at e)))
]

pub none_empty : {A : Type 0} (w : ℕ) (p : A → Bool) (l : List A) → all (λ x. not (p x)) l ≡ true → mask w p l ≡ 0
none_empty w p [] e = refl
none_empty w p (x ∷ l) e = elim (tested (p x)) [
  | holds t ↦ absurd (false≢true (rw t at e))
  | fails t ↦ rw t (omega (arith, none_empty (w + w) p l (rw t at e)))
]
