-- 16 totals, of which the first n have grown: what a loop over the outputs starts with, what a turn adds, what it ends with; and what stands at each.
use Rattle.std.specs.Prelude.{◌≡◌, refl, cond, List, ℕ, ◌+◌, ◌≤◌, ◌<◌, ltb, eqb, get_or, set}
use Rattle.std.proofs.Common.{sym, ap, ◌∙◌, add-zero, arith, length-set, get_or-set_same, lt-ltb, le-ltb, ltb-true, ltb-false, eqb-true}
use Rattle.std.proofs.Math.ListN.{length}
use Rattle.std.proofs.Math.Seq.{get_or-set_other}
use Rattle.std.proofs.lemmas.Bool.{eqb-false}
use Rattle.basics.specs.laws.Logic.{tested, holds, fails}
use Rattle.basics.specs.laws.Tabulate.{length-tabulate, get_or-tabulate, tabulated_below}
use Rattle.totals.specs.Totals.{raised}

module _ (f : ℕ → ℕ) (l : List ℕ) where
  pub raised_long : (n : ℕ) → length (raised n f l) ≡ 16
  unfolding raised
  raised_long n = length-tabulate 16 _

  raised_at : (n k : ℕ) → k < 16 → get_or (raised n f l) k 0 ≡ get_or l k 0 + cond (ltb k n) (f k) 0
  unfolding raised
  raised_at n k h = get_or-tabulate 16 _ k h

  -- what is reached has grown, and what is not stays
  pub raised_there : (n k : ℕ) → k < 16 → k < n → get_or (raised n f l) k 0 ≡ get_or l k 0 + f k
  raised_there n k h g = raised_at n k h ∙ rw (lt-ltb k n g)

  pub raised_past : (n k : ℕ) → k < 16 → n ≤ k → get_or (raised n f l) k 0 ≡ get_or l k 0
  raised_past n k h g = raised_at n k h ∙ rw (le-ltb k n g) (add-zero (get_or l k 0))

  pub raised_none : length l ≡ 16 → l ≡ raised 0 f l
  unfolding raised
  raised_none e = tabulated_below 16 _ l e (λ k h. rw (le-ltb k 0 (omega arith)) (sym (add-zero (get_or l k 0))))

  pub raised_more : (now : List ℕ) (i y : ℕ) → i < 16 → now ≡ raised i f l → y ≡ get_or now i 0 + f i → set now i y ≡ raised (i + 1) f l
  unfolding raised
  raised_more now i y h e q =
      tabulated_below 16 _ (set now i y) (length-set now i y ∙ long)
      (λ k g. elim (tested (eqb k i)) [
        | holds t ↦ here k (eqb-true k i t)
        | fails t ↦ get_or-set_other now i k y 0 (eqb-false k i t) ∙ there k g (eqb-false k i t)
      ])
    where
      long : length now ≡ 16
      long = rw e (raised_long i)

      here : (k : ℕ) → k ≡ i → get_or (set now i y) k 0 ≡ get_or l k 0 + cond (ltb k (i + 1)) (f k) 0
      here k t =
          let same : get_or now i 0 ≡ get_or l i 0 = rw e (raised_past i i h (omega arith)) in
          rw (t, get_or-set_same now i y 0 (omega (arith, long)), q, same, lt-ltb i (i + 1) (omega arith)) refl

      alike : (k : ℕ) → (k ≡ i → ⊥) → ltb k i ≡ ltb k (i + 1)
      alike k n = elim (tested (ltb k i)) [
        | holds t ↦ t ∙ sym (lt-ltb k (i + 1) (omega (arith, ltb-true k i t)))
        | fails t ↦ t ∙ sym (le-ltb k (i + 1) (omega (arith, ltb-false k i t)))
      ]

      there : (k : ℕ) → k < 16 → (k ≡ i → ⊥) → get_or now k 0 ≡ get_or l k 0 + cond (ltb k (i + 1)) (f k) 0
      there k g n = ap (λ (x : List ℕ). get_or x k 0) e ∙ raised_at i k g ∙ rw (alike k n)

  pub raised_done : (now : List ℕ) (i n : ℕ) → i ≤ n → n ≤ i → now ≡ raised i f l → now ≡ raised n f l
  raised_done now i n h k e = let q : n ≡ i = omega arith in rw q e
