-- A list given by its elements: its length, what stands at a place, and that a list is known by its elements.
use Rattle.std.specs.Prelude.{◌≡◌, refl, List, [], ◌∷◌, ◌++◌, ℕ, zero, suc, ◌<◌, length, get_or}
use Rattle.std.proofs.Common.{sym, ap, ◌∙◌, ⊎_elim, not-suc-le-zero, le_of_suc-le-suc, eq-or-lt_of_le, arith, length-append, ext_get_or}
use Rattle.std.proofs.Math.Nat.{suc_inj}
use Rattle.std.proofs.Math.ListN.{get_or-append}
use Rattle.std.proofs.lemmas.List.{get_or_at}
use Rattle.basics.specs.Tabulate.{tabulate}

pub length-tabulate : (n : ℕ) (f : ℕ → ℕ) → length (tabulate n f) ≡ n
unfolding tabulate
length-tabulate zero f = refl
length-tabulate (suc n) f = rw (length-append (tabulate n f) (f n ∷ []), length-tabulate n f) (omega arith)

pub get_or-tabulate : (n : ℕ) (f : ℕ → ℕ) (k : ℕ) → k < n → get_or (tabulate n f) k 0 ≡ f k
unfolding tabulate
get_or-tabulate zero f k h = absurd (not-suc-le-zero h)
get_or-tabulate (suc n) f k h =
    ⊎_elim (λ (e : suc k ≡ suc n). rw (suc_inj e) (get_or_at (tabulate n f) (f n) [] 0 n (length-tabulate n f)))
    (λ (l : suc k < suc n). get_or-append (tabulate n f) (f n ∷ []) 0 k (rw (length-tabulate n f) (le_of_suc-le-suc l)) ∙ get_or-tabulate n f k (le_of_suc-le-suc l))
    (eq-or-lt_of_le h)

-- a list is known by its elements
pub tabulated_below : (n : ℕ) (f : ℕ → ℕ) (l : List ℕ) → length l ≡ n → ((k : ℕ) → k < n → get_or l k 0 ≡ f k) → l ≡ tabulate n f
tabulated_below n f l h at =
    ext_get_or 0 l (tabulate n f) (h ∙ sym (length-tabulate n f))
    (λ k lt. let g : k < n = rw h at lt in at k g ∙ sym (get_or-tabulate n f k g))

pub tabulated : (n : ℕ) (f : ℕ → ℕ) (l : List ℕ) → length l ≡ n → ((k : ℕ) → get_or l k 0 ≡ f k) → l ≡ tabulate n f
tabulated n f l h at = tabulated_below n f l h (λ k _. at k)

-- its first element, and the others
pub tabulate_first : (n : ℕ) (f : ℕ → ℕ) → tabulate (suc n) f ≡ f 0 ∷ tabulate n (λ i. f (suc i))
unfolding tabulate
tabulate_first zero f = refl
tabulate_first (suc n) f = ap (λ (l : List ℕ). l ++ f (suc n) ∷ []) (tabulate_first n f)

-- two that agree at each place
pub tabulate_alike : (n : ℕ) (f g : ℕ → ℕ) → ((k : ℕ) → f k ≡ g k) → tabulate n f ≡ tabulate n g
unfolding tabulate
tabulate_alike zero f g e = refl
tabulate_alike (suc n) f g e = rw (tabulate_alike n f g e, e n) refl
