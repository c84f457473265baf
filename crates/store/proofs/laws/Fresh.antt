-- A fresh store: every place is free.
use Rattle.std.specs.Prelude.{ℕ, zero, suc, ◌≡◌, refl, true, [], get_or, replicate}
use Rattle.std.proofs.Common.{sym, ◌∙◌}
use Rattle.std.proofs.lemmas.List.{length-replicate}
use Rattle.basics.specs.Parts.{part}
use Rattle.basics.specs.laws.Below.{below_all}
use Rattle.basics.specs.laws.Tabulate.{tabulated_below}
use Rattle.store.specs.Layout.{store_size, place_ok, place, store_ok, saved_below, fresh_store}
use Rattle.store.proofs.laws.Layout.{right_size}
use Rattle.store.proofs.laws.Only.{free_ok, free_empty}

zero_at : (n k : ℕ) → get_or {A = ℕ} (replicate n 0) k 0 ≡ 0
zero_at zero k = refl
zero_at (suc n) zero = refl
zero_at (suc n) (suc k) = zero_at n k

fresh_place : (n i : ℕ) → place i (replicate n 0) ≡ replicate 40 0
unfolding part
fresh_place n i = sym (tabulated_below 40 _ (replicate 40 0) refl (λ k h. zero_at 40 k ∙ sym (zero_at n _)))

pub fresh_ok : store_ok fresh_store ≡ true
fresh_ok =
    sym (right_size fresh_store true (length-replicate {A = ℕ} store_size 0) (sym (below_all (λ i. place_ok (place i fresh_store)) 256 (λ i h. rw (fresh_place store_size i) free_ok))))

pub fresh_holds_nothing : (n : ℕ) → saved_below n fresh_store ≡ []
unfolding saved_below
fresh_holds_nothing zero = refl
fresh_holds_nothing (suc n) = rw (fresh_holds_nothing n, fresh_place store_size n) free_empty
