-- What a call comes to by the code of its refusals: done or refused.
use Rattle.std.specs.Prelude.{◌≡◌, refl, true, List, ℕ, eqb}
use Rattle.std.proofs.Common.{sym, ap, ◌∙◌, eqb-true, eq-eqb, ne_eqb}
use Rattle.std.proofs.lemmas.Bool.{eqb-false}
use Rattle.basics.specs.laws.Logic.{holds, fails, tested}
use Rattle.refusals.specs.Refusals.{Refusal, code_of, outcome}
use Rattle.refusals.specs.laws.Refusals.{positive, NoneHolds, accepted, Exact, exact}

module _ {A : Type 0} (l : List Refusal) (refused : ℕ → A) (done : A) where
  -- by its code, which is 0 or not
  pub done_by : (r : A) (k : ℕ) → k ≡ code_of l → k ≡ 0 → r ≡ done → r ≡ outcome l refused done
  done_by r k e z q = rw (eq-eqb (code_of l) 0 (sym e ∙ z)) q

  pub refused_by : (r : A) (k : ℕ) → k ≡ code_of l → (k ≡ 0 → ⊥) → r ≡ refused k → r ≡ outcome l refused done
  refused_by r k e z q = rw (ne_eqb (code_of l) 0 (λ c. z (e ∙ c))) (q ∙ ap refused e)

  pub done_is : code_of l ≡ 0 → outcome l refused done ≡ done
  done_is z = sym (done_by done (code_of l) refl z refl)

  pub refused_is : (code_of l ≡ 0 → ⊥) → outcome l refused done ≡ refused (code_of l)
  refused_is n = sym (refused_by (refused (code_of l)) (code_of l) refl n refl)

  -- what holds where it is refused, and where no refusal holds, holds of it
  pub outcome_is : (P : A → Type 0) → positive l ≡ true → ((code_of l ≡ 0 → ⊥) → P (refused (code_of l))) → (NoneHolds l → P done) → P (outcome l refused done)
  outcome_is P h p q =
      elim (tested (eqb (code_of l) 0)) [
        | holds e ↦ let z = eqb-true (code_of l) 0 e in rw (done_is z) (q (accepted l h z))
        | fails e ↦ let n = eqb-false (code_of l) 0 e in rw (refused_is n) (p n)
      ]

  -- a code of its own, which is the number of a refusal and 0 where it is done
  module _ (code : A → ℕ) (same : (k : ℕ) → code (refused k) ≡ k) (zero : code done ≡ 0) where
    pub outcome_code : code (outcome l refused done) ≡ code_of l
    outcome_code =
        elim (tested (eqb (code_of l) 0)) [
          | holds e ↦ let z = eqb-true (code_of l) 0 e in ap code (done_is z) ∙ zero ∙ sym z
          | fails e ↦ ap code (refused_is (eqb-false (code_of l) 0 e)) ∙ same (code_of l)
        ]

    pub outcome_exact : Exact l (code (outcome l refused done))
    outcome_exact = exact l (code (outcome l refused done)) outcome_code

    -- a code of 0 comes with no condition held, and with what is done
    pub outcome_done : positive l ≡ true → code (outcome l refused done) ≡ 0 → NoneHolds l × (outcome l refused done ≡ done)
    outcome_done h c = let z = sym outcome_code ∙ c in (accepted l h z, done_is z)

    pub outcome_refused : (code (outcome l refused done) ≡ 0 → ⊥) → outcome l refused done ≡ refused (code (outcome l refused done))
    outcome_refused n = refused_is (λ z. n (outcome_code ∙ z)) ∙ ap refused (sym outcome_code)
