-- Prefix counts. `Counts lit F` says that F x is the number of lit ticks among the first x. `cycle` makes the one of a period, again and again.
use Rattle.std.specs.Prelude.{◌≡◌, ◌⊎◌, Bool, ℕ, suc, ◌+◌, ◌*◌, ◌/◌, ◌%◌, ◌<◌}
use Rattle.std.proofs.Common.{ap, inl, inr, mod-lt, div-add-mod', eq-or-lt_of_le, arith}
use Rattle.std.proofs.Math.Nat.{zero-div, zero-mod}
use Rattle.basics.specs.laws.Division.{div_mod_of}
use Rattle.lamp.specs.Window.{one_if}

pub record Counts (lit : ℕ → Bool) (F : ℕ → ℕ) : Type 0 where
  pub start : F 0 ≡ 0
  pub step : (x : ℕ) → F (suc x) ≡ F x + one_if (lit x)

-- the first P ticks, again and again
pub cycle : {lit : ℕ → Bool} {F : ℕ → ℕ} (P : ℕ) {c : ℕ} → 0 < P → Counts lit F → F P ≡ c → Counts (λ x. lit (x % P)) (λ x. x / P * c + F (x % P))
cycle {lit} {F} P {c} pos C e = record { start = rw (zero-div, zero-mod) (omega (arith, C.start)); step = λ x. go x (eq-or-lt_of_le (mod-lt x pos)) }
  where
    go : (x : ℕ) → (suc (x % P) ≡ P) ⊎ (suc (x % P) < P) → suc x / P * c + F (suc x % P) ≡ x / P * c + F (x % P) + one_if (lit (x % P))
    go x (inl k) =
        let p : (suc x / P ≡ suc (x / P)) × (suc x % P ≡ 0) = div_mod_of (suc (x / P)) pos (omega (arith, div-add-mod' x P)) in
        rw (p.0, p.1) (omega (arith, C.start, C.step (x % P), ap F k, e))
    go x (inr k) =
        let p : (suc x / P ≡ x / P) × (suc x % P ≡ suc (x % P)) = div_mod_of (x / P) k (omega (arith, div-add-mod' x P)) in
        rw (p.0, p.1) (omega (arith, C.step (x % P)))
