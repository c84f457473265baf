-- A blink begins at the multiples of its period, 256 times the steps of its prescaler.
use Rattle.std.specs.Prelude.{◌≡◌, ℕ, ◌+◌, ◌*◌, ◌/◌, ◌%◌, ◌≤◌, ◌<◌}
use Rattle.std.proofs.Common.{sym, ◌∙◌, arith}
use Rattle.std.specs.Int.{◌∣◌}
use Rattle.std.proofs.Math.Nat.{eq_of_mul-eq-mul_right, dvd_trans, dvd-mul_right, mul-div_cancel', dvd_of_mul-dvd-mul_left, mod-eq-zero_of_dvd, dvd_of_mod-eq-zero}
use Rattle.std.proofs.Math.Arith.{mod-mul}
use Rattle.basics.specs.Divisors.{lcm_of}
use Rattle.basics.specs.laws.Divisors.{lcm_is}
use Rattle.blink.specs.Start.{AtStart}

-- no number above 0 that 256 * a and 256 * b divide is smaller
pub least_256 : (a b : ℕ) → 0 < a → 0 < b → (t : ℕ) → 0 < t → 256 * a ∣ t → 256 * b ∣ t → 256 * lcm_of a b ≤ t
least_256 a b A B t T u v =
    let n = t / 256 in
    let e : 256 * n ≡ t = mul-div_cancel' 256 (dvd_trans 256 (dvd-mul_right 256 a) u) in
    let an : a ∣ n = dvd_of_mul-dvd-mul_left {k = 256} a (omega arith) (rw e u) in
    let bn : b ∣ n = dvd_of_mul-dvd-mul_left {k = 256} b (omega arith) (rw e v) in
    omega (arith, (lcm_is a b A B).least n (omega arith) an bn)

-- a blink with the prescaler S begins at the multiples of 256 * (S + 1)
module _ (S t : ℕ) where
  pub starts : 256 * (S + 1) ∣ t → AtStart S t
  starts h =
      let e : t / (S + 1) % 256 * (S + 1) + t % (S + 1) ≡ 0 = sym (mod-mul t (omega arith) (omega arith)) ∙ mod-eq-zero_of_dvd (256 * (S + 1)) h in
      (eq_of_mul-eq-mul_right (S + 1) (omega arith) (t / (S + 1) % 256) 0 (omega arith), omega arith)

  pub started : AtStart S t → 256 * (S + 1) ∣ t
  started h = dvd_of_mod-eq-zero (256 * (S + 1)) (mod-mul t (omega arith) (omega arith) ∙ rw (h.0, h.1) (omega arith))
