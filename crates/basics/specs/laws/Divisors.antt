-- `gcd_of` is the greatest common divisor, and `lcm_of` the least common multiple.
-- `d ∣ n` says that d divides n.
use Rattle.std.specs.Prelude.{◌≡◌, refl, ℕ, zero, suc, ◌*◌, ◌/◌, ◌%◌, ◌≤◌, ◌<◌}
use Rattle.std.proofs.Math.Path.{ap}
use Rattle.std.proofs.Common.{⊎_elim, mul_comm, mul-pos, mod-lt, lt_of_lt_of_le, le_of_suc-le-suc, le_refl, eq-zero-or-pos, mul-le-mul_left, mul-le-mul_right, arith, ne_eqb}
use Rattle.std.specs.Int.{◌∣◌}
use Rattle.std.proofs.Math.Nat.{dvd_refl, dvd-zero, dvd_trans, dvd_antisymm, dvd-mul_left, dvd-mul_right, dvd-mod_iff, le_of_dvd, pos_of_dvd_of_pos, mul-div_cancel', mul-dvd-mul_left, mul-dvd-mul_right, dvd_of_mul-dvd-mul_left, dvd_of_mul-dvd-mul_right}
use Rattle.basics.specs.Divisors.{euclid, gcd_of, lcm_of}

-- g divides a and b, and whatever divides both divides g
pub record IsGcd (a b g : ℕ) : Type 0 where
  pub left : g ∣ a
  pub right : g ∣ b
  pub greatest : (d : ℕ) → d ∣ a → d ∣ b → d ∣ g

-- a and b divide l, which is above 0, and both divide no smaller number above 0
pub record IsLcm (a b l : ℕ) : Type 0 where
  pub positive : 0 < l
  pub left : a ∣ l
  pub right : b ∣ l
  pub least : (t : ℕ) → 0 < t → a ∣ t → b ∣ t → l ≤ t

gcd_zero : (a : ℕ) → IsGcd a 0 a
gcd_zero a = record { left = dvd_refl a; right = dvd-zero a; greatest = λ d h k. h }

gcd_mod : (a b g : ℕ) → IsGcd b (a % b) g → IsGcd a b g
gcd_mod a b g h = record {
  left = (dvd-mod_iff g h.left).0 h.right;
  right = h.left;
  greatest = λ d u v. h.greatest d v ((dvd-mod_iff d v).1 u);
}

-- b steps are enough, and more change nothing
euclid_is : (n a b : ℕ) → b ≤ n → IsGcd a b (euclid n a b)
unfolding euclid
euclid_is zero a b h = let z : b ≡ 0 = omega arith in rw z (gcd_zero a)
euclid_is (suc n) a b h =
    ⊎_elim
    (λ z. rw z (gcd_zero a))
    (λ p. rw (ne_eqb b 0 (λ e. omega arith)) (gcd_mod a b _ (euclid_is n b (a % b) (le_of_suc-le-suc (lt_of_lt_of_le (mod-lt a p) h)))))
    (eq-zero-or-pos b)

pub gcd_is : (a b : ℕ) → IsGcd a b (gcd_of a b)
unfolding gcd_of
gcd_is a b = euclid_is b a b (le_refl b)

pub gcd_none : (a : ℕ) → a ≡ gcd_of a 0
unfolding gcd_of euclid
gcd_none a = refl

-- both are greatest common divisors of a and b, so each divides the other
pub gcd_step : (a b : ℕ) → gcd_of b (a % b) ≡ gcd_of a b
gcd_step a b =
    let g = gcd_mod a b (gcd_of b (a % b)) (gcd_is b (a % b)) in
    let h = gcd_is a b in
    dvd_antisymm (h.greatest (gcd_of b (a % b)) g.left g.right) (g.greatest (gcd_of a b) h.left h.right)

pub gcd_pos : (a b : ℕ) → 0 < a → 0 < gcd_of a b
gcd_pos a b h = pos_of_dvd_of_pos (gcd_is a b).left h

module _ (a b : ℕ) (A : 0 < a) (B : 0 < b) where
  over : gcd_of a b * (a / gcd_of a b) ≡ a
  over = mul-div_cancel' (gcd_of a b) (gcd_is a b).left

  times_b : lcm_of a b ≡ a * (b / gcd_of a b)
  unfolding lcm_of
  times_b = omega (arith, ap (λ (n : ℕ). a / gcd_of a b * n) (mul-div_cancel' (gcd_of a b) (gcd_is a b).right), ap (λ (n : ℕ). n * (b / gcd_of a b)) over)

  times_gcd : lcm_of a b * gcd_of a b ≡ a * b
  unfolding lcm_of
  times_gcd = omega (arith, ap (λ (n : ℕ). n * b) over)

  -- h, the gcd of t * a and t * b, is t times what divides a and b, so it divides t times their gcd; and a * b divides h
  scaled : (t : ℕ) → 0 < t → a ∣ t → b ∣ t → a * b ∣ t * gcd_of a b
  scaled t T u v =
      let h = gcd_of (t * a) (t * b) in
      let H = gcd_is (t * a) (t * b) in
      let k = h / t in
      let e : t * k ≡ h = mul-div_cancel' t (H.greatest t (dvd-mul_right t a) (dvd-mul_right t b)) in
      let ka : k ∣ a = dvd_of_mul-dvd-mul_left k T (rw e H.left) in
      let kb : k ∣ b = dvd_of_mul-dvd-mul_left k T (rw e H.right) in
      let hg : h ∣ t * gcd_of a b = rw e at (mul-dvd-mul_left k t ((gcd_is a b).greatest k ka kb)) in
      dvd_trans (a * b) (H.greatest (a * b) (rw (mul_comm a b) (mul-dvd-mul_right b v a)) (mul-dvd-mul_right a u b)) hg

  multiple : (t : ℕ) → 0 < t → a ∣ t → b ∣ t → lcm_of a b ∣ t
  multiple t T u v = dvd_of_mul-dvd-mul_right (lcm_of a b) (gcd_pos a b A) (rw times_gcd (scaled t T u v))

  pub lcm_is : IsLcm a b (lcm_of a b)
  unfolding lcm_of
  lcm_is = record {
    positive = pos_of_dvd_of_pos (multiple (a * b) (mul-pos A B) (dvd-mul_right a b) (dvd-mul_left b a)) (mul-pos A B);
    left = rw times_b (dvd-mul_right a (b / gcd_of a b));
    right = dvd-mul_left b (a / gcd_of a b);
    least = λ t T u v. le_of_dvd T (multiple t T u v);
  }

  -- a * b is a common multiple
  pub lcm_le : a ≤ 256 → b ≤ 256 → lcm_of a b ≤ 65536
  lcm_le h k = omega (arith, lcm_is.least (a * b) (mul-pos A B) (dvd-mul_right a b) (dvd-mul_left b a), mul-le-mul_right b h, mul-le-mul_left 256 k)
