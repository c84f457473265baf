-- From prefix counts to `Bounded`. A prefix count that stays between two lines strays by at most their distance (`bounded`);
-- that it stays so is shown on one period (`cycle_between`), for individual brightness and for group dimming.
use Rattle.std.specs.Prelude.{◌≡◌, Bool}
use Rattle.std.proofs.Math.Path.{refl}
use Rattle.std.proofs.Common.{sym, ap, ◌∙◌, ⊎_elim, eq-zero-or-pos, zero-add, add-sub_of_le, sub-add_cancel, mod-lt, div-add-mod', mul-le-mul_left, mul-le-mul_right, le_of_lt, arith, lit<, lit≤}
use Prim.Native.Nat.{ℕ, min, ◌+◌, ◌-◌, ◌*◌, ◌/◌, ◌%◌, ◌≤◌, ◌<◌}
use Rattle.std.proofs.Math.Nat.{min-le_left, min-le_right, min-eq_left, min-eq_right}
use Rattle.lamp.specs.Window.{lit_ticks, count_limit}
use Rattle.lamp.specs.Duty.{Bounded}
use Rattle.lamp.specs.laws.Count.{duty_count}
use Rattle.lamp.proofs.laws.Cycle.{Counts}
use Rattle.lamp.proofs.laws.Count.{window, duty_at, group_count, group_more, dimmed_counts}

-- ---- the general law

-- S times the count f of the first x ticks is on or above the line x * K, and on or below the line that is B higher
abbrev pub Between : ℕ → ℕ → ℕ → ℕ → ℕ → Type 0
Between S K B x f = (x * K ≤ S * f) × (S * f ≤ x * K + B)

-- F stays between the two lines, is on the upper one at the tick `peak`, and on the lower one at a later tick `end`
pub record Leads (F : ℕ → ℕ) (S K B : ℕ) : Type 0 where
  pub keeps : (x : ℕ) → Between S K B x (F x)
  pub peak : ℕ
  pub end : ℕ
  pub order : peak ≤ end
  pub short : end ≤ count_limit
  pub ahead : S * F peak ≡ peak * K + B
  pub even : S * F end ≡ end * K

pub bounded : {lit : ℕ → Bool} {F : ℕ → ℕ} {S K B : ℕ} → Counts lit F → Leads F S K B → Bounded lit S K B
bounded {lit} {F} {S} {K} {B} C D =
    record {
      over = λ t w. omega (arith, grown t w, D.keeps t, D.keeps (t + w));
      under = λ t w. omega (arith, grown t w, D.keeps t, D.keeps (t + w));
      above = (0, D.peak, omega arith, omega (arith, rw zero-add at (grown 0 D.peak), ap (λ (n : ℕ). S * n) C.start, D.ahead));
      below = (D.peak, D.end - D.peak, omega arith, omega (arith, rw (add-sub_of_le D.order) at (grown D.peak (D.end - D.peak)), ap (λ (n : ℕ). n * K) (add-sub_of_le D.order), D.ahead, D.even));
    }
  where
    grown : (t w : ℕ) → S * (lit_ticks lit t w + F t) ≡ S * F (t + w)
    grown t w = ap (λ (n : ℕ). S * n) (window C t w)

-- lines that hold in one period hold at every tick
cycle_between : (F : ℕ → ℕ) (c P S K B : ℕ) → 0 < P → S * c ≡ P * K → ((r : ℕ) → r < P → Between S K B r (F r)) → (x : ℕ) → Between S K B x (x / P * c + F (x % P))
cycle_between F c P S K B pos e h x =
    omega (arith, h (x % P) (mod-lt x pos), ap (λ (n : ℕ). x / P * n) e, ap (λ (n : ℕ). n * K) (div-add-mod' x P))

-- ---- individual brightness

module _ (N : ℕ) (h : N < 256) where
  individual_period : (r : ℕ) → r < 256 → Between 256 N (N * (256 - N)) r (min r N)
  individual_period r k = (
    omega (arith, mul-le-mul_left r (le_of_lt h), mul-le-mul_right N (le_of_lt k)),
    omega (arith, mul-le-mul_right N (min-le_left r N), mul-le-mul_right (256 - N) (min-le_right r N), ap (λ (n : ℕ). min r N * n) (sub-add_cancel (le_of_lt h))),
  )

  individual_between : (x : ℕ) → Between 256 N (N * (256 - N)) x (duty_count 256 N x)
  unfolding duty_count
  individual_between = cycle_between (λ x. min x N) N 256 256 N (N * (256 - N)) (lit< tt) refl individual_period

  pub individual_leads : Leads (duty_count 256 N) 256 N (N * (256 - N))
  individual_leads =
      record {
        keeps = individual_between;
        peak = N;
        end = 256;
        order = le_of_lt h;
        short = lit≤ tt;
        ahead = omega (arith, duty_at N 0 {P = 256} {r = N} {x = N} h (omega arith), ap (λ (n : ℕ). N * n) (sub-add_cancel (le_of_lt h)));
        even = omega (arith, duty_at N 1 {P = 256} {r = 0} {x = 256} (lit< tt) refl);
      }

-- ---- group dimming

-- the distance of the two lines
abbrev dimmed_bound : ℕ → ℕ → ℕ
dimmed_bound M N = M * N * (131328 - 512 * M - N)

-- the prefix count
abbrev dimmed_count : ℕ → ℕ → ℕ → ℕ
dimmed_count M N = group_count 131072 (512 * M) N

module _ (M N : ℕ) (hM : M < 256) (hN : N < 256) where
  dimmed_on : duty_count 256 N (512 * M) ≡ 2 * M * N
  dimmed_on = omega (arith, duty_at N (2 * M) {P = 256} {r = 0} {x = 512 * M} (lit< tt) (omega arith))

  -- in the first period: brightness alone, up to the end of the on part
  dimmed_first : (r : ℕ) → r < 131072 → dimmed_count M N r ≡ duty_count 256 N (min r (512 * M))
  dimmed_first r k = ap (duty_count 256 N) (omega (arith, duty_at (512 * M) 0 {P = 131072} {r = r} {x = r} k (omega arith)))

  -- after k periods more
  dimmed_more : (k x : ℕ) → dimmed_count M N (k * 131072 + x) ≡ k * (2 * M * N) + dimmed_count M N x
  dimmed_more k x =
      let e : 512 * M / 256 ≡ 2 * M = omega arith in
      rw e at (group_more 131072 (512 * M) N k x (lit< tt) (omega arith))

  -- In the on part, after q whole periods of 256 ticks and s ticks of the next, m of them lit:
  -- the count is farthest ahead in the last such period, as its N lit ticks end.
  dimmed_peak_lem : (q s m : ℕ) → q < 2 * M → m ≤ s → m ≤ N → 65536 * (q * N + m) ≤ (q * 256 + s) * (M * N) + dimmed_bound M N
  dimmed_peak_lem q s m hq hs hm =
      let b : 131328 - 512 * M - N + (512 * M + N) ≡ 131328 = omega arith in
      let e : 256 - M + M ≡ 256 = sub-add_cancel (le_of_lt hM) in
      let d : 256 - N + N ≡ 256 = sub-add_cancel (le_of_lt hN) in
      omega (
        arith,
        ap (λ (n : ℕ). M * N * n) b,
        mul-le-mul_right ((256 - M) * N) hq,
        ap (λ (n : ℕ). q * N * n) e,
        ap (λ (n : ℕ). M * N * n) e,
        ap (λ (n : ℕ). N * n) e,
        ap (λ (n : ℕ). m * n) e,
        mul-le-mul_left (256 - M) hm,
        ap (λ (n : ℕ). M * m * n) d,
        ap (λ (n : ℕ). M * N * n) d,
        mul-le-mul_right (M * N) hs,
        mul-le-mul_right (M * (256 - N)) hm,
      )

  dimmed_period : (r : ℕ) → r < 131072 → Between 65536 (M * N) (dimmed_bound M N) r (duty_count 256 N (min r (512 * M)))
  dimmed_period r k = ⊎_elim off on (eq-zero-or-pos (512 * M - r))
    where
      on : 0 < 512 * M - r → Between 65536 (M * N) (dimmed_bound M N) r (duty_count 256 N (min r (512 * M)))
      on h =
          let b : r ≤ 512 * M = omega arith in
          rw (min-eq_left b) (
            omega (arith, mul-le-mul_left M (individual_between N hN r).0, mul-le-mul_right (duty_count 256 N r) (le_of_lt hM)),
            rw (duty_at N (r / 256) {P = 256} {r = r % 256} {x = r} (mod-lt r (lit< tt)) (omega arith))
                (rw (div-add-mod' r 256) at (dimmed_peak_lem (r / 256) (r % 256) (min (r % 256) N) (omega arith) (min-le_left (r % 256) N) (min-le_right (r % 256) N))),
          )

      off : 512 * M - r ≡ 0 → Between 65536 (M * N) (dimmed_bound M N) r (duty_count 256 N (min r (512 * M)))
      off h =
          let b : 512 * M ≤ r = omega arith in
          let d : 131072 ≤ r + (131328 - 512 * M - N) = omega arith in
          rw (min-eq_right b, dimmed_on) (omega (arith, mul-le-mul_right (M * N) (le_of_lt k), mul-le-mul_right (M * N) d))

  dimmed_between : (x : ℕ) → Between 65536 (M * N) (dimmed_bound M N) x (dimmed_count M N x)
  dimmed_between x =
      let e : dimmed_count M N x ≡ x / 131072 * (2 * M * N) + dimmed_count M N (x % 131072) = ap (dimmed_count M N) (sym (div-add-mod' x 131072)) ∙ dimmed_more (x / 131072) (x % 131072) in
      rw e
      (cycle_between (dimmed_count M N) (2 * M * N) 131072 65536 (M * N) (dimmed_bound M N) (lit< tt) (omega arith) (λ r k. rw (dimmed_first r k) (dimmed_period r k)) x)

  -- the end of the last lit ticks of the on part
  abbrev dimmed_peak : ℕ
  dimmed_peak = 512 * M - 256 + N

  dimmed_ahead₀ : M ≡ 0 → 65536 * dimmed_count M N dimmed_peak ≡ dimmed_peak * (M * N) + dimmed_bound M N
  dimmed_ahead₀ z = rw z (omega (arith, rw z at (dimmed_between dimmed_peak)))

  dimmed_ahead₁ : 0 < M → 65536 * dimmed_count M N dimmed_peak ≡ dimmed_peak * (M * N) + dimmed_bound M N
  dimmed_ahead₁ h =
      let d : dimmed_peak + (131328 - 512 * M - N) ≡ 131072 = omega arith in
      let near : dimmed_peak ≤ 512 * M = omega arith in
      let all : 2 * M - 1 + 1 ≡ 2 * M = omega arith in
      let v : dimmed_count M N dimmed_peak ≡ 2 * M * N =
      omega (
        arith,
        rw (min-eq_left near) at (dimmed_first dimmed_peak (omega arith)),
        duty_at N (2 * M - 1) {P = 256} {r = N} {x = dimmed_peak} hN (omega arith),
        ap (λ (n : ℕ). n * N) all,
      ) in
      rw v (omega (arith, ap (λ (n : ℕ). M * N * n) d))

  dimmed_end : dimmed_count M N 131072 ≡ 2 * M * N
  dimmed_end = dimmed_more 1 0 ∙ omega (arith, (dimmed_counts hM hN).start)

  pub dimmed_leads : Leads (group_count 131072 (512 * M) N) 65536 (M * N) (M * N * (131328 - 512 * M - N))
  dimmed_leads =
      record {
        keeps = dimmed_between;
        peak = dimmed_peak;
        end = 131072;
        order = omega arith;
        short = lit≤ tt;
        ahead = ⊎_elim dimmed_ahead₀ dimmed_ahead₁ (eq-zero-or-pos M);
        even = omega (arith, dimmed_end);
      }
