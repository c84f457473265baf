-- What the outputs of a driver share over a window: two stretches, one of all ticks and one of those at which the group test holds. An output's lit ticks are those of
-- one of them at its brightness (`awake_lit`, `asleep_lit`).
use Rattle.std.specs.Prelude.{◌≡◌, refl, Bool, true, false, ◌&&◌, cond, ℕ, ◌+◌, ◌-◌, ◌*◌, ◌/◌, ◌%◌, ◌^◌, min, ◌≤◌, ◌<◌, leb, eqb}
use Rattle.std.proofs.Common.{sym, ap, ◌∙◌, ⊎_elim, le_of_lt, mul-one, mul-le-mul_left}
use Rattle.std.proofs.Math.Bool.{and-true, and-false}
use native.Mathlib.Omega.{arith}
use Rattle.std.proofs.Math.Dec.{ltb}
use borrow.Author.Tests.{ne_eqb, leb-true, ltb-true, ltb-false}
use Rattle.basics.specs.laws.Logic.{tested, holds, fails, lt_or_ge}
use Rattle.lamp.specs.Window.{one_if, count_limit, counted_ticks}
use Rattle.lamp.specs.Driver.{individual, grouped, blink_period, blink_on, driver_mode, driver_lit}
use Rattle.lamp.specs.laws.Count.{duty_count}
use Rattle.lamp.proofs.laws.Cycle.{Counts}
use Rattle.lamp.proofs.laws.Count.{window, within, from_zero, never, every, same, duty_counts, individual_counts, dimmed_counts, blinking_counts, blink_on_within, within_counted, counted_few}
use Rattle.lamp.specs.declared.DriverMode.TheVariants.{Dimmed, Blinking}
use Rattle.lamp.specs.declared.Shared.{Shared}
use Rattle.lamp.specs.declared.Stretch.{Stretch}
use Rattle.lamp.specs.laws.Shared.{Fits, Sound, asleep_shared, awake_shared, between, group_below, group_of, lit_on, shared_lit, shared_of, single, stretch_of}

pub by_brightness : (ledout N : ℕ) (s : Shared) → (ledout ≡ 0 → ⊥) → (ledout ≡ 1 → ⊥) → shared_lit ledout N s ≡ lit_on N (stretch_of ledout s) * s.each
unfolding shared_lit
by_brightness ledout N s n m = rw (ne_eqb ledout 0 n, ne_eqb ledout 1 m)

pub group_positive : (dmblnk : Bool) (M G : ℕ) → 0 < (group_of dmblnk M G).period
group_positive true M G = omega arith
group_positive false M G = omega arith

pub group_within : (dmblnk : Bool) (M G : ℕ) → M < 256 → (group_of dmblnk M G).on ≤ (group_of dmblnk M G).period
group_within true M G h = blink_on_within G M h
group_within false M G h = omega arith

-- the group's ticks are among all, and no later tick lowers their count
module _ (dmblnk : Bool) (M G : ℕ) (h : M < 256) where
  group_few : (x : ℕ) → group_below (group_of dmblnk M G) x ≤ x
  group_few x = within (duty_counts (group_positive dmblnk M G) (group_within dmblnk M G h)) x

  group_grows : (t w : ℕ) → group_below (group_of dmblnk M G) t ≤ group_below (group_of dmblnk M G) (t + w)
  group_grows t w = omega (arith, window (duty_counts (group_positive dmblnk M G) (group_within dmblnk M G h)) t w)

-- ---- stretches

between_sound : (from end : ℕ) → from ≤ end → end ≤ count_limit → Sound (between from end)
between_sound from end h k = (omega arith, omega arith)

single_sound : (place n : ℕ) → Sound (single place n)
single_sound place n = (omega arith, omega arith)

-- in a sound one, the lit ticks before its first are among all
pub lit_before : (N : ℕ) (x : Stretch) → Sound x → min x.first N ≤ N * x.whole + min x.last N
lit_before N x s =
    ⊎_elim (λ (h : x.whole < 1). omega (arith, s.0)) (λ (h : 1 ≤ x.whole). omega (arith, mul-le-mul_left N h)) (lt_or_ge x.whole 1)

-- and the whole ones fit
pub lit_fits : (N : ℕ) (x : Stretch) → N < 256 → Sound x → N * x.whole ≤ 256 * count_limit
lit_fits N x h s = omega (arith, mul-le-mul_left N s.1)

-- the lit ones are those below its end less those below its begin
lit_between : (N from end : ℕ) → from ≤ end → lit_on N (between from end) ≡ duty_count 256 N end - duty_count 256 N from
unfolding duty_count
lit_between N from end h =
    let q : end / 256 ≡ (end / 256 - from / 256) + from / 256 = omega arith in
    omega (arith, ap (λ (n : ℕ). n * N) q)

-- ---- awake

-- a window that ends by the limit, by any prefix count
counted : {lit : ℕ → Bool} {F : ℕ → ℕ} → Counts lit F → (t w : ℕ) → leb (t + w) count_limit ≡ true → F (t + w) - F t ≡ counted_ticks lit t w
counted {lit} C t w h = rw (from_zero C (t + w), from_zero C t) (within_counted lit t w true (sym h) refl)

-- in each mode; none where the window ends past the limit
module _ (ledout : ℕ) (dmblnk : Bool) (N M G t w : ℕ) (hM : M < 256) (hN : N < 256) where
  abbrev mode : ℕ → Bool
  mode = driver_lit (driver_mode ledout dmblnk N M G)

  abbrev shared : Shared
  shared = awake_shared (group_of dmblnk M G) t w

  by_group : leb (t + w) count_limit ≡ true → lit_on N (between (group_below (group_of dmblnk M G) t) (group_below (group_of dmblnk M G) (t + w))) ≡ counted_ticks (driver_lit (cond dmblnk (Blinking N M G) (Dimmed N M))) t w
  unfolding driver_lit
  by_group h =
      lit_between N _ _ (group_grows dmblnk M G hM t w)
      ∙ elim (tested dmblnk) [
        | holds e ↦ rw e (counted (same (blinking_counts G hM hN) (λ x. refl)) t w h)
        | fails e ↦ rw e (counted (same (dimmed_counts hM hN) (λ x. refl)) t w h)
      ]

  by_bits : leb (t + w) count_limit ≡ true → shared_lit ledout N shared ≡ counted_ticks mode t w
  unfolding driver_lit shared_lit
  by_bits h =
      elim (tested (eqb ledout 0)) [
        | holds e ↦ rw (h, e) (counted (same never (λ x. refl)) t w h)
        | fails e ↦ rw (h, e) (elim (tested (eqb ledout 1)) [
          | holds e ↦ rw e (omega (arith, counted (same every (λ x. refl)) t w h))
          | fails e ↦ rw e (elim (tested (eqb ledout 2)) [
            | holds e ↦ rw (e, mul-one) (lit_between N t (t + w) (omega arith) ∙ counted (same (individual_counts (le_of_lt hN)) (λ x. refl)) t w h)
            | fails e ↦ rw (e, mul-one) (by_group h)
          ])
        ])
      ]

  none : leb (t + w) count_limit ≡ false → shared_lit ledout N shared ≡ counted_ticks mode t w
  unfolding counted_ticks shared_lit
  none h = rw h (elim (tested (eqb ledout 0)) [
    | holds e ↦ rw e
    | fails e ↦ rw e (elim (tested (eqb ledout 1)) [
      | holds e ↦ rw e
      | fails e ↦ rw e (elim (tested (eqb ledout 2)) [ holds e ↦ rw e (omega arith) | fails e ↦ rw e (omega arith) ])
    ])
  ])

  pub awake_lit : shared_lit ledout N (shared_of true (group_of dmblnk M G) t w) ≡ counted_ticks mode t w
  unfolding shared_of
  awake_lit = elim (tested (leb (t + w) count_limit)) [ holds h ↦ by_bits h | fails h ↦ none h ]

  -- ---- asleep

  -- the present tick by itself
  one_lit : lit_on N (single (t % 256) 1) ≡ one_if (individual N t)
  unfolding individual
  one_lit =
      elim (tested (ltb (t % 256) N)) [
        | holds e ↦ rw e (omega (arith, ltb-true (t % 256) N e))
        | fails e ↦ rw e (omega (arith, ltb-false (t % 256) N e))
      ]

  -- and where the group test holds
  group_one : (on : Bool) → lit_on N (single (t % 256) (one_if on)) ≡ one_if (individual N t && on)
  group_one true = one_lit ∙ rw (and-true (individual N t))
  group_one false = rw (and-false (individual N t)) (omega arith)

  all_or_none : (b : Bool) → one_if b * w ≡ cond b w 0
  all_or_none true = omega arith
  all_or_none false = omega arith

  asleep_group : lit_on N (asleep_shared (group_of dmblnk M G) t w).group * w ≡ cond (driver_lit (cond dmblnk (Blinking N M G) (Dimmed N M)) t) w 0
  unfolding driver_lit grouped
  asleep_group =
      elim (tested dmblnk) [
        | holds e ↦ rw (e, group_one (ltb (t % blink_period G) (blink_on G M))) (all_or_none (individual N t && ltb (t % blink_period G) (blink_on G M)))
        | fails e ↦ rw (e, group_one (ltb (t % 131072) (512 * M))) (all_or_none (individual N t && ltb (t % 131072) (512 * M)))
      ]

  pub asleep_lit : shared_lit ledout N (shared_of false (group_of dmblnk M G) t w) ≡ cond (mode t) w 0
  unfolding shared_lit shared_of driver_lit
  asleep_lit =
      elim (tested (eqb ledout 0)) [
        | holds e ↦ rw e
        | fails e ↦ rw e (elim (tested (eqb ledout 1)) [
          | holds e ↦ rw e
          | fails e ↦ rw e (elim (tested (eqb ledout 2)) [
            | holds e ↦ rw (e, one_lit) (all_or_none (individual N t))
            | fails e ↦ rw e asleep_group
          ])
        ])
      ]

-- ---- what is shared fits

module _ (awake dmblnk : Bool) (ledout M G t w : ℕ) (hM : M < 256) where
  few_lit : (N : ℕ) → N < 256 → shared_lit ledout N (shared_of awake (group_of dmblnk M G) t w) ≤ w
  few_lit N hN =
      elim (tested awake) [
        | holds e ↦ rw (e, awake_lit ledout dmblnk N M G t w hM hN) (counted_few (mode ledout dmblnk N M G t w hM hN) t w)
        | fails e ↦ rw (e, asleep_lit ledout dmblnk N M G t w hM hN) (elim (tested (mode ledout dmblnk N M G t w hM hN t)) [ holds l ↦ rw l (omega arith) | fails l ↦ rw l (omega arith) ])
      ]

  sound : Sound (stretch_of ledout (shared_of awake (group_of dmblnk M G) t w))
  unfolding shared_of
  sound =
      elim (tested awake) [
        | holds a ↦ elim (tested (leb (t + w) count_limit)) [
          | holds e ↦
              let k = leb-true (t + w) count_limit e in
              rw (a, e) (either _ _ (between_sound t (t + w) (omega arith) k) (between_sound _ _ (group_grows dmblnk M G hM t w) (omega (arith, k, group_few dmblnk M G hM (t + w)))))
          | fails e ↦ rw (a, e) (either _ _ (omega arith, omega arith) (omega arith, omega arith))
        ]
        | fails a ↦ rw a (either _ _ (single_sound _ _) (single_sound _ _))
      ]
    where
      either : (x y : Stretch) → Sound x → Sound y → Sound (cond (eqb ledout 2) x y)
      either x y p q = elim (tested (eqb ledout 2)) [ holds l ↦ rw l p | fails l ↦ rw l q ]

  pub shared_fits : w < 2 ^ 64 → Fits ledout (shared_of awake (group_of dmblnk M G) t w)
  shared_fits h = (sound, λ N hN. omega (arith, h, few_lit N hN))
