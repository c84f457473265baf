-- A bus for each driver, tick and setting of an output: a fresh driver, awake, with these registers in effect.
use Rattle.std.specs.Prelude.{◌≡◌, true, cond, ℕ, ◌+◌, ◌/◌, ◌%◌, ◌^◌, ◌≤◌, ◌<◌, eqb, set, replicate, refl}
use Rattle.std.proofs.Common.{◌∙◌, arith, eqb-true, eq-eqb, ne_eqb, le-leb, lt-ltb}
use Rattle.std.proofs.lemmas.Bool.{lt-leb}
use Rattle.basics.specs.Bits.{bit}
use Rattle.basics.specs.Below.{all_below}
use Rattle.basics.specs.First.{all_first}
use Rattle.basics.specs.Parts.{part}
use Rattle.basics.specs.Tabulate.{tabulate}
use Rattle.basics.specs.laws.Table.{at}
use Rattle.basics.specs.laws.Tabulate.{get_or-tabulate}
use Rattle.lamp.specs.Window.{count_limit}
use Rattle.chip.specs.Kinds.{is_driver, outputs_of}
use Rattle.chip.specs.Registers.{mode1, mode2, pwm0, grppwm, grpfreq, ledout0, subadr1, is_buffered}
use Rattle.chip.specs.Addresses.{address_allowed}
use Rattle.chip.specs.Values.{reset_registers}
use Rattle.chip.specs.laws.Registers.{registers_few}
use Rattle.chip.specs.Promises.{reset_legal}
use Rattle.chip.specs.declared.Chip.{Chip}
use Rattle.chip.specs.declared.Chip.TheVariants.{Pca9635, Pca9634, Pca9531, Pca9551}
use Rattle.device.specs.Fields.{with_count, with_written, with_effective}
use Rattle.device.specs.Registers.{in_effect, is_awake, is_blinking}
use Rattle.device.specs.Reset.{fresh}
use Rattle.device.specs.Output.{pair_of, ledout_of}
use Rattle.device.proofs.laws.WellFormed.{well}
use Rattle.device.specs.declared.Device.{Device}
use Rattle.device.specs.declared.Phase.TheVariants.{Idle}
use Rattle.bus.proofs.laws.Records.{zeros_fit}
use Rattle.bus.specs.Devices.{bus_ok}
use Rattle.duty.specs.Output.{Output, Stands}
use Rattle.bus.specs.declared.Bus.{Bus}

-- how an output is set: its brightness N, the group's M and G and this byte in every LEDOUT register, all in effect, and MODE2
pub record Setting : Type 0 where
  pub out : ℕ
  pub N : ℕ
  pub M : ℕ
  pub G : ℕ
  pub ledouts : ℕ
  pub mode2 : ℕ

-- mode 10 on all outputs, mode 11 on all; MODE2 is 05h after reset, and 25h with DMBLNK
abbrev pub individually : ℕ → ℕ → Setting
individually out N = record { out = out; N = N; M = 0; G = 0; ledouts = 170; mode2 = 5 }

abbrev pub dimmedly : ℕ → ℕ → ℕ → Setting
dimmedly out M N = record { out = out; N = N; M = M; G = 0; ledouts = 255; mode2 = 5 }

abbrev pub blinkingly : ℕ → ℕ → ℕ → ℕ → Setting
blinkingly out G M N = record { out = out; N = N; M = M; G = G; ledouts = 255; mode2 = 37 }

-- what a setting has in effect in each register
abbrev in_force : ℕ → Setting → ℕ → ℕ
in_force n s r = cond (eqb r (pwm0 + s.out)) s.N (cond (eqb r (grppwm n)) s.M (cond (eqb r (grpfreq n)) s.G s.ledouts))

-- a fresh driver at the tick t, awake, so set
abbrev driver_set : Chip → ℕ → Setting → Device
driver_set chip t s =
    with_written (with_effective (with_count (fresh chip 0) t) (tabulate 28 (in_force (outputs_of chip) s)))
    (set (set (reset_registers chip) mode1 1) mode2 s.mode2)

abbrev pub bus_set : Chip → ℕ → Setting → Bus
bus_set chip t s = record { phase = Idle; count = 1; devices = replicate 8 (driver_set chip t s); lit = replicate 128 0; unlit = replicate 128 0 }

-- ---- facts by the kind of driver

allowed : (chip : Chip) → address_allowed chip 0 ≡ true
unfolding address_allowed
allowed Pca9635 = refl
allowed Pca9634 = refl
allowed Pca9531 = refl
allowed Pca9551 = refl

awake : (chip : Chip) (t : ℕ) (s : Setting) → is_awake (driver_set chip t s) ≡ true
unfolding is_awake reset_registers
awake Pca9635 t s = refl
awake Pca9634 t s = refl
awake Pca9531 t s = refl
awake Pca9551 t s = refl

pub blinking_is : (chip : Chip) (t : ℕ) (s : Setting) → is_blinking (driver_set chip t s) ≡ bit 5 s.mode2
unfolding reset_registers
blinking_is Pca9635 t s = refl
blinking_is Pca9634 t s = refl
blinking_is Pca9531 t s = refl
blinking_is Pca9551 t s = refl

fours : (chip : Chip) → outputs_of chip % 4 ≡ 0
fours Pca9635 = refl
fours Pca9634 = refl
fours Pca9531 = refl
fours Pca9551 = refl

module _ (chip : Chip) (driver : is_driver chip ≡ true) (t : ℕ) (s : Setting) (h : s.out < outputs_of chip) where
  -- PWM0 through LEDOUT in effect are as set
  in_effect_lem : (r : ℕ) → pwm0 ≤ r → r < subadr1 (outputs_of chip) → in_effect (driver_set chip t s) r ≡ in_force (outputs_of chip) s r
  unfolding in_effect is_buffered
  in_effect_lem r low high =
      rw (driver, le-leb pwm0 r low, lt-ltb r (subadr1 (outputs_of chip)) high)
      (get_or-tabulate 28 (in_force (outputs_of chip) s) r (omega (arith, registers_few chip)))

  brightness : in_effect (driver_set chip t s) (pwm0 + s.out) ≡ s.N
  brightness = in_effect_lem (pwm0 + s.out) (omega arith) (omega arith) ∙ rw (eq-eqb (pwm0 + s.out) (pwm0 + s.out) refl) refl

  pub dimming : in_effect (driver_set chip t s) (grppwm (outputs_of chip)) ≡ s.M
  dimming =
      in_effect_lem (grppwm (outputs_of chip)) (omega arith) (omega arith)
      ∙ rw (ne_eqb (grppwm (outputs_of chip)) (pwm0 + s.out) (λ e. omega arith), eq-eqb (grppwm (outputs_of chip)) (grppwm (outputs_of chip)) refl) refl

  pub frequency : in_effect (driver_set chip t s) (grpfreq (outputs_of chip)) ≡ s.G
  frequency =
      in_effect_lem (grpfreq (outputs_of chip)) (omega arith) (omega arith)
      ∙ rw (
        ne_eqb (grpfreq (outputs_of chip)) (pwm0 + s.out) (λ e. omega arith),
        ne_eqb (grpfreq (outputs_of chip)) (grppwm (outputs_of chip)) (λ e. omega arith),
        eq-eqb (grpfreq (outputs_of chip)) (grpfreq (outputs_of chip)) refl,
      ) refl

  mode : ledout_of (driver_set chip t s) (outputs_of chip) s.out ≡ pair_of s.ledouts s.out
  mode =
      rw (
        in_effect_lem (ledout0 (outputs_of chip) + s.out / 4) (omega arith) (omega (arith, fours chip)),
        ne_eqb (ledout0 (outputs_of chip) + s.out / 4) (pwm0 + s.out) (λ e. omega arith),
        ne_eqb (ledout0 (outputs_of chip) + s.out / 4) (grppwm (outputs_of chip)) (λ e. omega arith),
        ne_eqb (ledout0 (outputs_of chip) + s.out / 4) (grpfreq (outputs_of chip)) (λ e. omega arith),
      ) refl

  pub output : (k : ℕ) → pair_of s.ledouts s.out ≡ k → Output (driver_set chip t s) s.out k s.N
  output k e = record { driver = driver; awake = awake chip t s; mode_is = mode ∙ e; brightness = brightness }

  pub stands : t ≤ count_limit → Stands (bus_set chip t s) 0 s.out t
  unfolding bus_ok all_first all_below part tabulate
  stands k =
      record {
        formed = rw (well Idle (driver_set chip t s) (record { legal = reset_legal chip; allowed = allowed chip; within = le-leb t count_limit k }) refl, zeros_fit (outputs_of chip)) refl;
        there = refl;
        has_output = lt-leb (outputs_of chip) s.out h;
        at = refl;
      }

-- ---- LEDOUT bytes with one mode for all four outputs: AAh has mode 10, FFh mode 11

pub pair_10 : (out : ℕ) → pair_of 170 out ≡ 2
pair_10 out = eqb-true (pair_of 170 out) 2 (at 4 (λ k. eqb (170 / 4 ^ k % 4) 2) refl (out % 4) (omega arith))

pub pair_11 : (out : ℕ) → pair_of 255 out ≡ 3
pair_11 out = eqb-true (pair_of 255 out) 3 (at 4 (λ k. eqb (255 / 4 ^ k % 4) 3) refl (out % 4) (omega arith))
