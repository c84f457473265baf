-- Lit counts of all outputs of a device over one wait: by what the outputs of a driver share, and by the LS bits of a blinker's.
use Rattle.std.specs.Prelude.{◌≡◌, refl, true, false, List, ℕ, ◌+◌, ◌/◌, ◌^◌, ◌≤◌, ◌<◌, get_or}
use Rattle.std.proofs.Common.{sym, ap, ◌∙◌, arith, le-leb, lt-ltb}
use Rattle.std.proofs.lemmas.Bool.{false≢true}
use Rattle.basics.specs.laws.Logic.{tested, holds, fails}
use Rattle.lamp.proofs.laws.Count.{counted_few}
use Rattle.lamp.specs.laws.Shared.{Fits, shared_lit}
use Rattle.lamp.proofs.laws.Shared.{awake_lit, asleep_lit, shared_fits}
use Rattle.lamp.specs.declared.Shared.{Shared}
use Rattle.chip.specs.Kinds.{is_driver, outputs_of}
use Rattle.chip.specs.Registers.{pwm0, grpfreq, ledout0, is_buffered}
use Rattle.chip.specs.declared.Chip.{Chip}
use Rattle.chip.specs.declared.Chip.TheVariants.{Pca9635, Pca9634, Pca9531, Pca9551}
use Rattle.device.specs.Output.{pair_of, ledout_of, driver_output, ls_of, blinker_output, lamp_lit, lit_now, lit_of}
use Rattle.device.specs.Registers.{in_effect, is_awake, is_blinking}
use Rattle.device.specs.declared.Device.{Device}
use Rattle.device.specs.laws.Output.{driver_shared, grppwm_of, lit_by}

-- no more ticks are lit than pass
pub lit_few : (d : Device) (out w : ℕ) → lit_of d out w ≤ w
unfolding lit_of
lit_few d out w =
    elim (tested (is_awake d)) [
      | holds e ↦ rw e (counted_few (lamp_lit d out) d.count w)
      | fails e ↦ rw e (elim (tested (lit_now d out)) [ holds l ↦ rw l (omega arith) | fails l ↦ rw l (omega arith) ])
    ]

-- ---- drivers

abbrev pub shared_output : Device → ℕ → Shared → ℕ
shared_output d out s = shared_lit (ledout_of d (outputs_of d.chip) out) (in_effect d (pwm0 + out)) s

pub shared_lit_lem : (d : Device) (out w : ℕ) → is_driver d.chip ≡ true → grppwm_of d < 256 → in_effect d (pwm0 + out) < 256 → shared_output d out (driver_shared d w) ≡ lit_of d out w
unfolding lit_of lamp_lit driver_output
shared_lit_lem d out w e hM hN =
    let n = outputs_of d.chip in
    elim (tested (is_awake d)) [
      | holds a ↦ rw (a, e) (awake_lit (ledout_of d n out) (is_blinking d) (in_effect d (pwm0 + out)) (grppwm_of d) (in_effect d (grpfreq n)) d.count w hM hN)
      | fails a ↦ rw (a, e) (asleep_lit (ledout_of d n out) (is_blinking d) (in_effect d (pwm0 + out)) (grppwm_of d) (in_effect d (grpfreq n)) d.count w hM hN)
    ]

-- and it fits
pub driver_fits : (d : Device) (w ledout : ℕ) → grppwm_of d < 256 → w < 2 ^ 64 → Fits ledout (driver_shared d w)
driver_fits d w ledout hM = shared_fits (is_awake d) (is_blinking d) ledout (grppwm_of d) (in_effect d (grpfreq (outputs_of d.chip))) d.count w hM

-- LEDOUT and PWM of an output have a copy in effect
buffered : (chip : Chip) (out : ℕ) → is_driver chip ≡ true → out < outputs_of chip → (is_buffered chip (ledout0 (outputs_of chip) + out / 4) ≡ true) × (is_buffered chip (pwm0 + out) ≡ true)
unfolding is_buffered
buffered Pca9635 out e h = (rw (le-leb 2 (20 + out / 4) (omega arith), lt-ltb (20 + out / 4) 24 (omega arith)) refl, rw (le-leb 2 (2 + out) (omega arith), lt-ltb (2 + out) 24 (omega arith)) refl)
buffered Pca9634 out e h = (rw (le-leb 2 (12 + out / 4) (omega arith), lt-ltb (12 + out / 4) 14 (omega arith)) refl, rw (le-leb 2 (2 + out) (omega arith), lt-ltb (2 + out) 14 (omega arith)) refl)
buffered Pca9531 out e h = absurd (false≢true e)
buffered Pca9551 out e h = absurd (false≢true e)

-- an output's lit ticks, from that copy
abbrev pub copied_output : ℕ → List ℕ → ℕ → Shared → ℕ
copied_output n effective out s = shared_lit (pair_of (get_or effective (ledout0 n + out / 4) 0) out) (get_or effective (pwm0 + out) 0) s

pub shared_gives : (d : Device) (out w x : ℕ) (s : Shared) → is_driver d.chip ≡ true → out < outputs_of d.chip → (s ≡ driver_shared d w) × (grppwm_of d < 256) → get_or d.effective (pwm0 + out) 0 < 256 → x ≡ copied_output (outputs_of d.chip) d.effective out s → x ≡ lit_of d out w
unfolding in_effect
shared_gives d out w x s e h p b q =
    let k = buffered d.chip out e h in
    let led : in_effect d (ledout0 (outputs_of d.chip) + out / 4) ≡ get_or d.effective (ledout0 (outputs_of d.chip) + out / 4) 0 = rw k.0 in
    let pwm : in_effect d (pwm0 + out) ≡ get_or d.effective (pwm0 + out) 0 = rw k.1 in
    q ∙ sym (rw (led, pwm) refl) ∙ ap (shared_output d out) p.0 ∙ shared_lit_lem d out w e p.1 (rw pwm b)

-- ---- blinkers

pub blinker_lit_lem : (d : Device) (out w : ℕ) → is_driver d.chip ≡ false → lit_by d (ls_of d out) w ≡ lit_of d out w
unfolding lit_of lamp_lit blinker_output is_awake
blinker_lit_lem d out w e = rw e
