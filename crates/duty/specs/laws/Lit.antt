-- What lit counts: by the mode that an output follows, and accepted where the window ends by the limit.
use Rattle.std.specs.Prelude.{◌≡◌, refl, Bool, true, false, ℕ, ◌+◌, ◌≤◌, leb, ltb}
use Rattle.std.proofs.Common.{ap, ◌∙◌, arith, le-leb, le-ltb}
use Rattle.std.proofs.Math.Bool.{and-false}
use Rattle.std.proofs.lemmas.Bool.{not-false}
use Rattle.lamp.specs.Window.{lit_ticks, count_limit}
use Rattle.lamp.specs.Driver.{driver_lit}
use Rattle.lamp.specs.declared.DriverMode.{DriverMode}
use Rattle.lamp.specs.declared.DriverMode.TheVariants as Mode
use Rattle.chip.specs.Kinds.{is_driver, outputs_of}
use Rattle.device.specs.Registers.{is_awake}
use Rattle.device.specs.Output.{driver_output, lamp_lit}
use Rattle.device.specs.Wait.{overruns}
use Rattle.device.specs.declared.Device.{Device}
use Rattle.refusals.specs.Refusals.{least, code_of}
use Rattle.bus.specs.Devices.{device_at}
use Rattle.bus.specs.Replies.{answer}
use Rattle.bus.specs.Place.{question_refusals}
use Rattle.bus.specs.Events.{step_reply, step_refusals, step_done, lit_reply}
use Rattle.duty.specs.Output.{Output, Individual, Dimmed, Blinking, Stands}
use Rattle.bus.specs.declared.Bus.{Bus}

pub in_limit : (d : Device) (w : ℕ) → is_awake d ≡ true → overruns d w ≡ false → leb (d.count + w) count_limit ≡ true
unfolding overruns
in_limit d w a o = not-false (leb (d.count + w) count_limit) (rw a at o)

follows : (d : Device) (out : ℕ) → is_driver d.chip ≡ true → lamp_lit d out ≡ driver_lit (driver_output d (outputs_of d.chip) out)
unfolding lamp_lit
follows d out h = rw h refl

pub individual_mode : (d : Device) (out N : ℕ) → Individual d out N → driver_output d (outputs_of d.chip) out ≡ Mode.Individual N
unfolding driver_output
individual_mode d out N o = rw (o.mode_is, o.brightness) refl

pub dimmed_mode : (d : Device) (out M N : ℕ) → Dimmed d out M N → driver_output d (outputs_of d.chip) out ≡ Mode.Dimmed N M
unfolding driver_output
dimmed_mode d out M N o = rw (o.output.mode_is, o.steady, o.output.brightness, o.dimming) refl

pub blinking_mode : (d : Device) (out G M N : ℕ) → Blinking d out G M N → driver_output d (outputs_of d.chip) out ≡ Mode.Blinking N M G
unfolding driver_output
blinking_mode d out G M N o = rw (o.output.mode_is, o.blinks, o.output.brightness, o.dimming, o.frequency) refl

-- the lit ticks of an awake driver's output are those of the mode that it follows
pub counts : (d : Device) (out w mode N : ℕ) (m : DriverMode) → Output d out mode N → driver_output d (outputs_of d.chip) out ≡ m → lit_ticks (lamp_lit d out) d.count w ≡ lit_ticks (driver_lit m) d.count w
counts d out w mode N m o e =
    ap (λ (lit : ℕ → Bool). lit_ticks lit d.count w) (follows d out o.driver ∙ ap driver_lit e)

-- lit is accepted where the window ends by the limit
pub lit_accepted : (b : Bus) (dev out t w : ℕ) → Stands b dev out t → t + w ≤ count_limit → (lit_reply b dev out w).code ≡ 0
unfolding step_reply step_refusals step_done question_refusals answer code_of least overruns
lit_accepted b dev out t w s h =
    let e : leb ((device_at b dev).count + w) count_limit ≡ true = rw s.at (le-leb (t + w) count_limit h) in
    let l : ltb count_limit w ≡ false = le-ltb count_limit w (omega arith) in
    rw (s.formed, s.there, s.has_output, l, e, and-false (is_awake (device_at b dev))) refl
