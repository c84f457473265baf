-- Events and questions for the device at one position.
use Rattle.std.specs.Prelude.{ℕ, Bool, not, List, [], ◌∷◌, ◌++◌, leb, ltb, eqb}
use Rattle.chip.specs.Kinds.{is_driver, outputs_of}
use Rattle.device.specs.Fields.{with_oe, with_levels}
use Rattle.device.specs.Reset.{after_reset}
use Rattle.device.specs.Output.{lit_of, pin_of}
use Rattle.device.specs.Wait.{is_too_long}
use Rattle.device.specs.Start.{common_start_of}
use Rattle.device.specs.declared.Device.{Device}
use Rattle.totals.specs.Totals.{record_of}
use Rattle.totals.specs.Wait.{exceeds, waited}
use Rattle.totals.specs.declared.Record.{Record}
use Rattle.refusals.specs.Refusals.{Refusal, refuse}
use Rattle.bus.specs.Devices.{bus_ok, has_device, device_at}
use Rattle.bus.specs.Replies.{done_with, answer}
use Rattle.bus.specs.declared.Bus.{Bus}
use Rattle.bus.specs.declared.Change.{Change}
use Rattle.bus.specs.declared.Change.TheVariants.{Wait, Oe, Ext, Reset}
use Rattle.bus.specs.declared.Question.{Question}
use Rattle.bus.specs.declared.Question.TheVariants.{Lit, Pin}
use Rattle.bus.specs.declared.Reply.{Reply}

-- 3 no device at that position; 4 a bus that is not well formed
abbrev pub place_refusals : Bus → ℕ → List Refusal
place_refusals b dev = refuse 3 (not (has_device b dev)) ∷ refuse 4 (not (bus_ok b)) ∷ []

-- ---- what changes the device

-- 7 a level above the largest; 10 the wrong sort of device
abbrev pub level_refusals : ℕ → ℕ → Bool → List Refusal
level_refusals most level wrong = refuse 7 (ltb most level) ∷ refuse 10 wrong ∷ []

-- 6 a wait that is longer than 2^48, or would bring an awake device's count or an output's totals past their limit
unfoldable pub change_refusals : Record → Change → List Refusal
change_refusals r (Wait ticks) = refuse 6 (exceeds r ticks) ∷ []
change_refusals r (Oe level) = level_refusals 1 level (not (is_driver r.device.chip))
change_refusals r (Ext level) = level_refusals 255 level (is_driver r.device.chip)
change_refusals r Reset = []

-- only a wait changes totals
abbrev pub with_chip : Record → Device → Record
with_chip r d = record_of d r.lit r.unlit

unfoldable pub after_change : Record → Change → Record
after_change r (Wait ticks) = waited r ticks
after_change r (Oe level) = with_chip r (with_oe r.device (eqb level 1))
after_change r (Ext level) = with_chip r (with_levels r.device level)
after_change r Reset = with_chip r (after_reset r.device)

-- ---- what asks it

-- no such output
abbrev pub is_missing : Device → ℕ → Bool
is_missing d out = leb (outputs_of d.chip) out

unfoldable pub question_refusals : Device → Question → List Refusal
question_refusals d (Lit out ticks) = refuse 6 (is_too_long d ticks) ∷ refuse 9 (is_missing d out) ∷ []
question_refusals d (Pin out) = refuse 9 (is_missing d out) ∷ []

unfoldable pub value_of : Device → Question → ℕ
value_of d (Lit out ticks) = lit_of d out ticks
value_of d (Pin out) = pin_of d out

-- the blink-start question: 10 for a driver
abbrev pub blink_refusals : Bus → ℕ → List Refusal
blink_refusals b dev = place_refusals b dev ++ refuse 10 (is_driver (device_at b dev).chip) ∷ []

unfoldable pub blink_reply : Bus → ℕ → Reply
blink_reply b dev = answer (blink_refusals b dev) b (done_with (common_start_of (device_at b dev)) b)
