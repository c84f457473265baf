-- In the device's own unit, wait and lit for a duration are those by the number that it holds.
use Rattle.std.specs.Prelude.{◌≡◌, true, ℕ}
use Rattle.lamp.specs.Duration.{amount}
use Rattle.lamp.specs.declared.Duration.{Duration}
use Rattle.device.specs.Output.{lit_of, lit_for}
use Rattle.device.specs.Wait.{is_own, own_duration}
use Rattle.device.proofs.laws.Wait.{own_is_own, own_amount}
use Rattle.device.specs.declared.Device.{Device}
use Rattle.totals.specs.Wait.{exceeds}
use Rattle.refusals.specs.Refusals.{least, code_of}
use Rattle.bus.specs.Devices.{device_at}
use Rattle.bus.specs.Replies.{answer}
use Rattle.bus.specs.Place.{change_refusals, after_change, question_refusals, value_of}
use Rattle.bus.specs.Units.{wait_for_reply, lit_for_reply}
use Rattle.bus.specs.Events.{step_refusals, step_done, step_reply, wait_reply, lit_reply}
use Rattle.bus.specs.declared.Bus.{Bus}

module _ (b : Bus) (dev : ℕ) (w : Duration) (own : is_own (device_at b dev).chip w ≡ true) where
  pub own_wait : wait_for_reply b dev w ≡ wait_reply b dev (amount w)
  unfolding wait_for_reply step_reply step_refusals step_done change_refusals after_change exceeds answer code_of least
  own_wait = rw own

  pub own_lit : (out : ℕ) → lit_for_reply b dev out w ≡ lit_reply b dev out (amount w)
  unfolding lit_for_reply step_reply step_refusals step_done question_refusals value_of answer code_of least
  own_lit out = rw own

-- and so is a bare number, in the unit of the device's kind
pub bare_lit : (d : Device) (out n : ℕ) → lit_for d out (own_duration d.chip n) ≡ lit_of d out n
bare_lit d out n = rw (own_is_own d.chip n, own_amount d.chip n)
