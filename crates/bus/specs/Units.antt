-- wait and lit for a duration, which says its unit: as by a bare number, with 10 for the wrong sort of device.
use Rattle.std.specs.Prelude.{ℕ, Bool, not, List, [], ◌∷◌, ◌++◌}
use Rattle.lamp.specs.declared.Duration.{Duration}
use Rattle.device.specs.Wait.{is_own, is_too_long_for}
use Rattle.device.specs.Output.{lit_for}
use Rattle.device.specs.declared.Device.{Device}
use Rattle.totals.specs.Wait.{exceeds_for, waited_for}
use Rattle.totals.specs.declared.Record.{Record}
use Rattle.refusals.specs.Refusals.{Refusal, refuse}
use Rattle.bus.specs.Devices.{device_at, record_at, with_record}
use Rattle.bus.specs.Replies.{done_with, answer}
use Rattle.bus.specs.Place.{place_refusals, is_missing}
use Rattle.bus.specs.declared.Bus.{Bus}
use Rattle.bus.specs.declared.Reply.{Reply}

-- steps for a driver, or ticks for a blinker
abbrev pub is_foreign : Device → Duration → Bool
is_foreign d w = not (is_own d.chip w)

abbrev pub wait_refusals : Record → Duration → List Refusal
wait_refusals r w = refuse 6 (exceeds_for r w) ∷ refuse 10 (is_foreign r.device w) ∷ []

abbrev pub wait_for_refusals : Bus → ℕ → Duration → List Refusal
wait_for_refusals b dev w = place_refusals b dev ++ wait_refusals (record_at b dev) w

unfoldable pub wait_for_reply : Bus → ℕ → Duration → Reply
wait_for_reply b dev w = answer (wait_for_refusals b dev w) b (done_with 0 (with_record b dev (waited_for (record_at b dev) w)))

abbrev pub lit_for_refusals : Bus → ℕ → ℕ → Duration → List Refusal
lit_for_refusals b dev out w =
    place_refusals b dev
    ++ refuse 6 (is_too_long_for (device_at b dev) w)
    ∷ refuse 9 (is_missing (device_at b dev) out)
    ∷ refuse 10 (is_foreign (device_at b dev) w)
    ∷ []

unfoldable pub lit_for_reply : Bus → ℕ → ℕ → Duration → Reply
lit_for_reply b dev out w = answer (lit_for_refusals b dev out w) b (done_with (lit_for (device_at b dev) out w) b)
