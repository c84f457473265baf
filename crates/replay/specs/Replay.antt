-- An entry of a recording, and a whole recording: the time goes to every driver, and then the event happens (RULES, Replay).
use Rattle.std.specs.Prelude.{Option, Some, None, ℕ, cond, List, [], ◌∷◌, ◌++◌, ◌==◌}
use Rattle.lamp.specs.declared.DriverTicks.{DriverTicks}
use Rattle.refusals.specs.Refusals.{Refusal, refuse}
use Rattle.bus.specs.Replies.{refused_with, answer}
use Rattle.bus.specs.Events.{step_refusals, step_done}
use Rattle.bus.specs.declared.Bus.{Bus}
use Rattle.bus.specs.declared.Event.{Event}
use Rattle.bus.specs.declared.Reply.{Reply}
use Rattle.replay.specs.Time.{Clock, since, overruns_any, after_time}
use Rattle.replay.specs.declared.Entry.{Entry}
use Rattle.replay.specs.declared.Replayed.{Replayed}

-- an entry by its parts
abbrev pub stamped : ℕ → Event → Option Entry
stamped at e = Some (record { at = at; event = e })

-- the event's own numbers, once the time has passed, and 6 for the time
abbrev pub timed_refusals : DriverTicks → Bus → Event → List Refusal
timed_refusals ticks b e = step_refusals (after_time ticks b) e ++ refuse 6 (overruns_any ticks b) ∷ []

-- refused, the bus is as it was before the time
unfoldable pub timed_reply : DriverTicks → Bus → Event → Reply
timed_reply ticks b e = answer (timed_refusals ticks b e) b (step_done (after_time ticks b) e)

-- an accepted entry's stamp is kept
abbrev pub clock_after : Clock → ℕ → ℕ → Clock
clock_after clock at code = cond (code == 0) (Some at) clock

unfoldable pub replayed : Bus → Clock → Option Entry → Replayed
replayed b clock (Some x) =
    record { reply = timed_reply (since clock x.at) b x.event; clock = clock_after clock x.at (timed_reply (since clock x.at) b x.event).code }
replayed b clock None = record { reply = refused_with b 4; clock = clock }

-- ---- a whole recording: one entry after the other, each on the bus and the clock that the one before left

abbrev pub replay_replies : Bus → Clock → List (Option Entry) → List Reply
replay_replies b clock [] = []
replay_replies b clock (x ∷ l) = (replayed b clock x).reply ∷ replay_replies (replayed b clock x).reply.bus (replayed b clock x).clock l

abbrev pub replay_bus : Bus → Clock → List (Option Entry) → Bus
replay_bus b clock [] = b
replay_bus b clock (x ∷ l) = replay_bus (replayed b clock x).reply.bus (replayed b clock x).clock l
